-- What a writer that is lent no byte tells of a configuration: its first fault, or 30, since it takes a byte at least.
use Prim.Native.Nat.{ℕ, suc, ◌<◌}
use mathlib.Core.Path.{◌≡◌, refl, sym, ap, ◌∙◌}
use mathlib.Core.Bool.{false}
use native.Mathlib.Omega.{arith}
use lib.Dec.{leb}
use lib.ListN.{length, length-append}
use borrow.Author.Tests.{eq-eqb, ne_eqb}
use Rattle.number.specs.Refusal.{none, no_room}
use Rattle.number.specs.Number.{number_bytes}
use Rattle.number.specs.Output.{Written, writing, unwritten}
use Rattle.number.proofs.Cases.{by_test, by_eq}
use Rattle.number.proofs.Theorems.{writing_no_room, length_number_bytes}
use Rattle.config.specs.declared.Config.{Config}
use Rattle.config.specs.declared.Draft.{Draft}
use Rattle.config.specs.Draft.{start, put, asked, ended, silent}
use Rattle.config.proofs.Theorems.{length_config_bytes}
use Rattle.config.specs.Writer.{first_fault, bytes_at, bytes_from, config_bytes, write_config}

-- a configuration takes a byte at least: its version's
some_from_lem : (k : ℕ) (c : Config) (d : Draft) → ended d.field ≡ false → silent d ≡ false
    → 0 < length (bytes_from (suc k) c d)
unfolding bytes_at bytes_from
some_from_lem k c d e q =
    rw (e, q, length-append (number_bytes (asked c d)) (bytes_from k c (put d (asked c d))))
    (let h = (length_number_bytes (asked c d)).0 in omega arith)

some_byte : (c : Config) → 0 < length (config_bytes c)
unfolding ended
some_byte c = some_from_lem 291 c start refl refl

module _ (c : Config) {w : Written} (e : w ≡ write_config c 0) where
  no_room_lem : first_fault c ≡ none → w ≡ unwritten no_room (length (config_bytes c))
  no_room_lem z =
      e ∙ rw (eq-eqb (first_fault c) none z)
      (sym (writing_no_room (config_bytes c) 0 (length (config_bytes c)) refl (some_byte c)))

  refused : (first_fault c ≡ none → ⊥) → w ≡ unwritten (first_fault c) 0
  refused d = e ∙ rw (ne_eqb (first_fault c) none d)

  pub fault_told : w.place ≡ 0 → w.refusal ≡ first_fault c
  fault_told r =
      by_eq (first_fault c) none
      (λ z. let p : w.place ≡ length (config_bytes c) = ap (λ (v : Written). v.place) (no_room_lem z) in
      absurd (omega (arith, some_byte c)))
      (λ d. ap (λ (v : Written). v.refusal) (refused d))

-- a writer's place is below 2 ^ 63
pub place_lt : (c : Config) (n : ℕ) {w : Written} → w ≡ write_config c n → w.place < 9223372036854775808
unfolding writing
place_lt c n e =
    let l = length_config_bytes c in
    rw e
    (by_eq (first_fault c) none
    (λ z. rw (eq-eqb (first_fault c) none z)
    (by_test (leb (length (config_bytes c)) n) (λ f. rw f (omega arith)) (λ f. rw f (omega arith))))
    (λ d. rw (ne_eqb (first_fault c) none d) (omega arith)))
