-- The walk over the input, with bytes that are left over refused, is what the reader gives.
use Prim.Native.Nat.{ℕ, zero, suc, ◌≤◌}
use mathlib.Core.Path.{◌≡◌, refl, sym, ap, ◌∙◌}
use mathlib.Core.Bool.{cond}
use mathlib.Core.List.{List}
use native.Mathlib.Omega.{arith}
use lib.Dec.{eqb}
use borrow.Author.Tests.{le-leb, ne_eqb}
use lib.ListN.{length}
use Rattle.number.specs.Number.{NumberRead}
use Rattle.number.specs.Refusal.{none}
use Rattle.number.proofs.Cases.{by_test, by_eq}
use Rattle.config.specs.declared.Draft.{Draft}
use Rattle.config.specs.Refusal.{left_over}
use Rattle.config.specs.Draft.{put, ended, start, Within}
use Rattle.config.specs.Reader.{ConfigRead, refused, number_at, number_fault, fault_place, read_from, max_numbers, max_length, read_config}
use Rattle.config.proofs.Position.{left, start_within, moved, some_left}
use Rattle.config.proofs.Walk.{number_fine, read_end, read_step, read_stop}
use Rattle.config_codec.specs.Walk.{walk_from}
use Rattle.config_codec.proofs.Walks.{walk_end, walk_step, walk_stop}

module _ (bs : List ℕ) where
  abbrev pub source : Draft → ℕ → NumberRead
  source d at = number_at d bs at

  -- bytes that are left over are refused
  abbrev pub finished_with : ConfigRead → ConfigRead
  finished_with a =
      cond (eqb a.refusal none) (cond (eqb a.place (length bs)) a (refused left_over a.place)) a

  pub walk_reads : (k at : ℕ) (d : Draft) → Within d → left d ≤ k
      → finished_with (walk_from source k at d) ≡ read_from k bs at d
  unfolding walk_from read_from
  walk_reads zero at d w h = by_test (ended d.field) (λ e. rw e) (λ e. absurd (omega (arith, some_left d e w)))
  walk_reads (suc k) at d w h =
      let r = source d at in
      by_test (ended d.field)
      (λ e. ap finished_with (walk_end source (suc k) at d e) ∙ sym (read_end (suc k) bs at d e))
      (λ e.
      by_eq (number_fault d r) none
      (λ f.
      let m = moved d r.value e (number_fine d r f).1 w in
      ap finished_with (walk_step source k at d r refl e f)
      ∙ walk_reads k r.place (put d r.value) m.within (omega (arith, h, m.fewer))
      ∙ sym (read_step k bs at d r refl e f))
      (λ n.
      let refusing : finished_with (refused (number_fault d r) (fault_place at r))
      ≡ refused (number_fault d r) (fault_place at r) = rw (ne_eqb (number_fault d r) none n) in
      ap finished_with (walk_stop source k at d r refl e n) ∙ refusing ∙ sym (read_stop k bs at d r refl e n)))

  -- so it is what the reader gives
  pub read_answer : (a : ConfigRead) → length bs ≤ max_length → a ≡ walk_from source max_numbers 0 start
      → finished_with a ≡ read_config bs
  unfolding read_config
  read_answer a h e =
      ap finished_with e ∙ walk_reads max_numbers 0 start start_within (omega arith)
      ∙ rw (le-leb (length bs) max_length h) refl
