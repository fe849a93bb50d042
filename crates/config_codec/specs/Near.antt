-- A number takes at most five bytes: of the input, and of a value.
use Prim.Native.Nat.{ℕ, suc, ◌+◌, ◌≤◌}
use mathlib.Core.List.{List}
use native.Mathlib.Omega.{arith}
use lib.ListN.{drop}
use Rattle.number.specs.Number.{groups, leading, read_number}
use Rattle.number.proofs.Cases.{by_test}
use Rattle.number.proofs.Groups.{groups_elim}
use Rattle.config.specs.declared.Config.{Config}
use Rattle.config.specs.declared.Draft.{Draft}
use Rattle.config.specs.Draft.{asked, silent}
use Rattle.config.specs.Reader.{number_at}
use Rattle.config.proofs.Walk.{length_bytes_at}
use Rattle.config_codec.specs.Walk.{given}

groups_near : (k : ℕ) (bs : List ℕ) → (groups k bs).place ≤ suc k
groups_near =
    groups_elim (λ k _ r. r.place ≤ suc k)
    (λ k. omega arith)
    (λ b bs h. omega arith)
    (λ b bs h. omega arith)
    (λ k b bs h. omega arith)
    (λ k b bs r h n s p. omega (arith, p))
    (λ k b bs r h n s p. omega arith)
    (λ k b bs r h n p. omega (arith, p))

number_near : (bs : List ℕ) (at : ℕ) → (read_number bs at).place ≤ at + 5
unfolding read_number
number_near bs at = omega (arith, groups_near leading (drop at bs))

pub read_near : (d : Draft) (bs : List ℕ) (at : ℕ) → (number_at d bs at).place ≤ at + 5
unfolding number_at
read_near d bs at =
    by_test (silent d)
    (λ q. rw q (omega arith))
    (λ q. rw q (number_near bs at))

pub given_near : (c : Config) (d : Draft) (at : ℕ) → (given c d at).place ≤ at + 5
given_near c d at = omega (arith, length_bytes_at d (asked c d))
