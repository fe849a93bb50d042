-- A refusal's place lies in the text, its end included.
use Prim.Native.Nat.{ℕ, zero, suc, ◌≤◌}
use mathlib.Core.List.{List}
use native.Mathlib.Omega.{arith}
use lib.Dec.{eqb}
use lib.ListN.{length}
use Rattle.number.proofs.Cases.{by_test}
use Rattle.oil_grammar.specs.Records.{Progress}
use Rattle.oil_grammar.specs.Token.{end_sort}
use Rattle.oil_grammar.specs.Next.{next_token}
use Rattle.oil_grammar.specs.Automaton.{after, fresh}
use Rattle.oil_grammar.specs.Walk.{fault_in, walk, unborne_at, unborne}
use Rattle.oil_grammar.specs.Reader.{walked}
use Rattle.oil_grammar.proofs.Bounds.{next_inside}

walk_place : (k : ℕ) (t : List ℕ) (at : ℕ) (s : Progress) (n : ℕ) → at ≤ length t → (walk k t at s n).place ≤ length t
unfolding walk
walk_place zero t at s n h = h
walk_place (suc k) t at s n h =
    let w = next_token t at in
    let x = next_inside t at h in
    by_test (eqb (fault_in t s n (next_token t at)) 0)
    (λ e. by_test (eqb (next_token t at).sort end_sort)
    (λ f. rw (e, f) (omega arith))
    (λ f. rw (e, f) (walk_place k t (next_token t at).end (after s (next_token t at).sort) (suc n) x.inside)))
    (λ e. rw e (omega (arith, x.forward, x.inside)))

pub walked_place : (t : List ℕ) → (walked t).place ≤ length t
walked_place t = walk_place (suc (length t)) t 0 fresh 0 (omega arith)

unborne_from : (k : ℕ) (t : List ℕ) (at : ℕ) (s : Progress) (n : ℕ) → at ≤ length t
    → (unborne k t at s n).place ≤ length t
unfolding unborne
unborne_from zero t at s n h = omega arith
unborne_from (suc k) t at s n h =
    let x = next_inside t at h in
    by_test (unborne_at t s n (next_token t at))
    (λ e. rw e (omega (arith, x.forward, x.inside)))
    (λ e. rw e (unborne_from k t (next_token t at).end (after s (next_token t at).sort) n x.inside))

pub unborne_place : (k : ℕ) (t : List ℕ) (n : ℕ) → (unborne k t 0 fresh n).place ≤ length t
unborne_place k t n = unborne_from k t 0 fresh n (omega arith)
