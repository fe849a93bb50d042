-- The first use that no RESOURCE bears, as a search over the tokens by number.
use Prim.Native.Nat.{ℕ, zero, suc, ◌+◌, ◌-◌, ◌≤◌, ◌<◌}
use mathlib.Core.Path.{◌≡◌, refl, ◌∙◌}
use mathlib.Core.Bool.{false}
use mathlib.Core.List.{List}
use Rattle.std.proofs.Common.{Some, None}
use native.Mathlib.Omega.{arith}
use native.Mathlib.Nat.{sub-zero}
use native.Mathlib.Numerals.{add-one}
use Rattle.oil_grammar.specs.Refusal.{no_resource}
use Rattle.oil_grammar.specs.Automaton.{fresh}
use Rattle.oil_grammar.specs.Walk.{refused_at, found, unborne}
use Rattle.oil.specs.Tokens.{place_after, token, progress_after, First}
use Rattle.oil.specs.Names.{unborne_no}
use Rattle.oil.proofs.Walks.{unborne_found, unborne_step, unborne_done}

module _ (t : List ℕ) (n u : ℕ) (within : u ≤ n) (none_before : (i : ℕ) → i < u → unborne_no t n i ≡ false) where
  goes_on : (i : ℕ) → i ≤ u → unborne (n - i) t (place_after t i) (progress_after t i) n ≡ unborne n t 0 fresh n
  unfolding place_after progress_after
  goes_on zero h = rw sub-zero
  goes_on (suc i) h =
      let e : n - suc i ≡ n - (i + 1) = rw add-one in
      rw e
      (unborne_step t n n i (place_after t i) (progress_after t i) refl (omega arith)
      (none_before i (omega arith)) refl ∙ goes_on i (omega arith))

module _ (t : List ℕ) (n : ℕ) where
  pub first_refused : (u : ℕ) → First n (unborne_no t n) (Some u) → refused_at no_resource (token t u).start ≡ unborne n t 0 fresh n
  first_refused u f =
      unborne_found t n n u (place_after t u) (progress_after t u) refl f.0 f.1
      ∙ goes_on t n u (let l = f.0 in omega arith) f.2 u (omega arith)

  pub all_borne : First n (unborne_no t n) None → found n ≡ unborne n t 0 fresh n
  all_borne f =
      unborne_done t n n n (place_after t n) (progress_after t n) (omega arith) ∙ goes_on t n n (omega arith) f n (omega arith)
