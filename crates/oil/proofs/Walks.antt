-- The walks over a text's tokens, a turn of each loop at a time. i of n tokens are passed, `at` is the place after them.
use Prim.Native.Nat.{ℕ, suc, ◌+◌, ◌-◌, ◌≤◌, ◌<◌}
use mathlib.Core.Path.{◌≡◌, sym, ap, ◌∙◌}
use mathlib.Core.Bool.{true, false}
use mathlib.Core.List.{List}
use native.Mathlib.Omega.{arith}
use native.Mathlib.Nat.{sub-zero}
use native.Mathlib.Numerals.{add-one}
use lib.ListN.{length}
use borrow.Author.Tests.{eq-eqb, ne_eqb}
use Rattle.number.specs.Refusal.{none}
use Rattle.oil_grammar.specs.Records.{Token, Progress}
use Rattle.oil_grammar.specs.Refusal.{no_resource}
use Rattle.oil_grammar.specs.Token.{end_sort}
use Rattle.oil_grammar.specs.Next.{next_token}
use Rattle.oil_grammar.specs.Automaton.{after, fresh}
use Rattle.oil_grammar.specs.Walk.{fault_in, refused_at, found, walk, unborne_at, unborne}
use Rattle.oil_grammar.specs.Reader.{walked}
use Rattle.oil_grammar.proofs.Bounds.{next_inside}
use Rattle.oil_grammar.proofs.Sorts.{going}

left_suc : (n i : ℕ) → i < n → n - i ≡ suc (n - (i + 1))
left_suc n i h = omega arith

left_none : (n i : ℕ) → n ≤ i → n - i ≡ 0
left_none n i h = omega arith

module _ (t : List ℕ) where
  pub token_inside : (at : ℕ) → at ≤ length t → {w : Token} → w ≡ next_token t at
      → (w.start ≤ w.end) × (w.end ≤ length t)
  token_inside at h e = let n = next_inside t at h in rw e (n.forward, n.inside)

  module _ (n m i at : ℕ) (s : Progress) {w : Token} (e : w ≡ next_token t at) where
    pub unborne_found : i < n → unborne_at t s m w ≡ true → refused_at no_resource w.start ≡ unborne (n - i) t at s m
    unfolding unborne
    unborne_found h q = let p : unborne_at t s m (next_token t at) ≡ true = rw e at q in rw (left_suc n i h, p, e)

    pub unborne_step : i < n → unborne_at t s m w ≡ false → {s' : Progress} → s' ≡ after s w.sort
        → unborne (n - (i + 1)) t w.end s' m ≡ unborne (n - i) t at s m
    unfolding unborne
    unborne_step h q f = let p : unborne_at t s m (next_token t at) ≡ false = rw e at q in rw (left_suc n i h, p, f, e)

  pub unborne_done : (n m i at : ℕ) (s : Progress) → n ≤ i → found m ≡ unborne (n - i) t at s m
  unfolding unborne
  unborne_done n m i at s h = rw (left_none n i h)

  -- the first walk: n tokens are passed
  pub record WalksOn (at : ℕ) (s : Progress) (n : ℕ) : Type 0 where
    pub inside : at ≤ length t
    pub few : n ≤ at
    pub on : walk (suc (length t - n)) t at s n ≡ walked t

  pub walk_start : {s : Progress} → s ≡ fresh → WalksOn 0 s 0
  walk_start e = record { inside = omega arith; few = omega arith; on = rw (e, sub-zero) }

-- a token more
module _ {t : List ℕ} {at : ℕ} {s : Progress} {n : ℕ} (k : WalksOn t at s n) {w : Token} (e : w ≡ next_token t at)
    {f : ℕ} (q : f ≡ fault_in t s n w) where
  pub walk_refused : (f ≡ 0 → ⊥) → refused_at f w.start ≡ walked t
  unfolding walk
  walk_refused d =
      let p : f ≡ fault_in t s n (next_token t at) = q ∙ ap (fault_in t s n) e in
      rw (e, p) (rw (ne_eqb (fault_in t s n (next_token t at)) none (λ z. d (p ∙ z))) at k.on)

  pub walk_ended : f ≡ 0 → w.sort ≡ end_sort → found n ≡ walked t
  unfolding walk
  walk_ended z g =
      let p : fault_in t s n (next_token t at) ≡ 0 = sym (q ∙ ap (fault_in t s n) e) ∙ z in
      let g' : (next_token t at).sort ≡ end_sort = rw e at g in
      rw (eq-eqb (fault_in t s n (next_token t at)) none p, eq-eqb (next_token t at).sort end_sort g') at k.on

  pub walk_further : f ≡ 0 → (w.sort ≡ end_sort → ⊥) → (at < w.end) × (w.end ≤ length t)
  walk_further z d =
      let x = next_inside t at k.inside in
      let p : fault_in t s n (next_token t at) ≡ 0 = sym (q ∙ ap (fault_in t s n) e) ∙ z in
      let o = x.some (going t at s n p (λ v. d (rw e v))) in
      rw e (omega (arith, x.begins), x.inside)

  pub walk_next : f ≡ 0 → (w.sort ≡ end_sort → ⊥) → {s' : Progress} → s' ≡ after s w.sort
      → WalksOn t w.end s' (n + 1)
  unfolding walk
  walk_next z d g =
      let o = walk_further z d in
      let p : fault_in t s n (next_token t at) ≡ 0 = sym (q ∙ ap (fault_in t s n) e) ∙ z in
      let l : length t - n ≡ suc (length t - (n + 1)) = omega (arith, k.few) in
      record {
        inside = o.1;
        few = omega (arith, k.few);
        on =
            rw (g, e, add-one)
            (rw (
              eq-eqb (fault_in t s n (next_token t at)) none p,
              ne_eqb (next_token t at).sort end_sort (λ v. d (rw e v)),
              l,
              add-one,
            ) at k.on);
      }
