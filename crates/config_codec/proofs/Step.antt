-- A step of the walk. Its loop keeps `WalksOn`; a number that is tested by `fault` and stored by `put` ends the walk or takes
-- it to the next number.
use Prim.Native.Nat.{ℕ, suc, ◌+◌, ◌*◌, ◌-◌, ◌≤◌, ◌<◌}
use mathlib.Core.Path.{◌≡◌, refl, sym, ap, subst, ◌∙◌}
use mathlib.Core.Bool.{true, false}
use native.Mathlib.Omega.{arith}
use borrow.Author.Tests.{eq-eqb, ne_eqb}
use Rattle.number.specs.Number.{NumberRead}
use Rattle.number.specs.Refusal.{none}
use Rattle.config.specs.declared.Config.{Config}
use Rattle.config.specs.declared.Draft.{Draft}
use Rattle.config.specs.Draft.{fault, put, ended, start, Within}
use Rattle.config.specs.Reader.{accepted, refused, number_fault, fault_place, max_numbers}
use Rattle.config.proofs.Position.{left, start_within, moved, Moved, some_left}
use Rattle.config_codec.specs.declared.position.Position.{Position}
use Rattle.config_codec.specs.Position.{draft_at, position_of, Stands}
use Rattle.config_codec.specs.Walk.{walk_from}
use Rattle.config_codec.proofs.NextNumber.{onward}
use Rattle.config_codec.proofs.Walks.{walk_end, walk_step, walk_stop}

-- what is left from the place `at` on gives the whole answer
pub record WalksOn (source : Draft → ℕ → NumberRead) (c : Config) (p : Position) (at : ℕ) : Type 0 where
  pub within : Within (draft_at c p)
  pub turns : ℕ
  pub enough : left (draft_at c p) ≤ turns
  pub few : at + 5 * turns ≤ 5 * max_numbers
  pub rest : walk_from source turns at (draft_at c p) ≡ walk_from source max_numbers 0 start

pub on_start : (source : Draft → ℕ → NumberRead) → WalksOn source start.config (position_of start) 0
on_start source =
    record { within = start_within; turns = max_numbers; enough = omega arith; few = omega arith; rest = refl }

module _ {source : Draft → ℕ → NumberRead} {c : Config} {p : Position} {at : ℕ} (o : WalksOn source c p at) where
  abbrev d : Draft
  d = draft_at c p

  pub on_stands : Stands p
  on_stands = record { config = c; within = o.within }

  pub on_small : at ≤ 4294967296
  on_small = omega (arith, o.few)

  pub on_end : ended p.field ≡ true → accepted c at ≡ walk_from source max_numbers 0 start
  on_end e = sym (walk_end source o.turns at d e) ∙ o.rest

  -- one more number
  module _ (more : ended p.field ≡ false) {r : NumberRead} (is : r ≡ source d at) where
    one_more_lem : walk_from source (suc (o.turns - 1)) at d ≡ walk_from source max_numbers 0 start
    one_more_lem =
        ap (λ (k : ℕ). walk_from source k at d) (omega (arith, o.enough, some_left d more o.within)) ∙ o.rest

    stops : (number_fault d r ≡ none → ⊥)
        → refused (number_fault d r) (fault_place at r) ≡ walk_from source max_numbers 0 start
    stops n = sym (walk_stop source (o.turns - 1) at d r (sym is) more n) ∙ one_more_lem

    pub on_unreadable : (r.refusal ≡ none → ⊥) → refused r.refusal r.place ≡ walk_from source max_numbers 0 start
    on_unreadable n =
        let f : number_fault d r ≡ r.refusal = simp (ne_eqb r.refusal none n) in
        let q : fault_place at r ≡ r.place = simp (ne_eqb r.refusal none n) in
        ap (λ (x : ℕ). refused x r.place) (sym f) ∙ ap (refused (number_fault d r)) (sym q) ∙ stops (λ z. n (sym f ∙ z))

    -- tested
    module _ (h : r.refusal ≡ none) where
      tests : number_fault d r ≡ fault d r.value
      tests = simp (eq-eqb r.refusal none h)

      pub on_refused : {s : ℕ} → s ≡ fault d r.value → (s ≡ none → ⊥)
          → refused s at ≡ walk_from source max_numbers 0 start
      on_refused {s} t n =
          let q : fault_place at r ≡ at = simp (eq-eqb r.refusal none h) in
          ap (λ (x : ℕ). refused x at) (t ∙ sym tests) ∙ ap (refused (number_fault d r)) (sym q)
          ∙ stops (λ z. n (t ∙ sym tests ∙ z))

      -- and stored
      module _ (fine : none ≡ fault d r.value) {c' : Config} (stored : c' ≡ (put d r.value).config) {q : Position}
          (follows : q ≡ position_of (put (draft_at c' p) r.value)) where
        after : put d r.value ≡ draft_at c' q
        after = sym (onward c p r.value c' q stored follows)

        step : Moved d (draft_at c' q)
        step = subst (λ (x : Draft). Moved d x) after (moved d r.value more (sym fine) o.within)

        pub on_fewer : left (draft_at c' q) < left d
        on_fewer = step.fewer

        pub on_next : r.place ≤ at + 5 → WalksOn source c' q r.place
        on_next near =
            record {
              within = step.within;
              turns = o.turns - 1;
              enough = omega (arith, o.enough, step.fewer);
              few = omega (arith, o.few, o.enough, near, some_left d more o.within);
              rest =
                  ap (walk_from source (o.turns - 1) r.place) (sym after)
                  ∙ sym (walk_step source (o.turns - 1) at d r (sym is) more (tests ∙ sym fine)) ∙ one_more_lem;
            }
