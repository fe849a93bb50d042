-- A time-triggered task ends: the one that was started before it goes on, or whoever took the latest resource that is
-- held, or nobody.
use Prim.Native.Nat.{ℕ, ◌<◌}
use mathlib.Core.Path.{◌≡◌, refl, sym, ap, ◌∙◌}
use mathlib.Core.Logic.{◌≢◌}
use mathlib.Core.Bool.{true, false, true≢false}
use mathlib.Core.List.{List, [], ◌∷◌, map}
use native.Mathlib.Omega.{arith}
use borrow.Author.Tests.{eq-eqb, ne_eqb}
use lib.ListN.{get_or, set, length-set}
use lib.Seq.{get_or-set_same}
use Rattle.number.proofs.Cases.{by_eq}
use Rattle.config.specs.declared.Config.{Config}
use Rattle.config.specs.Meaning.{execution_level}
use Rattle.plan.specs.declared.Plan.{Plan}
use Rattle.word.proofs.Theorems.{has_without_same, has_without_other, without_lt}
use Rattle.stack.specs.Stack.{second_row, row_bytes}
use Rattle.scheduler.specs.Body.{Body, is_started, triggered, ended, finished}
use Rattle.scheduler.specs.State.{no_body, among}
use Rattle.scheduler.specs.Call.{request_waits}
use Rattle.scheduler.proofs.Members.{among_head}
use Rattle.machine.specs.Model.{Model, no_rank}
use Rattle.machine.specs.Arbiter.{alone, returned, returning}
use Rattle.plan.proofs.Fitted.{Fitted}
use Rattle.machine.proofs.Relation.Rows.{Shows, row_shows_second}
use Rattle.machine.proofs.Relation.Words.{at, at_other, wants, is_aside, Words, words_changed}
use Rattle.machine.proofs.Relation.Slots.{slots_along, SlotsOf}
use Rattle.machine.proofs.Relation.Nest.{Nested, AllHold, Seats, AlikeAlong, alike_outside, nest_started, timed_seats, nested_alike, hold_alike, slots_along_alike}
use Rattle.machine.proofs.Relation.Whole.{Tied, latest_seat}
use Rattle.machine.proofs.Arbitration.Dispatch.{rank_below}
use Rattle.machine.proofs.Change.End.{last_seated}

-- the time-triggered task j, the latest of those started, ends
module _ {c : Config} {p : Plan} {rk : ℕ → ℕ} (fit : Fitted c p rk) {m : Model} {bs : List Body} {j : ℕ} (js : List ℕ)
    {ns : List ℕ} (t : Tied c rk m bs (j ∷ js) ns) (j< : j < c.bodies) (phase : (at bs j).phase ≡ triggered true)
    (held : (at bs j).held ≡ []) (row : Shows (row_bytes m.triggered) (map rk (j ∷ js)))
    (exist : (i : ℕ) → among i js ≡ true → i < c.bodies) where
  seat : (m.core.runner ≡ rk j) × ((m.core.level ≡ execution_level) × AllHold bs ns)
  seat = latest_seat t

  pending : (at bs j).pending ≡ false
  pending = t.words.quiet j (ap is_started phase)

  -- it is suspended then
  abbrev y : Body
  y = finished (at bs j)

  abbrev bs' : List Body
  bs' = set bs j y

  y_is : y ≡ ended (at bs j)
  y_is = rw pending

  at_j : at bs' j ≡ y
  at_j = get_or-set_same bs j y no_body (rw t.size j<)

  -- whoever is in the nest is started
  other : (i : ℕ) → among i ns ≡ true → i ≢ j
  other i h e = true≢false (sym (nest_started c bs i ns t.nested h) ∙ rw e (ap is_started phase))

  alike : AlikeAlong bs bs' ns
  alike = alike_outside j y other

  words : Words c rk (returned m) bs'
  words =
      words_changed fit t.words t.size j j< y (returned m)
      ((λ h. absurd (true≢false (sym h ∙ rw y_is refl))), λ h. absurd (true≢false (sym h ∙ rw y_is refl)))
      (record {
        asks = t.words.asks j j< ∙ ap (request_waits (at bs j)) phase ∙ sym (ap wants y_is);
        goes_on = t.words.goes_on j j< ∙ ap is_started phase ∙ sym (ap (λ (x : Body). is_started x.phase) y_is);
        put_aside = rw seat.0 (has_without_same m.core.aside (rk j))
            ∙ sym (ap (λ (x : Body). is_aside x.phase) y_is);
        quiet = λ _. ap (λ (x : Body). x.pending) y_is;
      })
      (record {
        request_lt = t.words.request_lt;
        started_lt = t.words.started_lt;
        aside_lt = without_lt m.core.aside m.core.runner t.words.aside_lt;
        asks = λ r n. refl;
        goes_on = λ r n. refl;
        put_aside = λ r n. rw seat.0 (has_without_other m.core.aside (rk j) r n);
      })

  slots' : SlotsOf m (slots_along c rk bs' ns)
  slots' = rw (sym (slots_along_alike c rk alike)) t.slots

  nested' : Nested c bs' ns
  nested' = nested_alike c alike t.nested

  hold' : AllHold bs' ns
  hold' = hold_alike alike seat.1.1

  -- the row has the rank of the one before it, if any, as its second byte
  second_is : (is : List ℕ) → js ≡ is → second_row m.triggered ≡ get_or (map rk is) 0 no_rank
  second_is is e =
      row_shows_second m.triggered (rk j) (map rk js) row ∙ ap (λ (is : List ℕ). get_or (map rk is) 0 no_rank) e

  -- who runs then
  seats' : (is : List ℕ) → js ≡ is → Seats c rk bs' is (returned m).runner (returned m).level ns
  seats' [] e =
      let none : alone m ≡ true = eq-eqb (second_row m.triggered) no_rank (second_is [] e) in
      rw none (last_seated fit m bs' ns nested' hold' slots')
  seats' (i ∷ is) e =
      let next = second_is (i ∷ is) e in
      let low = rank_below fit i (exist i (rw e (among_head i is))) in
      let some : alone m ≡ false = ne_eqb (second_row m.triggered) no_rank (λ z. absurd (omega (arith, z))) in
      rw some (timed_seats c rk bs' i is (second_row m.triggered) execution_level ns next refl hold')

  pub return_tied : Tied c rk (returning m) (set bs j (finished (at bs j))) js ns
  return_tied =
      record {
        size = length-set bs j (finished (at bs j)) ∙ t.size;
        words = words;
        nested = nested';
        seats = seats' js refl;
        slots = slots';
        loose = λ i h. by_eq i j
            (λ e. rw (e, at_j) (ap (λ (x : Body). x.held) y_is ∙ held))
            (λ n. rw (at_other bs j y i n) (t.loose i h));
      }
