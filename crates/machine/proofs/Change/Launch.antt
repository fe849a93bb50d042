-- A Tick starts a time-triggered task: its trigger level is above every level, and it takes the seat at the execution
-- level, above those that hold a resource.
--
--   launch_tied       the model after it
--   plain_triggering  where none is triggered the highest by priority is dispatched
use Prim.Native.Nat.{ℕ, ◌≤◌, ◌<◌}
use mathlib.Core.Path.{◌≡◌, refl, sym, ap, ap₂, ◌∙◌}
use mathlib.Core.Logic.{◌≢◌}
use mathlib.Core.Bool.{Bool, true, false, true≢false, cond, ◌&&◌, and-false}
use mathlib.Core.List.{List, [], ◌∷◌}
use native.Mathlib.Omega.{arith}
use borrow.Author.Tests.{lt-ltb, le-ltb, eq-eqb, ne_eqb}
use lib.Dec.{ltb, eqb}
use lib.ListN.{get_or, set, length-set}
use lib.Seq.{get_or-set_same}
use Rattle.number.proofs.Cases.{by_lt, by_eq}
use Rattle.config.specs.declared.Config.{Config}
use Rattle.config.specs.Meaning.{execution_level, trigger_level, is_isr, is_timed}
use Rattle.plan.specs.declared.Plan.{Plan}
use Rattle.word.specs.Word.{winner}
use Rattle.word.proofs.Theorems.{has_with_same, has_with_other, with_lt, has_without_same, has_without_other, without_lt}
use Rattle.scheduler.specs.Body.{Body, is_started, triggered, become}
use Rattle.scheduler.specs.State.{no_body, among}
use Rattle.machine.specs.Model.{Model, done_with}
use Rattle.machine.specs.Arbiter.{bids, winning, is_triggered, entering, launching, triggering, settled}
use Rattle.plan.proofs.Fitted.{Fitted}
use Rattle.machine.proofs.Relation.Words.{at, at_other, Words, words_changed}
use Rattle.machine.proofs.Relation.Nest.{AlikeAlong, alike_outside, nest_started, timed_seats, nested_alike, hold_alike, slots_along_alike}
use Rattle.machine.proofs.Relation.Kinds.{is_bidding, Kinds, trigger_timed}
use Rattle.machine.proofs.Relation.Whole.{Tied, latest_seat}
use Rattle.machine.proofs.Arbitration.Seat.{Holders, holders, level_few}
use Rattle.machine.proofs.Arbitration.Bids.{trigger_wins, winning_is, winner_above}
use Rattle.machine.proofs.Arbitration.Choice.{level_is}
use Rattle.machine.proofs.Arbitration.Dispatch.{rank_below}

module _ {c : Config} {p : Plan} {rk : ℕ → ℕ} (fit : Fitted c p rk) {m : Model} {bs : List Body} where
  -- no level is above that of a time-triggered task
  level_low : (js : List ℕ) {ns : List ℕ} → Tied c rk m bs js ns → m.core.level ≤ execution_level
  level_low [] {ns} t = omega (arith, level_is fit t, level_few fit bs ns t.nested)
  level_low (j ∷ js) t = omega (arith, (latest_seat t).1.0)

  -- who is above the level by priority is no time-triggered task
  pub plain_triggering : {js ns : List ℕ} → Tied c rk m bs js ns → Kinds c bs
      → triggering p.priority m ≡ settled p.priority m
  plain_triggering t kinds =
      ap (λ (x : Bool). cond x (done_with (launching m) true) (settled p.priority m))
      (by_lt m.core.level best
      (λ above.
      let v = winner_above fit t.words kinds above in
      let low : best ≢ trigger_level =
      λ e. absurd (omega (arith, e, winning_is fit t.words kinds v, fit.own_few v.body v.exists)) in
      ap (λ (x : Bool). ltb m.core.level best && x) (ne_eqb best trigger_level low)
      ∙ and-false (ltb m.core.level best))
      (λ low. ap (λ (x : Bool). x && eqb best trigger_level) (le-ltb m.core.level best low)))
    where
      best : ℕ
      best = winning p.priority m.core

module _ {c : Config} {p : Plan} {rk : ℕ → ℕ} (fit : Fitted c p rk) {m : Model} {bs : List Body} {js ns : List ℕ}
    (t : Tied c rk m bs js ns) (j : ℕ) (j< : j < c.bodies) (timed : is_timed c j ≡ true)
    (fresh : (at bs j).phase ≡ triggered false) (task : is_isr c j ≡ false)
    (others : (i : ℕ) → i < c.bodies → i ≢ j → is_bidding (at bs i).phase ≡ true → is_timed c i ≡ false) where
  pub wins : winner (bids m.core) ≡ rk j
  wins = trigger_wins fit t.words j j< timed (ap is_bidding fresh) others

  abbrev W : ℕ
  W = winner (bids m.core)

  W_lt : W < 32
  W_lt = rw wins (rank_below fit j j<)

  -- its trigger level is above the level
  pub launches : triggering p.priority m ≡ done_with (launching m) true
  launches = ap (λ (x : Bool). cond x (done_with (launching m) true) (settled p.priority m)) is
    where
      level : winning p.priority m.core ≡ trigger_level
      level = ap (λ (r : ℕ). get_or p.priority r 0) wins ∙ fit.priority_at_lem j j< ∙ trigger_timed c j j< timed

      is : is_triggered p.priority m.core ≡ true
      is =
          ap₂ (λ (x y : Bool). x && y)
          (lt-ltb m.core.level (winning p.priority m.core) (omega (arith, level, level_low fit js t)))
          (eq-eqb (winning p.priority m.core) trigger_level level)

  abbrev y : Body
  y = become (triggered true) (at bs j)

  abbrev bs' : List Body
  bs' = set bs j y

  at_j : at bs' j ≡ y
  at_j = get_or-set_same bs j y no_body (rw t.size j<)

  words' : Words c rk (entering m.core) bs'
  words' =
      words_changed fit t.words t.size j j< y (entering m.core) ((t.words.suits j).0, λ _. task)
      (record {
        asks = rw (sym wins) (has_without_same m.core.request W);
        goes_on = t.words.goes_on j j< ∙ ap is_started fresh;
        put_aside = rw (sym wins) (has_with_same m.core.aside W W_lt);
        quiet = λ _. t.words.quiet j (ap is_started fresh);
      })
      (record {
        request_lt = without_lt m.core.request W t.words.request_lt;
        started_lt = t.words.started_lt;
        aside_lt = with_lt m.core.aside W t.words.aside_lt;
        asks = λ r n. has_without_other m.core.request W r (rw (sym wins) at n);
        goes_on = λ r n. refl;
        put_aside = λ r n. has_with_other m.core.aside W r (rw (sym wins) at n);
      })

  -- those that hold a resource
  abbrev below : Holders c rk m bs
  below = holders fit js t

  abbrev ks : List ℕ
  ks = below.nest

  -- which j is not, since it has not begun
  other : (i : ℕ) → among i ks ≡ true → i ≢ j
  other i h e = true≢false (sym (nest_started c bs i ks below.nested h) ∙ rw e (ap is_started fresh))

  alike : AlikeAlong bs bs' ks
  alike = alike_outside j y other

  pub launch_tied : Tied c rk (launching m) bs' (j ∷ js) ks
  launch_tied =
      record {
        size = length-set bs j y ∙ t.size;
        words = words';
        nested = nested_alike c alike below.nested;
        seats = timed_seats c rk bs' j js W execution_level ks wins refl (hold_alike alike below.hold);
        slots = rw (sym (slots_along_alike c rk alike)) below.slots;
        loose = λ i h. by_eq i j
            (λ e. rw (e, at_j) (below.loose j (rw e at h)))
            (λ n. rw (at_other bs j y i n) (below.loose i h));
      }
