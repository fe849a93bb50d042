-- The runner leaves: whoever took the latest resource that is held takes its seat, at the level of that resource, or
-- nobody does.
--
--   end_tied    the runner ends
--   pause_tied  the runner waits for an event bit
use Prim.Native.Nat.{ℕ, ◌<◌}
use mathlib.Core.Path.{◌≡◌, refl, sym, ap, ◌∙◌}
use mathlib.Core.Logic.{◌≢◌}
use mathlib.Core.Bool.{Bool, true, false, true≢false, cond}
use mathlib.Core.List.{List, [], ◌∷◌, ◌++◌}
use native.Mathlib.Omega.{arith}
use borrow.Author.Tests.{eq-eqb, ne_eqb}
use lib.ListN.{set, length-set}
use lib.Seq.{get_or-set_same}
use Rattle.number.proofs.Cases.{by_eq, cond_either, refuted}
use Rattle.config.specs.declared.Config.{Config}
use Rattle.config.specs.Meaning.{is_isr}
use Rattle.plan.specs.declared.Plan.{Plan}
use Rattle.word.specs.Word.{with, without}
use Rattle.word.proofs.Theorems.{has_with_same, has_with_other, with_lt, has_without_same, has_without_other, without_lt}
use Rattle.stack.specs.Stack.{top_row}
use Rattle.scheduler.specs.Body.{Body, is_started, waiting, become, activated, ended, finished, holds, current}
use Rattle.scheduler.specs.State.{no_body}
use Rattle.scheduler.proofs.Body.{started_competes}
use Rattle.scheduler.proofs.Members.{among_head, among_tail, not_among}
use Rattle.machine.specs.Model.{Model, no_rank, with_core}
use Rattle.machine.specs.Arbiter.{last_level, left_with, vacated, leaving, paused}
use Rattle.machine.specs.Events.{pausing}
use Rattle.plan.proofs.Fitted.{Fitted}
use Rattle.machine.proofs.Relation.Rows.{row_shows_top}
use Rattle.machine.proofs.Relation.Words.{at, at_other, wants, is_aside, Words, words_changed, competes_on, started_waits}
use Rattle.machine.proofs.Relation.Slots.{slots_for, slots_along, SlotsOf}
use Rattle.machine.proofs.Relation.Nest.{Nested, AllHold, Seats, AlikeAlong, alike_outside, nest_other, nested_alike, hold_alike, slots_along_alike}
use Rattle.machine.proofs.Relation.Whole.{Tied}
use Rattle.machine.proofs.Arbitration.Dispatch.{rank_below}
use Rattle.machine.proofs.Change.Request.{event_bits_tied}

-- the last slot's holder takes the seat, at its level
module _ {c : Config} {p : Plan} {rk : ℕ → ℕ} (fit : Fitted c p rk) (m : Model) (bs : List Body) where
  pub last_seated : (ns : List ℕ) → Nested c bs ns → AllHold bs ns → SlotsOf m (slots_along c rk bs ns)
      → Seats c rk bs [] (top_row m.holder) (last_level m) ns
  unfolding Seats slots_along slots_for Nested
  last_seated [] k h q =
      let e : top_row m.holder ≡ no_rank = row_shows_top m.holder [] q.holders in
      (e, ap (λ (x : Bool). cond x 0 (top_row m.raised)) (eq-eqb (top_row m.holder) no_rank e))
  last_seated (b ∷ ns) k h q = go (at bs b).held refl (h b (among_head b ns)) q
    where
      go : (rs : List ℕ) → (at bs b).held ≡ rs → holds (at bs b).held ≡ true
          → SlotsOf m (slots_for c rk b (at bs b).held ++ slots_along c rk bs ns)
          → Seats c rk bs [] (top_row m.holder) (last_level m) (b ∷ ns)
      go [] e some q = absurd (true≢false (sym (rw e at some)))
      go (r ∷ rs) e some q =
          let first : top_row m.holder ≡ rk b = row_shows_top m.holder _ (rw e at q).holders in
          let level : top_row m.raised ≡ current c b (at bs b) =
          row_shows_top m.raised _ (rw e at q).levels ∙ sym (rw e) in
          let seated : top_row m.holder ≢ no_rank = λ z. absurd (omega (arith, z, first, rank_below fit b k.0)) in
          let raised = ap (λ (x : Bool). cond x 0 (top_row m.raised)) (ne_eqb (top_row m.holder) no_rank seated) in
          (first, (raised ∙ level, λ i a. h i (among_tail i b ns a)))

-- the runner b, which holds nothing, becomes y, and leaves the level; the words are s and a then
module _ {c : Config} {p : Plan} {rk : ℕ → ℕ} (fit : Fitted c p rk) {m : Model} {bs : List Body} {b : ℕ} {ns : List ℕ}
    (t : Tied c rk m bs [] (b ∷ ns)) (free : (at bs b).held ≡ []) where
  exists : b < c.bodies
  unfolding Nested
  exists = t.nested.0

  was_started : is_started (at bs b).phase ≡ true
  unfolding Nested
  was_started = t.nested.1.0

  below : Nested c bs ns
  unfolding Nested
  below = t.nested.1.1.1

  runner_rank : m.core.runner ≡ rk b
  unfolding Seats
  runner_rank = t.seats.0

  hold : AllHold bs ns
  unfolding Seats
  hold = t.seats.1.1

  module _ (y : Body) (held : y.held ≡ []) (s a : ℕ) (words : Words c rk (left_with m s a) (set bs b y)) where
    abbrev bs' : List Body
    bs' = set bs b y

    at_b : at bs' b ≡ y
    at_b = get_or-set_same bs b y no_body (rw t.size exists)

    alike : AlikeAlong bs bs' ns
    alike = alike_outside b y (λ i h. nest_other c bs b i ns t.nested h)

    slots_same : slots_along c rk bs (b ∷ ns) ≡ slots_along c rk bs' ns
    unfolding slots_along slots_for
    slots_same = rw free (slots_along_alike c rk alike)

    slots' : SlotsOf m (slots_along c rk bs' ns)
    slots' = rw (sym slots_same) t.slots

    left_tied : Tied c rk (with_core m (left_with m s a)) bs' [] ns
    left_tied =
        let nested' = nested_alike c alike below in
        record {
          size = length-set bs b y ∙ t.size;
          words = words;
          nested = nested';
          seats = last_seated fit m bs' ns nested' (hold_alike alike hold) slots';
          slots = slots';
          loose = λ i h. by_eq i b
              (λ z. rw (z, at_b) held)
              (λ n. rw (at_other bs b y i n) (t.loose i (not_among i b ns n h)));
        }

  -- the ended runner, by whether a request waits
  abbrev out : Bool → Body
  out w = cond w (activated (ended (at bs b))) (ended (at bs b))

  -- the runner ends: ready where a request waited, which is then used up, else suspended
  pub end_tied : Tied c rk (leaving m) (set bs b (finished (at bs b))) [] ns
  end_tied =
      event_bits_tied
      (left_tied (finished (at bs b)) (held_none (at bs b).pending)
      (without m.core.started m.core.runner) m.core.aside
      (words_changed fit t.words t.size b exists (finished (at bs b)) (vacated m) (
        (λ h. absurd (true≢false (sym h ∙ used_up (at bs b).pending))),
        λ h. absurd (true≢false (sym h ∙ back (at bs b).pending)),
      )
      (record {
        asks = t.words.asks b exists
            ∙ started_waits (at bs b) (at bs b).phase was_started
            ∙ wants_then (at bs b).pending;
        goes_on = rw (runner_rank, unstarted (at bs b).pending) (has_without_same m.core.started (rk b));
        put_aside = t.words.put_aside b exists
            ∙ competes_on (at bs b).phase (started_competes (at bs b).phase was_started)
            ∙ sym (back (at bs b).pending);
        quiet = λ _. used_up (at bs b).pending;
      })
      (record {
        request_lt = t.words.request_lt;
        started_lt = without_lt m.core.started m.core.runner t.words.started_lt;
        aside_lt = t.words.aside_lt;
        asks = λ r n. refl;
        goes_on = λ r n. rw runner_rank (has_without_other m.core.started (rk b) r n);
        put_aside = λ r n. refl;
      })))
      (leaving m).cleared
      (leaving m).bits
      (leaving m).waited
    where
      held_none : (w : Bool) → (out w).held ≡ []
      held_none w = cond_either (λ (x : Body). x.held ≡ []) w _ _ free free

      wants_then : (w : Bool) → w ≡ wants (out w)
      wants_then true = refl
      wants_then false = refl

      unstarted : (w : Bool) → is_started (out w).phase ≡ false
      unstarted w = cond_either (λ (x : Body). is_started x.phase ≡ false) w _ _ refl refl

      back : (w : Bool) → is_aside (out w).phase ≡ false
      back w = cond_either (λ (x : Body). is_aside x.phase ≡ false) w _ _ refl refl

      used_up : (w : Bool) → (out w).pending ≡ false
      used_up w = cond_either (λ (x : Body). x.pending ≡ false) w _ _ refl refl

  -- the runner, which is no ISR, waits for an event bit
  pub pause_tied : is_isr c b ≡ false → (w : ℕ) → Tied c rk (pausing w m) (set bs b (become (waiting w) (at bs b))) [] ns
  pause_tied task w =
      event_bits_tied
      (left_tied (become (waiting w) (at bs b)) free
      (without m.core.started m.core.runner) (with m.core.aside m.core.runner)
      (words_changed fit t.words t.size b exists (become (waiting w) (at bs b)) (paused m)
      ((t.words.suits b).0, λ _. task)
      (record {
        asks = t.words.asks b exists ∙ started_waits (at bs b) (at bs b).phase was_started;
        goes_on = rw runner_rank (has_without_same m.core.started (rk b));
        put_aside = rw runner_rank (has_with_same m.core.aside (rk b) (rank_below fit b exists));
        quiet = λ _. single;
      })
      (record {
        request_lt = t.words.request_lt;
        started_lt = without_lt m.core.started m.core.runner t.words.started_lt;
        aside_lt = with_lt m.core.aside m.core.runner t.words.aside_lt;
        asks = λ r n. refl;
        goes_on = λ r n. rw runner_rank (has_without_other m.core.started (rk b) r n);
        put_aside = λ r n. rw runner_rank (has_with_other m.core.aside (rk b) r n);
      })))
      (pausing w m).cleared
      (pausing w m).bits
      (pausing w m).waited
    where
      single : (at bs b).pending ≡ false
      single = refuted (at bs b).pending (λ e. true≢false (sym ((t.words.suits b).0 e) ∙ task))
