-- What the crate shows. Each law stands here in full, over specs/ alone; the modules it cites prove it.
--
-- In order: nothing below disturbs what is above, of the machine's models and of the plain scheduler's states;
-- the invariant of the states; how document 02's words are met; conservation. `Examples` has two models on
-- which isolation speaks, and why its limits are there.
use Prim.Native.Nat.{ℕ, ◌+◌, ◌≤◌, ◌<◌}
use mathlib.Core.Path.{◌≡◌, sym, ap, ◌∙◌}
use mathlib.Core.Bool.{Bool, false, true≢false, ◌||◌}
use mathlib.Core.List.{List}
use lib.Dec.{ltb, eqb}
use lib.ListN.{length}
use Rattle.config.specs.declared.Config.{Config}
use Rattle.config.specs.Accepted.{Accepted, Shaped}
use Rattle.config.specs.Meaning.{is_timed, is_extended, priority_of}
use Rattle.word.specs.Word.{has}
use Rattle.plan.specs.Rank.{rank_of}
use Rattle.plan.specs.Plan.{plan_of}
use Rattle.scheduler.specs.Body.{is_suspended}
use Rattle.scheduler.specs.State.{State, body_of, runner}
use Rattle.scheduler.specs.Scheduler.{Event, Set, mark_of, step, fresh, seen, after}
use Rattle.machine.specs.Model.{Model}
use Rattle.machine.specs.Machine.{fresh_model, runner_of, machine_seen, machine_after}
use Rattle.machine.proofs.Theorems.{reached}
use Rattle.isolation.specs.Above.{above, NamesAbove, AllNameAbove, answers_above}
use Rattle.isolation.specs.Models.{SameModel}
use Rattle.isolation.specs.States.{SameState, Sound}
use Rattle.isolation.specs.Requests.{requests, ends, autostarted, marks, fresh_runner, fresh_mark, waits_to_begin, under_way}
use Rattle.isolation.proofs.Models.Lists as Models
use Rattle.isolation.proofs.States.Invariant as Invariant
use Rattle.isolation.proofs.States.Lists as States
use Rattle.isolation.proofs.Conservation.Lists as Conservation
use Rattle.isolation.proofs.Conservation.Machine as Machine

-- Nothing below disturbs what is above: how a higher body fares does not depend on what waits below it.
--
-- Take two models of one accepted configuration that are the same but for which bodies of priority at most L
-- wait to begin and for those bodies' losses, at a level of at least L. Give both the same further events,
-- where no Activate, Chain or Line names a body of priority at most L, and no Set an extended task of priority
-- at most L. Up to, and not including, the first event after which either level is below L, status, runner,
-- level and begun mark agree.
--
-- It holds of every two models: neither has to be one that events lead to, or to satisfy an invariant. It holds
-- of all kinds of bodies and in all versions: a time-triggered task is above every L.
pub isolation_models : (c : Config) → Accepted c → Shaped c → (L : ℕ) (es : List Event) {m m' : Model}
    → SameModel c L m m'
    → L ≤ m.core.level
    → AllNameAbove c L es
    → answers_above L (machine_seen c (plan_of c) m es) (machine_seen c (plan_of c) m' es)
    ≡ answers_above L (machine_seen c (plan_of c) m' es) (machine_seen c (plan_of c) m es)
isolation_models = Models.isolation_models

-- where no level falls below L at all, the two models are the same above it after these events, too: who waits
-- above L, and the losses there
pub same_after : (c : Config) → Accepted c → Shaped c → (L : ℕ) (es : List Event) {m m' : Model}
    → SameModel c L m m'
    → L ≤ m.core.level
    → AllNameAbove c L es
    → length (answers_above L (machine_seen c (plan_of c) m es) (machine_seen c (plan_of c) m' es)) ≡ length es
    → SameModel c L (machine_after c (plan_of c) m es) (machine_after c (plan_of c) m' es)
same_after = Models.same_after

-- The same of the plain scheduler's states. A state keeps no level, so what runs is chosen anew from all
-- bodies: it takes the invariant `Sound`, of both.
pub isolation_states : (c : Config) → Accepted c → (L : ℕ) (es : List Event) {s s' : State}
    → Sound c s
    → Sound c s'
    → SameState c L s s'
    → L ≤ (runner c s).level
    → L ≤ (runner c s').level
    → AllNameAbove c L es
    → answers_above L (seen c s es) (seen c s' es) ≡ answers_above L (seen c s' es) (seen c s es)
isolation_states = States.isolation_states

-- every event keeps the invariant, and every state satisfies it that the fresh start leads to
pub sound_step : (c : Config) → Accepted c → {s : State} → Sound c s → (e : Event) → Sound c (step c s e).state
sound_step = Invariant.sound_step

pub sound_reached : (c : Config) → Accepted c → Shaped c → (es : List Event) → Sound c (after c (fresh c) es)
sound_reached c ok shaped es = Invariant.sound_after c ok es (Invariant.sound_fresh c ok shaped)

-- Document 02's configurations, without kinds 2 and 3: a body is above L exactly if its priority is greater,
-- and a Set is not held back.
pub above_priority : (c : Config) → ((b : ℕ) → is_timed c b ≡ false) → (L i : ℕ) → above c L i ≡ ltb L (priority_of c i)
above_priority c none L i = ap (λ (x : Bool). x || ltb L (priority_of c i)) (none i)

pub set_free : (c : Config) → ((b : ℕ) → is_extended c b ≡ false) → (L t w : ℕ) → NamesAbove c L (Set t w)
set_free c none L t w e = absurd (true≢false (sym e ∙ none t))

-- Conservation, of every accepted configuration, whatever the kinds of its bodies, every list of events and
-- every body.
module _ (c : Config) (ok : Accepted c) (shaped : Shaped c) (es : List Event) (b : ℕ) (exists : b < c.bodies) where
  -- "for each body the accepted requests, autostart included, equal its begun marks plus one if it waits to
  -- begin, the begin at the fresh start counting as a mark"
  pub conservation : autostarted c b + requests c b (fresh_runner c) (autostarted c b) es (seen c (fresh c) es)
      ≡ fresh_mark c b + marks b (seen c (fresh c) es) + waits_to_begin (after c (fresh c) es) b
  conservation = Conservation.conservation c ok shaped es b exists

  -- the same of the machine: its request bit says that it waits to begin
  pub machine_conservation : autostarted c b
      + requests c b (runner_of (plan_of c) (fresh_model (plan_of c))) (autostarted c b) es
      (machine_seen c (plan_of c) (fresh_model (plan_of c)) es)
      ≡ mark_of (eqb (runner_of (plan_of c) (fresh_model (plan_of c))) b)
      + marks b (machine_seen c (plan_of c) (fresh_model (plan_of c)) es)
      + mark_of (has (reached c es).core.request (rank_of c b))
  machine_conservation = Machine.machine_conservation c ok shaped es b exists

  -- its begun marks equal its ends, by Finish or Chain, plus one if it has begun and not ended
  pub begins_conserved : fresh_mark c b + marks b (seen c (fresh c) es)
      ≡ ends b (fresh_runner c) es (seen c (fresh c) es) + under_way (after c (fresh c) es) b
  begins_conserved = Conservation.begins_conserved c ok shaped es b exists

  -- it is suspended exactly where as many of it ended as were requested: that is how `requests` tells whether a
  -- due entry found it suspended
  pub suspended_when_ended :
      eqb (autostarted c b + requests c b (fresh_runner c) (autostarted c b) es (seen c (fresh c) es))
      (ends b (fresh_runner c) es (seen c (fresh c) es))
      ≡ is_suspended (body_of (after c (fresh c) es) b).phase
  suspended_when_ended = Conservation.suspended_when_ended c ok shaped es b exists
