-- What the call asks of the model after a list of events, by its words: whether a resource is held,
-- whether the body waits, and the closed count.
use Prim.Native.Nat.{ℕ, ◌^◌, ◌<◌}
use mathlib.Core.Path.{◌≡◌, ◌∙◌}
use mathlib.Core.Bool.{true, false, or-true}
use mathlib.Core.List.{List}
use mathlib.Core.Logic.{◌↔◌}
use native.Mathlib.Omega.{arith}
use borrow.Author.Tests.{lt-ltb}
use lib.Dec.{eqb}
use lib.ListN.{get_or}
use Rattle.config.specs.declared.Config.{Config}
use Rattle.config.specs.Meaning.{priority_of, time_triggered}
use Rattle.config.specs.Accepted.{Accepted, Shaped}
use Rattle.plan.specs.Rank.{rank_of}
use Rattle.plan.specs.Plan.{trigger_of, plan_of}
use Rattle.plan.proofs.Fitted.{fitted}
use Rattle.word.specs.Word.{ranks, has}
use Rattle.word.proofs.Theorems.{has_union}
use Rattle.scheduler.specs.Event.{Event}
use Rattle.scheduler.specs.Scheduler.{fresh, after}
use Rattle.machine.proofs.Theorems.{reached}
use Rattle.machine.proofs.Relation.Whole.{Sim}
use Rattle.machine.proofs.Whole.Fresh.{fresh_sim}
use Rattle.machine.proofs.Whole.Lists.{after_sim}
use Rattle.waiting.specs.Conditions.{waits_to_begin, resource_held}
use Rattle.waiting.specs.Finishes.{finishes_until}
use Rattle.waiting.specs.Jobs.{jobs_ahead}
use Rattle.waiting.proofs.State.BasicKinds.{Basic}
use Rattle.waiting.proofs.Count.Steps.{finishes_jobs}
use Rattle.waiting.specs.Words.{jobs_ahead_in}
use Rattle.waiting.proofs.Words.Ahead.{Ranked, Reflected, ahead_words}
use Rattle.waiting.proofs.Model.Held.{held_zero, zero_held}

module _ (c : Config) (ok : Accepted c) (shaped : Shaped c) (es : List Event) where
  sim : Sim c (plan_of c) (rank_of c) (reached c es) (after c (fresh c) es)
  sim = after_sim (fitted c ok shaped) es (fresh_sim (fitted c ok shaped))

  -- 32: a resource is held exactly where the word of held resources is not 0
  pub wait_held : (reached c es).held < 2 ^ ranks
      → ((reached c es).held ≡ 0) ↔ (resource_held (after c (fresh c) es) ≡ false)
  wait_held small = (held_zero sim, zero_held sim small)

  -- 31: the body waits exactly where its request bit is set
  pub wait_asks : (b : ℕ) → b < c.bodies
      → has (reached c es).core.request (rank_of c b) ≡ waits_to_begin (after c (fresh c) es) b
  wait_asks = sim.tied.words.asks

  module _ (basic : Basic c) where
    own_level : (b : ℕ) → b < c.bodies → trigger_of c b ≡ priority_of c b
    own_level b h =
        let other : eqb (get_or c.kind b 0) time_triggered ≡ false =
        simp (lt-ltb b c.bodies h) at (basic.no_timed b) in
        rw other

    ranked : Ranked c (rank_of c)
    ranked =
        record {
          rank_lt = λ b h. omega (arith, (fitted c ok shaped).rank_lt b h, ok.few_bodies);
          rank_order = λ a b ha hb l. (fitted c ok shaped).rank_order a b ha hb
              (omega (arith, own_level a ha, own_level b hb));
          rank_inj = (fitted c ok shaped).rank_inj;
        }

    reflected : Reflected c (rank_of c) (reached c es).core.request (reached c es).core.started
        (after c (fresh c) es)
    reflected =
        record {
          request_lt = sim.tied.words.request_lt;
          begun_lt = sim.tied.words.started_lt;
          asks = sim.tied.words.asks;
          goes_on = sim.tied.words.goes_on;
          asks_real = λ r h. sim.tied.words.real r (simp (has_union, h));
          goes_on_real = λ r h. sim.tied.words.real r
              (simp (has_union, h) (or-true (has (reached c es).core.request r)));
        }

    -- the closed count by two counts of bits
    pub wait_words : (b : ℕ) → b < c.bodies
        → jobs_ahead c (after c (fresh c) es) b
        ≡ jobs_ahead_in (reached c es).core.request (reached c es).core.started (rank_of c b)
    wait_words b h =
        ahead_words c ok (rank_of c) ranked b h shaped basic es (reached c es).core.request
        (reached c es).core.started reflected

    -- so the steps are counted by bits
    pub wait_finishes : (b : ℕ) → b < c.bodies → waits_to_begin (after c (fresh c) es) b ≡ true
        → resource_held (after c (fresh c) es) ≡ false
        → finishes_until c (after c (fresh c) es) b
        ≡ jobs_ahead_in (reached c es).core.request (reached c es).core.started (rank_of c b)
    wait_finishes b h waits free = finishes_jobs c ok b shaped basic es waits free ∙ wait_words b h
