-- What an accepted event leaves: `outcomes`, at the end of the file.
use Prim.Native.Nat.{ℕ, ◌<◌}
use mathlib.Core.Path.{◌≡◌, refl, ap, ◌∙◌}
use mathlib.Core.Bool.{true, false}
use mathlib.Core.List.{List, [], ◌∷◌}
use lib.ListN.{length, get_or, get_or-map}
use lib.Seq.{get_or-set_same, get_or-set_other}
use Rattle.config.specs.declared.Config.{Config}
use Rattle.scheduler.specs.Status.{first_given}
use Rattle.scheduler.specs.Body.{Body, activated, finished, rest, requested, gets, releases}
use Rattle.scheduler.specs.Choice.{Candidate}
use Rattle.scheduler.specs.State.{State, Table, stopped, running, body_of, table_of, changing, with_table, runner}
use Rattle.scheduler.specs.Event.{Activate, Finish, Chain, Get, Release, Tick, Line, Start, Stop}
use Rattle.scheduler.specs.Tick.{counting, ticked}
use Rattle.scheduler.specs.Call.{caller, finish, effect_of}
use Rattle.scheduler.specs.Scheduler.{leaves}
use Rattle.scheduler.specs.Outcomes.{Alone, Activated, Finished, Chained, Taken, Released, Counted, Asked, TableSet, Outcomes}
use Rattle.scheduler.proofs.Body.{finished_free, finished_again, finished_used}
use Rattle.scheduler.proofs.Choice.Runner.{runner_timed, runner_untimed}
use Rattle.scheduler.proofs.Event.Conditions.{chosen_untimed}
use Rattle.scheduler.proofs.Event.Effects.{clash, body_of_changing_same, body_of_changing_other, length_changing, tables_ticked}
use Rattle.scheduler.proofs.Event.Bits.{accepted_leaves}

alone_changing : (t : ℕ) (f : Body → Body) (s : State) → Alone t s (changing t f s)
alone_changing t f s =
    record { bodies_same = λ b d. body_of_changing_other t f s b d; tables_same = refl; order_same = refl }

module _ (s : State) where
  activates : (t : ℕ) → Activated t s (changing t activated s)
  activates t =
      record {
        ready_now = λ h. ap (λ (b : Body). b.phase) (body_of_changing_same t activated s h);
        alone = alone_changing t activated s;
      }

  -- what the end of the runner is to its body; x: what has the same bodies and tables
  finishes : (k : ℕ) (js : List ℕ) → ((j : ℕ) (is : List ℕ) → s.order ≡ j ∷ is → js ≡ is)
      → Finished k s (record { bodies = (finish k s).bodies; tables = s.tables; order = js })
  finishes k js left =
      record {
        suspended_now = λ h q. ap (λ (b : Body). b.phase) (here h) ∙ finished_free (body_of s k) q;
        ready_again = λ h q. ap (λ (b : Body). b.phase) (here h) ∙ finished_again (body_of s k) q;
        used_up = λ h. ap (λ (b : Body). b.pending) (here h) ∙ finished_used (body_of s k);
        bodies_same = λ b d. body_of_changing_other k finished s b d;
        tables_same = refl;
        order_left = left;
      }
    where
      here : k < length s.bodies → body_of (changing k finished s) k ≡ finished (body_of s k)
      here h = body_of_changing_same k finished s h

  chains : (k t : ℕ) → Chained k t s (changing t activated (changing k finished s))
  chains k t =
      record {
        ready_now = λ h.
            ap (λ (b : Body). b.phase)
            (body_of_changing_same t activated (changing k finished s) (rw (length_changing k finished s) h));
        suspended_now = λ h d q.
            ap (λ (b : Body). b.phase)
            (body_of_changing_other t activated (changing k finished s) k d ∙ body_of_changing_same k finished s h)
            ∙ finished_free (body_of s k) q;
        bodies_same = λ b d e.
            body_of_changing_other t activated (changing k finished s) b e ∙ body_of_changing_other k finished s b d;
        tables_same = refl;
        order_same = refl;
      }

  takes : (k r : ℕ) → Taken k r s (changing k (gets r) s)
  takes k r =
      record {
        held_now = λ h. ap (λ (b : Body). b.held) (body_of_changing_same k (gets r) s h);
        phase_same = λ h. ap (λ (b : Body). b.phase) (body_of_changing_same k (gets r) s h);
        alone = alone_changing k (gets r) s;
      }

  gives_back : (k r : ℕ) → Released k r s (changing k releases s)
  gives_back k r =
      record {
        held_now = λ h rs q. ap (λ (b : Body). b.held) (body_of_changing_same k releases s h) ∙ ap rest q;
        phase_same = λ h. ap (λ (b : Body). b.phase) (body_of_changing_same k releases s h);
        alone = alone_changing k releases s;
      }

  asks : (i : ℕ) → Asked i s (changing i requested s)
  asks i =
      record {
        ready_now = λ h q. ap (λ (b : Body). b.phase) (here h) ∙ rw q;
        waits_now = λ h q. ap (λ (b : Body). b.pending) (here h) ∙ rw q;
        phase_same = λ h q. ap (λ (b : Body). b.phase) (here h) ∙ rw q;
        alone = alone_changing i requested s;
      }
    where
      here : i < length s.bodies → body_of (changing i requested s) i ≡ requested (body_of s i)
      here h = body_of_changing_same i requested s h

  sets : (t : ℕ) (x : Table) → TableSet t x s (with_table t x s)
  sets t x =
      record {
        table_now = λ h. get_or-set_same s.tables t x stopped h;
        others_same = λ u d. get_or-set_other s.tables t u x stopped d;
        bodies_same = refl;
        order_same = refl;
      }

module _ (c : Config) (s : State) where
  -- who ends by its priority meets no started time-triggered task
  ends : Finished (caller c s) s (effect_of c s Finish)
  ends = go s.order refl
    where
      untimed : s.order ≡ [] → (runner c s).timed ≡ false
      untimed o = ap (λ (x : Candidate). x.timed) (runner_untimed c s o) ∙ chosen_untimed c s.bodies

      go : (js : List ℕ) → s.order ≡ js → Finished (caller c s) s (effect_of c s Finish)
      go [] o =
          rw (untimed o)
          (finishes s (caller c s) s.order (λ j is q. absurd (clash (cc))))
      go (j ∷ js) o =
          let first : (runner c s).timed ≡ true = ap (λ (x : Candidate). x.timed) (runner_timed c s j js o) in
          rw first (finishes s (caller c s) (rest s.order) (λ i is q. ap rest q))

  counts_on : Counted s (leaves c s Tick)
  unfolding first_given counting
  counts_on =
      record {
        counts = λ t d n q. table_is t ∙ ap counting q;
        stands = λ t q. table_is t ∙ ap counting q;
      }
    where
      table_is : (t : ℕ) → table_of (ticked c s) t ≡ counting (table_of s t)
      table_is t =
          ap (λ (xs : List Table). get_or xs t stopped) (tables_ticked c s) ∙ get_or-map counting s.tables t stopped

  pub outcomes : Outcomes c s
  outcomes =
      record {
        one_activate = λ t a. rw (accepted_leaves c s (Activate t) a) (activates s t);
        two_finish = λ a. rw (accepted_leaves c s Finish a) ends;
        three_chain = λ t a. rw (accepted_leaves c s (Chain t) a) (chains s (caller c s) t);
        four_get = λ r a. rw (accepted_leaves c s (Get r) a) (takes s (caller c s) r);
        five_release = λ r a. rw (accepted_leaves c s (Release r) a) (gives_back s (caller c s) r);
        six_tick = counts_on;
        seven_line = λ i a. rw (accepted_leaves c s (Line i) a) (asks s i);
        eight_start = λ t d a. rw (accepted_leaves c s (Start t d) a) (sets s t (running d 0));
        nine_stop = λ t a. rw (accepted_leaves c s (Stop t) a) (sets s t stopped);
      }
