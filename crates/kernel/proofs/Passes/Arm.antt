-- One step of the second pass: what the arm of each code leaves is the step of the event at the place.
--
--   Arm                        the event that was read, where the next one stands, and its step
--   activate_arm .. clear_arm  the arms
--   one_of_twelve              there is an arm for every event
use Prim.Native.Nat.{ℕ, ◌+◌, ◌≤◌, ◌<◌}
use mathlib.Core.Path.{◌≡◌, refl, sym, ap, ◌∙◌}
use mathlib.Core.Bool.{true}
use mathlib.Core.List.{List}
use native.Mathlib.Nat.{not-le_of_lt}
use native.Mathlib.Omega.{arith}
use lib.ListN.{length, get_or}
use Rattle.number.specs.Refusal.{none}
use Rattle.number_codec.specs.declared.Pair.{Pair}
use Rattle.number.specs.declared.Reading.{Reading}
use Rattle.config.specs.declared.Config.{Config}
use Rattle.config.specs.Meaning.{counts_lines}
use Rattle.event.specs.declared.Event.{Event}
use Rattle.event.specs.Event.{last_code, known, arguments, event, accepted, read_event}
use Rattle.plan.specs.declared.Plan.{Plan}
use Rattle.machine.specs.Model.{Model, Outcome}
use Rattle.machine.specs.Events.{activate, finish, chain, get, release, tick, line, start, stop, wait, set_event, clear}
use Rattle.machine.specs.Machine.{status_of, effect_of, else_of, machine_step}
use Rattle.run.specs.Run.{call_of}
use Rattle.kernel.proofs.Passes.Read.{NumberAt, PairAt, none_read, one_read, two_read}

-- what an arm leaves in the model m: the event at the place `at` was read, the next one stands at `next`, and o is the
-- step
pub record Arm (c : Config) (p : Plan) (ts : List ℕ) (m : Model) (at next : ℕ) (o : Outcome) : Type 0 where
  pub event : Event
  pub read : read_event ts at ≡ accepted event next
  pub stepped : o ≡ machine_step c p m (call_of event)

-- the event at the place was accepted
module _ {c : Config} {p : Plan} {ts : List ℕ} {m : Model} {at : ℕ} (inside : at < length ts)
    (fine : (read_event ts at).refusal ≡ none)
  where
    -- its code is k, which has no argument, one, two
    module _ (k : ℕ) (is_Known : known k ≡ true) (code : get_or ts at 0 ≡ k) {next : ℕ} {o : Outcome} where
      arm_none : arguments k ≡ 0 → o ≡ machine_step c p m (call_of (event k 0 0)) → next ≡ at + 1
          → Arm c p ts m at next o
      arm_none n stepped after =
          record {
            event = event k 0 0;
            read = none_read ts at inside fine k is_Known code n ∙ ap (accepted (event k 0 0)) (sym after);
            stepped = stepped;
          }

      arm_one : arguments k ≡ 1 → {a : Reading ℕ} → NumberAt ts (at + 1) a
          → o ≡ machine_step c p m (call_of (event k a.value 0)) → next ≡ a.place
          → Arm c p ts m at next o
      arm_one n {a} read stepped after =
          record {
            event = event k a.value 0;
            read = one_read ts at inside fine k is_Known code n read ∙ ap (accepted (event k a.value 0)) (sym after);
            stepped = stepped;
          }

      arm_two : arguments k ≡ 2 → {a : Pair} → PairAt ts (at + 1) a
          → o ≡ machine_step c p m (call_of (event k a.first a.second)) → next ≡ a.place
          → Arm c p ts m at next o
      arm_two n {a} read stepped after =
          record {
            event = event k a.first a.second;
            read =
                two_read ts at inside fine k is_Known code n read
                ∙ ap (accepted (event k a.first a.second)) (sym after);
            stepped = stepped;
          }

    -- what each arm leaves; o is what its method hands back, a what it read
    module _ {next : ℕ} {o : Outcome} where
      pub activate_arm : get_or ts at 0 ≡ 1 → {a : Reading ℕ} → NumberAt ts (at + 1) a
          → o ≡ activate p.callable p.priority m a.value → next ≡ a.place → Arm c p ts m at next o
      unfolding known arguments call_of status_of effect_of else_of activate
      activate_arm code read stepped after = arm_one 1 refl code refl read stepped after

      pub finish_arm : get_or ts at 0 ≡ 2 → o ≡ finish p.priority m → next ≡ at + 1 → Arm c p ts m at next o
      unfolding known arguments call_of status_of effect_of else_of finish
      finish_arm code stepped after = arm_none 2 refl code refl stepped after

      pub chain_arm : get_or ts at 0 ≡ 3 → {a : Reading ℕ} → NumberAt ts (at + 1) a
          → o ≡ chain p.isrs p.callable p.priority m a.value → next ≡ a.place → Arm c p ts m at next o
      unfolding known arguments call_of status_of effect_of else_of chain
      chain_arm code read stepped after = arm_one 3 refl code refl read stepped after

      pub get_arm : get_or ts at 0 ≡ 4 → {a : Reading ℕ} → NumberAt ts (at + 1) a
          → o ≡ get c.resources p.users p.ceiling m a.value → next ≡ a.place → Arm c p ts m at next o
      unfolding known arguments call_of status_of effect_of else_of get
      get_arm code read stepped after = arm_one 4 refl code refl read stepped after

      pub release_arm : get_or ts at 0 ≡ 5 → {a : Reading ℕ} → NumberAt ts (at + 1) a
          → o ≡ release c.resources p.priority m a.value → next ≡ a.place → Arm c p ts m at next o
      unfolding known arguments call_of status_of effect_of else_of release
      release_arm code read stepped after = arm_one 5 refl code refl read stepped after

      pub tick_arm : get_or ts at 0 ≡ 6 → o ≡ tick p.compare p.entry p.priority m → next ≡ at + 1
          → Arm c p ts m at next o
      unfolding known arguments call_of status_of effect_of else_of tick
      tick_arm code stepped after = arm_none 6 refl code refl stepped after

      pub line_arm : get_or ts at 0 ≡ 7 → {a : Reading ℕ} → NumberAt ts (at + 1) a
          → o ≡ line (counts_lines c) p.line p.priority m a.value → next ≡ a.place → Arm c p ts m at next o
      unfolding known arguments call_of status_of effect_of else_of line
      line_arm code read stepped after = arm_one 7 refl code refl read stepped after

      pub start_arm : get_or ts at 0 ≡ 8 → {a : Pair} → PairAt ts (at + 1) a
          → o ≡ start c.tables p.first c.entries c.period c.offset m a.first a.second
          → next ≡ a.place → Arm c p ts m at next o
      unfolding known arguments call_of status_of effect_of else_of start
      start_arm code read stepped after = arm_two 8 refl code refl read stepped after

      pub stop_arm : get_or ts at 0 ≡ 9 → {a : Reading ℕ} → NumberAt ts (at + 1) a
          → o ≡ stop c.tables p.first c.entries m a.value → next ≡ a.place → Arm c p ts m at next o
      unfolding known arguments call_of status_of effect_of else_of stop
      stop_arm code read stepped after = arm_one 9 refl code refl read stepped after

      pub wait_arm : get_or ts at 0 ≡ 10 → {a : Reading ℕ} → NumberAt ts (at + 1) a
          → o ≡ wait p.extended p.priority m a.value → next ≡ a.place → Arm c p ts m at next o
      unfolding known arguments call_of status_of effect_of else_of wait
      wait_arm code read stepped after = arm_one 10 refl code refl read stepped after

      pub set_arm : get_or ts at 0 ≡ 11 → {a : Pair} → PairAt ts (at + 1) a
          → o ≡ set_event p.isrs p.extended p.rank p.priority m a.first a.second → next ≡ a.place
          → Arm c p ts m at next o
      unfolding known arguments call_of status_of effect_of else_of set_event
      set_arm code read stepped after = arm_two 11 refl code refl read stepped after

      pub clear_arm : get_or ts at 0 ≡ 12 → {a : Reading ℕ} → NumberAt ts (at + 1) a
          → o ≡ clear p.extended m a.value → next ≡ a.place → Arm c p ts m at next o
      unfolding known arguments call_of status_of effect_of else_of clear
      clear_arm code read stepped after = arm_one 12 refl code refl read stepped after

past : (n : ℕ) {k : ℕ} → n ≤ k → (k ≡ n → ⊥) → n < k
past n h d = omega arith

-- no other code is left
pub one_of_twelve : (k : ℕ) → 1 ≤ k → k ≤ last_code → (k ≡ 1 → ⊥) → (k ≡ 2 → ⊥) → (k ≡ 3 → ⊥) → (k ≡ 4 → ⊥) → (k ≡ 5 → ⊥)
    → (k ≡ 6 → ⊥) → (k ≡ 7 → ⊥) → (k ≡ 8 → ⊥) → (k ≡ 9 → ⊥) → (k ≡ 10 → ⊥) → (k ≡ 11 → ⊥) → (k ≡ 12 → ⊥) → ⊥
one_of_twelve k low high n1 n2 n3 n4 n5 n6 n7 n8 n9 n10 n11 n12 =
    let low9 = past 9 (past 8
    (past 7 (past 6 (past 5 (past 4 (past 3 (past 2 (past 1 low n1) n2) n3) n4) n5) n6) n7) n8) n9 in
    not-le_of_lt (past 12 (past 11 (past 10 low9 n10) n11) n12) high
