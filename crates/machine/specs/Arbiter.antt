-- Who runs, as the interrupt controller does it: of those that wait to begin or go on by their priority the highest
-- wins, and is dispatched only strictly above the level.
--
--   arbitrated ps k  the core k after arbitration, and whether a body began; ps: the priorities by rank
--   settled ps m     the model after arbitration, which ends every event that may let another body run
--   leaving m        the model after its runner ended
--   triggering ps m  arbitration after a Tick, which alone may start a time-triggered task
--   returning m      the model after a time-triggered task ended
--
-- No stack of preempted bodies is kept: one that holds no resource bids for the processor by its bit in `started`, and
-- one that holds some is found in the row of held resources.
use Rattle.std.specs.Prelude.{ℕ, Bool, true, false, cond, not, ◌&&◌, List, ltb, eqb, get_or}
use Rattle.config.specs.Meaning.{execution_level, trigger_level}
use Rattle.word.specs.Word.{has, with, without, union, winner}
use Rattle.stack.specs.Stack.{top_row, second_row, push_row, pop_row}
use Rattle.machine.specs.Model.{Core, Picked, Model, Outcome, no_rank, with_core, with_request, with_event_bits, with_triggered, done_with}

-- the ranks that ask for the processor: they wait to begin, or have begun and go on by their priority
abbrev pub bids : Core → ℕ
bids k = union k.request k.started

-- "the arbiter's winner is the highest bit set in that word": its priority, or its trigger level; 0 where no bit is set
abbrev pub winning : List ℕ → Core → ℕ
winning ps k = get_or ps (winner (bids k)) 0

-- the winner begins where it has not begun; else it is resumed
abbrev pub beginning : Core → Bool
beginning k = not (has k.started (winner (bids k)))

-- the winner runs; a request by which it begins is used up, and a second one of a body that is resumed waits on
abbrev pub dispatching : List ℕ → Core → Core
dispatching ps k =
    record {
      request = cond (beginning k) (without k.request (winner (bids k))) k.request;
      started = with k.started (winner (bids k));
      aside = k.aside;
      runner = winner (bids k);
      level = winning ps k;
    }

-- "it is dispatched only if its priority is strictly above the level"
unfoldable pub arbitrated : List ℕ → Core → Picked
arbitrated ps k =
    cond (ltb k.level (winning ps k))
    (record { core = dispatching ps k; begun = beginning k })
    (record { core = k; begun = false })

abbrev pub settled : List ℕ → Model → Outcome
settled ps m = done_with (with_core m (arbitrated ps m.core).core) (arbitrated ps m.core).begun

-- the runner leaves, by its end or by a Wait: the level is left to whoever took the latest resource that is held, or to
-- nobody; arbitration follows. s and a: the words `started` and `aside` then
abbrev pub last_level : Model → ℕ
last_level m = cond (eqb (top_row m.holder) no_rank) 0 (top_row m.raised)

abbrev pub left_with : Model → ℕ → ℕ → Core
left_with m s a =
    record { request = m.core.request; started = s; aside = a; runner = top_row m.holder; level = last_level m }

-- the runner has ended, and its event bits count as 0 until they are set again: at its next activation none is set
abbrev pub vacated : Model → Core
vacated m = left_with m (without m.core.started m.core.runner) m.core.aside

abbrev pub leaving : Model → Model
leaving m = with_event_bits m (vacated m) (with m.cleared m.core.runner) m.bits m.waited

-- the runner waits
abbrev pub paused : Model → Core
paused m = left_with m (without m.core.started m.core.runner) (with m.core.aside m.core.runner)

-- the body of rank r asked for
abbrev pub requesting : ℕ → Model → Model
requesting r m = with_core m (with_request m.core (with m.core.request r))

-- the winner is above the level, and that by the trigger level, which a time-triggered task alone has
abbrev pub is_triggered : List ℕ → Core → Bool
is_triggered ps k = ltb k.level (winning ps k) && eqb (winning ps k) trigger_level

-- it begins, and its wrapper lowers the level from that of the trigger to the common execution level (`launching`: and
-- it is put on the row of the triggered ones)
abbrev pub entering : Core → Core
entering k =
    record {
      request = without k.request (winner (bids k));
      started = k.started;
      aside = with k.aside (winner (bids k));
      runner = winner (bids k);
      level = execution_level;
    }

abbrev pub launching : Model → Model
launching m = with_triggered m (entering m.core) m.cleared (push_row m.triggered (winner (bids m.core)))

abbrev pub triggering : List ℕ → Model → Outcome
triggering ps m = cond (is_triggered ps m.core) (done_with (launching m) true) (settled ps m)

-- a time-triggered task runs: nothing else does at that level
abbrev pub timed : Model → Bool
timed m = eqb m.core.level execution_level

-- it has ended: the one that was started before it goes on, at the same level; where there is none, the level is left
-- as by any other runner
abbrev pub alone : Model → Bool
alone m = eqb (second_row m.triggered) no_rank

abbrev pub returned : Model → Core
returned m =
    record {
      request = m.core.request;
      started = m.core.started;
      aside = without m.core.aside m.core.runner;
      runner = cond (alone m) (top_row m.holder) (second_row m.triggered);
      level = cond (alone m) (last_level m) execution_level;
    }

abbrev pub returning : Model → Model
returning m = with_triggered m (returned m) (with m.cleared m.core.runner) (pop_row m.triggered)
