-- What holds of the plain scheduler: the names of its laws, in reading order, for those who cite them. Each stands in
-- full, over specs/ alone, in the file that its line names.
pub mod Running
pub mod Events
pub mod Bits
pub mod Tables
-- who runs, and ties
pub use Rattle.scheduler.proofs.Theorems.Running.{candidate_of, runner_timed, runner_greatest, runner_holder, runner_best, runner_nobody, runner_someone}
pub use Rattle.scheduler.proofs.Theorems.Running.{fresh_decided, always_decided, next_decided, old_rule, runner_began}
pub use Rattle.scheduler.proofs.Theorems.Running.{current_gets, releases_gets}
-- at most one body begins in an event; the started time-triggered tasks; who begins again
pub use Rattle.scheduler.proofs.Theorems.Running.{runner_dispatched, underway, started_named, always_underway}
pub use Rattle.scheduler.proofs.Theorems.Running.{started_timed, triggered_started, begun_once, few_started, tick_order}
pub use Rattle.scheduler.proofs.Theorems.Running.{begins_after_end, begins_after_finish}
-- document 01's table of events; when each status is given, and what an accepted event leaves
pub use Rattle.scheduler.proofs.Theorems.Events.{statuses, EventTable, event_table, conditions, outcomes, accepted_none_fails, first_given_lem}
-- what a time-triggered task may call, and who may name one
pub use Rattle.scheduler.proofs.Theorems.Events.{status_seen, TimedCalls, timed_calls, timed_activate, timed_chain, timed_set}
-- a refused event changes nothing but the count of a lost line
pub use Rattle.scheduler.proofs.Theorems.Events.{refused_same, lost_line, lost_line_full, refused_same_one, refused_dispatched}
-- what an accepted Activate finds; requests that wait
pub use Rattle.scheduler.proofs.Theorems.Events.{activated_suspended, stop_bodies}
-- who holds a resource, and whom it is refused
pub use Rattle.scheduler.proofs.Theorems.Events.{held_by_user, holder_below, declared_refused}
-- where losses come from; the editions of the procedure
pub use Rattle.scheduler.proofs.Theorems.Events.{losses_call, losses_seen_lem, losses_le}
pub use Rattle.scheduler.proofs.Theorems.Events.{versions_alike, losses_apart}
-- event bits, and who waits for them
pub use Rattle.scheduler.proofs.Theorems.Bits.{with_bit, without_bit, any_set_lem}
pub use Rattle.scheduler.proofs.Theorems.Bits.{clear_bit, clear_others, set_bit, set_others, wait_bits, activate_bits, chain_bits, entry_bits, fresh_bits, bits_kept}
pub use Rattle.scheduler.proofs.Theorems.Bits.{wait_goes_on, wait_waits, wait_alone, set_resumes, set_waits_on, set_alone, mask_zero_waits}
-- what the due entries of one Tick do to a task
pub use Rattle.scheduler.proofs.Theorems.Tables.{tick_suspended, tick_triggered, tick_active}
-- d and n of a table; when an entry is due
pub use Rattle.scheduler.proofs.Theorems.Tables.{counted_from_start, stopped_until_start, stopped_since_stop, table_history, last_start}
pub use Rattle.scheduler.proofs.Theorems.Tables.{timed_once, due_exactly, entries_long, entry_at_lem}
