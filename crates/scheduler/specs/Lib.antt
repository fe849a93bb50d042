-- The plain scheduler of OSEK OS classes BCC1 and ECC1, and of OSEKtime above them, as documents 01 and 02 restate
-- them, in reading order: the statuses, event bits, one body, who runs by priority, the state and who runs in it, the
-- events, the tick, the table of events with its order of checks, the whole from the fresh start on, what the events
-- alone say of a table and of its entries, and last when each status is given and what an accepted event leaves, in the
-- words of the state.
-- It has no rank, request word, stack, level kept between events, or cell.
--
-- Letters: c a configuration, s a state, e and es events, b and bs bodies, i the number of a body, t that of a task or
-- a table, r that of a resource, p a phase, k a candidate or a check, q a rule for ties, w a mask of event bits, st a
-- status; d a delay, n a count of Ticks, P a period, o an offset, ds the marks of due entries; j and js time-triggered
-- tasks that are started, the latest first.
pub mod Status
pub mod Bits
pub mod Body
pub mod Choice
pub mod State
pub mod Event
pub mod Tick
pub mod Call
pub mod Scheduler
pub mod Entries
pub mod History
pub mod Conditions
pub mod Outcomes
