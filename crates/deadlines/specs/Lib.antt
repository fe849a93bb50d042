-- Deadlines, in reading order: when a body becomes ready and when it ends; what a miss is, over the list of events
-- alone; the list that is written; what the call returns and leaves; the deadline cells, and the misses that they tell
-- of; the same by the machine's words.
--
-- Letters: c a configuration, s a state, e and es events, b a body, D its deadline, ds the deadlines by body, x and xs
-- deadline cells, u the Ticks left to a due one, k a Tick's number from 1 on.
pub mod Activation
pub mod Miss
pub mod Report
pub mod Result
pub mod DeadlineCells
pub mod Words
