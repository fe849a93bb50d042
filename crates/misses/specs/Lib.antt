-- What the contracts of the code cite beside crate deadlines, in reading order: what an event changed for the deadline
-- cells; the bytes of the misses so far; what playing a trace counts on.
--
-- Letters: m a model, e an event, o what it handed back, x a change, b a body, r its rank, rs ranks by body, ds deadlines
-- by body, ms misses, n a count, d the bytes of a list.
pub mod Change
pub mod Noted
pub mod Watched
