-- How long a body waits to begin, counted in ends of bodies (document 02, A5), in reading order:
-- when the question has an answer; the number by steps of the plain scheduler; what the call
-- returns, over bytes; and two other ways to the same number, the closed count that document 02
-- gives and the one by the machine's words.
--
-- Letters: c a configuration, s a state, m a model, b the body that waits, i another one, x a body
-- or what is seen of an event, n a number of Finish events; cs and ts the bytes of a configuration
-- and of a trace.
pub mod Conditions
pub mod Finishes
pub mod Refusal
pub mod Result
pub mod Jobs
pub mod Words
