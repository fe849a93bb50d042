-- The run, in reading order: what it returns and writes, by the plain scheduler's answers; how a result is split; and
-- the same output by the machine's steps.
--
-- Letters: cs and ts the bytes of a configuration and of a trace, c a configuration, es events, d an output, n its
-- length, or a count of losses; r a refusal, p its place.
pub mod Run
pub mod Result
pub mod Steps
