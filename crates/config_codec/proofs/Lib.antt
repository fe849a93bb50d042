-- What the proofs of the functions share. The laws of configurations are those of `config`, and those of a trait are in specs/.
-- In order: the tests of a number; the number that follows; the walk, one step of it, and what it gives over the input and
-- over a value; the writer's second pass and its answers.
mod Search
mod Timed
mod EntryTests
mod NextNumber
mod Walks
mod Step
mod Reading
mod Measuring
mod Writing
mod Answer
pub mod Told
