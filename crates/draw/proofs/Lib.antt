-- The laws of `draw`. `Theorems` is the file to read. The others serve the proofs: the running sum of the weights, one
-- event written, the trace event by event, the whole call.
pub mod Theorems
mod Sums
mod Writing
mod Progress
mod Answers
