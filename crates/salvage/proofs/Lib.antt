-- The laws of `salvage`. `Theorems` is the file to read, `Example` a call worked out by hand. The others serve the
-- proofs: one step of a walk, both lengths counted, an output written piece by piece, both outputs so, the whole call.
pub mod Example
pub mod Theorems
mod Step
mod Totals
mod Progress
mod Outputs
mod Answers
pub mod Told
