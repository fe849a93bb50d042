-- The laws of `config`. `Theorems` is the file to read and the one that other crates cite; `Refusals` computes document
-- 01's table; `Tables` has the entries' places for every crate.
-- The rest is in the order of the proofs: lists and tests, one number, all numbers, the value that they make.
-- `Ranges`, `Position` and `Walk` serve the proofs of the code too.
pub mod Theorems
pub mod Refusals
pub mod Tables
mod Filled
pub mod Ranges
pub mod Position
pub mod Walk
mod Extends
mod Rows
mod Sound
mod Reading
mod RoundTrip
mod Trimmed
mod Counts
mod Fuel
mod FirstFault
mod Ceiling
mod Mask
mod Timed
mod Editions
