-- The laws of `event`. `Theorems` is the file to read and the one that other crates cite; `Refusals` computes document
-- 01's tables, `Listing` reads its trace; `Codes`, `Reading` and `Writing` have what the definitions give case by case,
-- for the proofs of the code.
pub mod Theorems
pub mod Refusals
pub mod Listing
pub mod Codes
pub mod Reading
pub mod Writing
mod RoundTrip
mod Size
mod Trace
mod Unreadable
mod FirstFault
