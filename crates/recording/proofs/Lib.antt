-- The laws of salvaging. `Theorems` is the file to read and the one that other crates cite; `Example` is a damaged
-- trace worked out by hand.
pub mod Example
pub mod Theorems
mod Fates
mod Stretches
mod Size
mod Listed
