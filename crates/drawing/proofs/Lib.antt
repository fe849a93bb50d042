-- The laws of drawn traces. `Theorems` is the file to read and the one that other crates cite; `Values` computes the
-- generator's check values, `Examples` worked draws and `Answers` those of the call. `Shares` and `Events` have what the
-- proofs of the code cite besides.
pub mod Values
pub mod Examples
pub mod Answers
pub mod Theorems
pub mod Shares
pub mod Events
mod Shift
mod Generator
mod Reach
