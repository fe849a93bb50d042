-- The laws of `number`. `Theorems` is the file to read and the one that other crates cite; `Cases` has proofs by cases
-- for every crate, `Bits` laws of single bits, `Front` lists that begin alike, `Laying` the laws of a writer that writes
-- piece by piece; `Groups` and `Size` have what the definitions give group by group, for the proofs of the code.
pub mod Cases
pub mod Bits
pub mod Front
pub mod Theorems
pub mod Laying
pub mod Groups
pub mod Size
pub mod Answers
mod Place
mod RoundTrip
