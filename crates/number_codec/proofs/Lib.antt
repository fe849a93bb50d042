-- What the functions' proofs share; the laws of numbers are those of `number`.
mod Steps
pub mod Refusals
