-- The laws that the functions' proofs cite: of answers as numbers, and of each way out.
pub mod Answers
pub mod Ways
