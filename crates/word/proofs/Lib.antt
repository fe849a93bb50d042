-- The laws of the word. `Theorems` states them; the others prove them.
pub mod Theorems
mod Bit
mod Bitwise
mod Rank
mod Highest
