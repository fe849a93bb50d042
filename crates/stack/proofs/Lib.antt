-- The laws of the stack. `Theorems` states them; the others prove them: a word, two registers joined, the row.
pub mod Theorems
mod Bytes
mod Join
mod RowBytes
