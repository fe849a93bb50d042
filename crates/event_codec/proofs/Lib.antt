-- What the functions' proofs share, and, in `Parts`, those of the crates above that write; the laws of events are those
-- of `event`.
mod Arms
mod Steps
mod Ends
pub mod Parts
pub mod Told
