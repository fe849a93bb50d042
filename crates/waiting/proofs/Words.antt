-- The closed count as two counts of bits.
pub mod Sum
pub mod Ones
pub mod Ahead
