-- How a model of the machine stands for a state of the plain scheduler, in named parts, and `Whole`.
pub mod Rows
pub mod Words
pub mod Kinds
pub mod Slots
pub mod Free
pub mod Nest
pub mod Cells
pub mod Losses
pub mod Bits
pub mod Order
pub mod Whole
