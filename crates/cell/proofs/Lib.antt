-- The laws of the cell. `Theorems` states them, `Tick` to `Rows` prove them, and the loop of `tick_row` goes by
-- `Progress`.
pub mod Theorems
pub mod Tick
pub mod Order
pub mod Modulo
pub mod Reach
pub mod Due
pub mod Match
pub mod OnTime
pub mod Rows
pub mod Progress
