-- The twelve events, each of which does the same to the model as to the state; what a refused one leaves.
pub mod Agrees
pub mod Bodies
pub mod Resources
pub mod Tick
pub mod Tables
pub mod Bits
pub mod Waits
pub mod Refusals
