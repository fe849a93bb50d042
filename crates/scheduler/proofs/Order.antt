-- The order of the started time-triggered tasks: who is in it, and what each event makes of it.
pub mod Range
pub mod Standing
pub mod Trigger
pub mod Invariant
