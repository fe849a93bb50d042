-- The laws of the run.
pub mod Ends
pub mod Passes
