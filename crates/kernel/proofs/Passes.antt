-- What the proofs of the run's functions cite.
pub mod Bytes
pub mod Count
pub mod Read
pub mod Arm
pub mod Play
pub mod Whole
