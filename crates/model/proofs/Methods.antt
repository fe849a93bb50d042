-- What the proofs of the model's methods cite.
pub mod Core
pub mod Bodies
pub mod Bits
pub mod Tables
