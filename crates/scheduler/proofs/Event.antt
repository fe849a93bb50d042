-- What an event checks, what it does where it is accepted, and what it leaves as it was.
pub mod Effects
pub mod Checks
pub mod Conditions
pub mod Refusals
pub mod Masks
pub mod Bits
pub mod Outcomes
pub mod Requests
pub mod Losses
