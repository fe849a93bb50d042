-- Arbitration is the plain choice: of those that bid the highest above the level runs, and else the first of the nest.
pub mod Choice
pub mod Bids
pub mod Seat
pub mod Dispatch
