-- The fresh start, lists of events, what holds after them, and who holds what.
pub mod Fresh
pub mod Lists
pub mod Reached
pub mod Holders
