-- Isolation of the plain scheduler's states: the invariant, who runs, each event, and lists of events.
pub mod Invariant
pub mod Choice
pub mod Change
pub mod Lists
