-- Worked out by the checker: two models on which isolation speaks, why its limits are there, and the requests,
-- begins and ends of a run, counted.
pub mod Sample
pub mod Pair
pub mod Limits
pub mod Counts
