-- The laws of the run. `Theorems` is the file to read; `Worked` has the run on bytes, computed, and `Edges` document
-- 01's edges P1 to P13. `Room` serves the calls that let the run say what is refused.
pub mod Theorems
pub mod Worked
pub mod Edges
pub mod Answers
pub mod Input
pub mod Bounds
pub mod Room
