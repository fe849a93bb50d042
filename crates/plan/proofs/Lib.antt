-- The laws of the plan. `Theorems` is the file to read; the others prove it.
--
-- In the order of the proof: lists filled in turn, words of ranks, how many are below a number, the greatest that a
-- mask chooses, a mask's set bits, the entries of all tables; the ranks and their order; what the lists of the plan
-- give; the plan by its parts; what the machine's events count on.
pub mod Theorems
pub mod Stores
pub mod Words
pub mod Count
pub mod Greatest
pub mod SetBits
pub mod Entry
pub mod Ranking
pub mod Order
pub mod Lookups
pub mod Parts
pub mod Fitted
