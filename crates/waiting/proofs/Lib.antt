-- The laws of waiting to begin. `Theorems` is the file to read; `Examples` are worked numbers,
-- `Calls` the call on bytes.
--
-- In the order of the proof: what holds of the states that the fresh start leads to (`State`); the
-- closed count, and what a Finish makes of it (`Count`); the same count by words (`Words`); the
-- model that stands for the state (`Model`).
pub mod Theorems
pub mod Examples
pub mod Calls
pub mod State
pub mod Count
pub mod Words
pub mod Model
