-- The laws of the verdict. `Theorems` is the file to read, and `Examples` has verdicts on bytes, computed. Behind them, in
-- order: the right answers of a record, the verdict on them, the run's output, the number for C.
pub mod Examples
pub mod Theorems
pub mod Right
pub mod Judging
pub mod Output
pub mod Results
