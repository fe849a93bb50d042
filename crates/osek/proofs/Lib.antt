-- What holds of the library: `Theorems` is the page to read first, of the whole repository.
mod Verdict
pub mod Theorems
