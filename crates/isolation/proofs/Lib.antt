-- `Theorems` is the file to read, and `Examples` after it; the modules below prove it.
pub mod Theorems
pub mod Examples
pub mod Models
pub mod States
pub mod Conservation
