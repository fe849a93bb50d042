-- What the call returns, by the words of the last model.
pub mod Held
pub mod Words
pub mod Result
