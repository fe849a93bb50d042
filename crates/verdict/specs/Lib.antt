-- What the private functions are held to.
pub mod Answers
