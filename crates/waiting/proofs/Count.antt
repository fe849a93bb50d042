-- The closed count is the number of Finish events until the body begins.
pub mod Sum
pub mod Descent
pub mod Steps
