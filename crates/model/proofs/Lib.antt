-- The laws of the model's code.
pub mod Methods
pub mod Views
