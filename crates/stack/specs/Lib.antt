-- What the contracts and laws of the stack cite.
pub mod Stack
