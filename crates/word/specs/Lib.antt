-- What the contracts and laws of the word cite.
pub mod Word
