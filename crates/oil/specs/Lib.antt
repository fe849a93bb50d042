-- What the contracts of `oil` cite beside the grammar's definitions.
pub mod Answer
pub mod Tokens
pub mod Hash
pub mod Names
pub mod Gathered
pub mod ByClass
