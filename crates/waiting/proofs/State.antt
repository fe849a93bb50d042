-- What holds of every state that the fresh start leads to.
pub mod BasicKinds
pub mod Basic
pub mod Requests
pub mod NoHolder
