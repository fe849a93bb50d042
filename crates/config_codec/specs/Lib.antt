-- What the contracts of the private functions cite beside the definitions of `config`.
pub mod Position
pub mod Entry
pub mod Fault
pub mod Walk
pub mod Near
