-- What one change leaves of the relation.
pub mod Request
pub mod End
pub mod Return
pub mod Launch
pub mod Bits
pub mod Hold
pub mod Get
pub mod Release
pub mod Matches
pub mod Turns
pub mod Ticks
pub mod Cells
