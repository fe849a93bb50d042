-- What the contracts of `salvage` cite.
pub mod Salvage
