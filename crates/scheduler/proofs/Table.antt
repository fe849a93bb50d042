-- Tables: their entries, what has become of them since their Start, and which entries are due at a Tick.
pub mod Entries
pub mod History
pub mod Dues
pub mod TimedEntries
