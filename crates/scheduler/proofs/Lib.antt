-- The laws of the plain scheduler. `Theorems` is the file to read.
--
-- In the order of the proof: numbers that stand in a list (`Members`), one body (`Body`), the kinds of bodies (`Kind`);
-- who is chosen, and ties (`Choice`); what an event checks, does and leaves as it was (`Event`); tables and the entries
-- that are due (`Table`); the order of the started time-triggered tasks (`Order`); who holds a resource (`Resource`); the
-- editions of the procedure (`Version`). `Worked` has document 01's listing and lists of events worked out by hand.
pub mod Theorems
pub mod Members
pub mod Body
pub mod Kind
pub mod Choice
pub mod Event
pub mod Table
pub mod Order
pub mod Resource
pub mod Version
pub mod Worked
