-- The laws of the machine. `Theorems` is the file to read.
--
-- In the order of the proof: how a model stands for a state (`Relation`); arbitration is the plain choice
-- (`Arbitration`); what one change leaves of the relation (`Change`); the twelve events (`Event`); the fresh start and
-- lists of events (`Whole`).
pub mod Theorems
pub mod Relation
pub mod Arbitration
pub mod Change
pub mod Event
pub mod Whole
