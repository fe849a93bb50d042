-- The machine of documents 01 and 02, in reading order: the model, the arbiter, the held resources, the cells, the
-- twelve events, and the whole from the fresh start on. It is the other side of demand 3: what the plain scheduler
-- (crate `scheduler`) does with a set of bodies, this does as the chip does it.
--
-- Letters: c a configuration, p its plan, m a model, k a core, or how many cells are left; r a rank or a resource; ps
-- priorities by rank, trs and lrs the ranks of tasks and of ISRs by body, cs ceilings and us words of users by
-- resource; e an entry or an event, t a table or a task, d a delay, P a period; of the cells ks are compare values,
-- ns counters, on switches, w whether a turn may have to pass; of the tables os are offsets, fs the tables' first
-- entries, es their counts, qs their periods; ms match marks, rs the ranks of entries' tasks; ws and xs words of
-- ranks; of event bits w is a mask, b some bits, x the word of the ranks whose bits count as 0.
pub mod Model
pub mod Arbiter
pub mod Resources
pub mod Cells
pub mod Events
pub mod Machine
