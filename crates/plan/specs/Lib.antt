-- What the contracts of `plan` cite, in reading order:
-- lists filled in turn, words of ranks, ranks, entries, the whole plan.
--
-- Letters: c a configuration, p a plan; b a body, r a rank or a resource, t a table, e an entry, each by its number;
-- l a list that is filled in n steps, at the index `at n` with `f n`.
pub mod Stores
pub mod Words
pub mod Rank
pub mod Entry
pub mod Plan
