-- The configuration, as the contracts of `config_codec` cite it, in reading order: the refusals, the value, what the
-- rules ask of it, a number in a list, the numbers one by one, the reader, the writer, what an accepted one satisfies,
-- the bytes that decide a refusal.
--
-- Letters: c a configuration; d a draft, or a writer's output; f a field; v a number; bs bytes; at, p places; b a body,
-- r a resource or a refusal, t a table, e an entry, each by its number; k how many numbers are looked at at most.
pub mod Refusal
pub mod Value
pub mod Meaning
pub mod Among
pub mod Draft
pub mod Reader
pub mod Writer
pub mod Accepted
pub mod Decisive
