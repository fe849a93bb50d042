-- The numbers of the format, which the contracts of `number_codec` cite, in reading order: the refusals, what a writer
-- does to its output, the numbers.
--
-- Letters: bs, cs bytes; v a value; at, p places (byte offsets); k how many groups may stand before the last; r a
-- reading or a refusal; d an output.
pub mod Refusal
pub mod Output
pub mod Number
pub mod Answer
