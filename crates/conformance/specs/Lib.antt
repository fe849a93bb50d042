-- Whether a unit answers as the plain scheduler does.
--
-- Letters: cs and ts the bytes of a configuration and of a trace, rs those that the unit recorded; c a configuration,
-- es events, xs what is seen of them.
pub mod Verdict
pub mod Record
