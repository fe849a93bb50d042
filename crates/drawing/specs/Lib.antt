-- Drawn traces (document 02, A1), which the contracts of `draw` cite, in reading order: the generator of 32-bit values,
-- which code a value picks, the events, the call.
--
-- Letters: x a value of the generator, before a draw; v a value that picks; ws the weights, a list of twelve; ls the
-- limits, a list of four; c a code; n a count.
pub mod Xorshift
pub mod Weights
pub mod Drawing
pub mod Answer
