-- What the kernel's contracts cite beside the definitions of the crates below: how a run ends; `Passes` serves the two
-- passes over a trace.
pub mod Ends
pub mod Passes
