-- Who runs: the choice, the dispatch, and that no two candidates tie.
pub mod Runner
pub mod Dispatch
pub mod Separation
pub mod Ties
