-- Every accepted request is one begin or waits to begin, and every begin is one end or is under way: one body,
-- an event before its dispatch, the dispatch, and lists of events.
pub mod Body
pub mod Event
pub mod Dispatch
pub mod Lists
pub mod Machine
