-- Isolation of the machine's models: which ranks are low, two words that are the same above L and who wins in
-- them, the dispatch, each event, and lists of events.
pub mod Rank
pub mod Winner
pub mod Dispatch
pub mod Match
pub mod Event
pub mod Lists
