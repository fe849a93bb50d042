-- What is salvaged of a damaged recording, in reading order: which bytes are kept, and the stretches of those that are
-- dropped.
pub mod Fate
pub mod Stretch
