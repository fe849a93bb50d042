-- What the proof of the step cites: for each code, the event that it stands for.
pub mod Codes
