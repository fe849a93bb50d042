-- What the proof of `osek_wait` cites: a run's result and its last model, and the answer.
pub mod LastModel
