-- The editions of the procedure: they are seen to do the same, but for the losses of lost lines.
pub mod Agreement
pub mod Losses
