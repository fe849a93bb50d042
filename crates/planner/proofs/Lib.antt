-- Laws of its own: what `listed` gives, the ranks that it fills, the loop over a mask's set bits; those of the plan serve the
-- other functions.
mod Filled
mod Ranks
mod Usage
