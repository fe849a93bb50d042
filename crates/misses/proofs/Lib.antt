-- What the proofs of the functions cite, in reading order: what a code says of its event; an array that a closure made;
-- the rows of cells; the bytes of the misses noted one by one; those of the code, and the list; the loop over the events;
-- the input.
pub mod Codes
pub mod Made
pub mod Rows
pub mod Laid
pub mod Noted
pub mod Watching
pub mod Input
