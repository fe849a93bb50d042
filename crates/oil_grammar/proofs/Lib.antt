-- The laws of the grammar and of its reading. `Theorems` is the file to read. `Alphabet` has every byte's class and every
-- token's refusals, `Answers` texts worked by hand, `Calls` the call from C on some, `Counts` those at the limits of a
-- configuration. The checker takes the modules that export something by name: these come first, and a wrong definition is
-- refused at a table or a text. `Numbering` has which object is which body. Then the laws that the
-- proofs of `oil` cite too: spellings, runs of bytes, spaces and comments, where a token lies, lines and columns, sorts,
-- places. Last, in the order of the proof: the tokens of a text are those that it spells; the walk accepts tokens that
-- are in order; these are the tokens of objects, both ways; what the later walks come to; the whole; which
-- token decides a refusal.
pub mod Alphabet
pub mod Answers
pub mod Calls
pub mod Numbering
pub mod Theorems
pub mod Counts
mod Ascii
pub mod Spelling
pub mod Span
pub mod Blank
pub mod Bounds
pub mod Place
pub mod Sorts
pub mod Places
mod Lexing
mod Accepting
mod Objects
mod Recognition
mod Folds
mod Whole
mod FirstFault
