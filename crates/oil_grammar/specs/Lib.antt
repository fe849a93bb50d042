-- What OIL texts are and how they are read. The grammar, in reading order: bytes, tokens, what a text spells, objects,
-- what they mean and how they are numbered, what a text is OIL of. Then the reading, token by token: the next token, what it
-- may be, the walks over the text, the whole.
pub mod Refusal
pub mod Records
pub mod Byte
pub mod Token
pub mod Text
pub mod Object
pub mod Meaning
pub mod Numbering
pub mod Grammar
pub mod Next
pub mod Automaton
pub mod Walk
pub mod Reader
