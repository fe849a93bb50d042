-- A stack of bytes in 64-bit words: what is on it, and what a push and a pop make of it.
--
--   bytes n w                the n lowest bytes of w, the lowest first
--   row_bytes r              all bytes of a row, the top first
--   top_row r, second_row r  the byte on top, and the one under it
--   push_row r x             x on top, and the byte at the bottom dropped
--   pop_row r                the top taken off, and 255 at the bottom
--
-- Each definition is total: a law asks for no range where a word's bytes alone decide. Main laws: `row_top`,
-- `row_pushed` and `row_popped` (proofs/Theorems.antt).
use Rattle.std.specs.Prelude.{ℕ, zero, suc, ◌+◌, ◌-◌, ◌*◌, ◌/◌, ◌%◌, List, [], ◌∷◌, ◌++◌}
use Rattle.stack.specs.declared.Row.{Row}

-- what lies past the bottom
abbrev pub no_byte : ℕ
no_byte = 255

-- what seven bytes hold: the worth of a word's highest byte
abbrev pub seven : ℕ
seven = 72057594037927936

-- how many values a word has
abbrev pub word_values : ℕ
word_values = seven * 256

-- how many bytes a row has
abbrev pub row_size : ℕ
row_size = 16

-- the n lowest bytes of w, the lowest first
unfoldable pub bytes : ℕ → ℕ → List ℕ
bytes zero w = []
bytes (suc n) w = w % 256 ∷ bytes n (w / 256)

-- the lowest byte
abbrev pub first_byte : ℕ → ℕ
first_byte w = w % 256

-- the highest byte of a word
abbrev pub last_byte : ℕ → ℕ
last_byte w = w / seven % 256

-- x below the seven lowest bytes of w
abbrev pub push_word : ℕ → ℕ → ℕ
push_word w x = w % seven * 256 + x

-- y above the seven highest bytes of w
abbrev pub pop_word : ℕ → ℕ → ℕ
pop_word w y = w / 256 % seven + y * seven

-- the only place where a row's record is written
abbrev pub row_of : ℕ → ℕ → Row
row_of near far = record { near = near; far = far }

-- every byte is `no_byte`
unfoldable pub empty_row : Row
empty_row = row_of (word_values - 1) (word_values - 1)

-- the byte on top
unfoldable pub top_row : Row → ℕ
top_row r = first_byte r.near

-- the byte under the top
unfoldable pub second_row : Row → ℕ
second_row r = first_byte (r.near / 256)

-- what drops out of the near word comes into the far one
unfoldable pub push_row : Row → ℕ → Row
push_row r x = row_of (push_word r.near x) (push_word r.far (last_byte r.near))

-- the top of the far word comes into the near one, and past the bottom lies `no_byte`
unfoldable pub pop_row : Row → Row
pop_row r = row_of (pop_word r.near (first_byte r.far)) (pop_word r.far no_byte)

-- the bytes of a row, the top first
unfoldable pub row_bytes : Row → List ℕ
row_bytes r = bytes 8 r.near ++ bytes 8 r.far
