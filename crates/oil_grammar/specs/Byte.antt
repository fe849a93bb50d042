-- The bytes of a text by class, and runs of a class: "names, spaces and comments as in C, numbers of decimal digits
-- alone".
--
--   span p bs          how many bytes at the head of bs have the class p
--   Longest p bs xs r  xs is the longest run of the class p at the head of bs, and r is what follows it
use Rattle.std.specs.Prelude.{ℕ, zero, suc, ◌≡◌, Bool, true, false, cond, not, ◌&&◌, ◌||◌, List, [], ◌∷◌, leb, eqb}

-- b is from lo to hi
abbrev pub within : ℕ → ℕ → ℕ → Bool
within lo hi b = leb lo b && leb b hi

-- LF, with which a line ends
abbrev pub line_feed : ℕ
line_feed = 10

-- with // and /* a comment begins
abbrev pub slash : ℕ
slash = 47

-- with */ one of these ends
abbrev pub star : ℕ
star = 42

-- space, and from HT to CR: HT, LF, VT, FF, CR
unfoldable pub is_space : ℕ → Bool
is_space b = eqb b 32 || within 9 13 b

-- 0 to 9
unfoldable pub is_digit : ℕ → Bool
is_digit b = within 48 57 b

-- a letter or _, with which a name begins
unfoldable pub is_letter : ℕ → Bool
is_letter b = eqb b 95 || (within 65 90 b || within 97 122 b)

-- a byte with which a name goes on
unfoldable pub is_name_byte : ℕ → Bool
is_name_byte b = is_letter b || is_digit b

-- a byte of a comment that ends with its line
unfoldable pub is_line_byte : ℕ → Bool
is_line_byte b = not (eqb b line_feed)

-- "each word as long as it goes"
pub data Longest (p : ℕ → Bool) : List ℕ → List ℕ → List ℕ → Type 0 where
  end : Longest p [] [] []
  stop : {b : ℕ} {bs : List ℕ} → p b ≡ false → Longest p (b ∷ bs) [] (b ∷ bs)
  more : {b : ℕ} {bs xs r : List ℕ} → p b ≡ true → Longest p bs xs r → Longest p (b ∷ bs) (b ∷ xs) r

unfoldable pub span : (ℕ → Bool) → List ℕ → ℕ
span p [] = zero
span p (b ∷ bs) = cond (p b) (suc (span p bs)) zero
