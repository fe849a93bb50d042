-- The misses noted so far: how many they are, and the bytes of the first 64 of them.
--
--   miss_of m         a miss of the code as one of the definitions
--   noted n ms d      the bytes d after the misses ms, noted one by one after n others; list_room: how many bytes
--   bytes_in x        the bytes of x, row by row; bytes_of rs: those of the rows rs
--   Noted x ms        x counts the misses ms, and its bytes are those of the first of them
--   NotesMore x y ms  y has the misses ms noted behind those of x
--   ForNoted x P      P holds of the misses that were noted
--
-- Main laws: `noted_first` (proofs/Laid.antt); `noted_listed`, `noted_counted` (proofs/Noted.antt).
use Rattle.std.specs.Prelude.{ℕ, suc, ◌*◌, cond, ltb, ◌≡◌, List, [], ◌∷◌, ◌++◌, length}
use Rattle.std.specs.List.{All, flat_map}
use Rattle.number.specs.Output.{laid}
use Rattle.deadlines.specs.Miss.{Miss}
use Rattle.deadlines.specs.Report.{most_listed, miss_bytes}
use Rattle.misses.specs.declared.list.Miss as Code
use Rattle.misses.specs.declared.list.Misses.{Misses}

abbrev pub miss_of : Code.Miss → Miss
miss_of m = record { tick = m.tick; body = m.body }

-- the bytes of 64 misses
abbrev pub list_room : ℕ
list_room = 192

-- "the first 64 misses": any other is only counted
unfoldable pub noted_one : ℕ → Miss → List ℕ → List ℕ
noted_one n m d = cond (ltb n most_listed) (laid (3 * n) (miss_bytes (m ∷ [])) d) d

unfoldable pub noted : ℕ → List Miss → List ℕ → List ℕ
noted n [] d = d
noted n (m ∷ ms) d = noted (suc n) ms (noted_one n m d)

-- a row holds the bytes of one miss
abbrev pub IsRow : List ℕ → Type 0
IsRow row = length row ≡ 3

abbrev pub bytes_of : List (List ℕ) → List ℕ
bytes_of rows = flat_map (λ (row : List ℕ). row) rows

abbrev pub bytes_in : Misses → List ℕ
bytes_in x = bytes_of x.listed

-- the misses ms were noted one by one, over the blank bytes
pub record Noted (x : Misses) (ms : List Miss) : Type 0 where
  pub room : length x.listed ≡ most_listed
  pub rows : All IsRow x.listed
  pub counted : x.count ≡ length ms
  pub blank : List ℕ
  pub size : length blank ≡ list_room
  pub bytes : bytes_in x ≡ noted 0 ms blank

abbrev pub NotesMore : Misses → Misses → List Miss → Type 0
NotesMore x y ms = (before : List Miss) → Noted x before → Noted y (before ++ ms)

-- of the misses that were noted
abbrev pub ForNoted : Misses → (List Miss → Type 0) → Type 0
ForNoted x P = (ms : List Miss) → Noted x ms → P ms
