-- The tokens of a text: marks (OIL's tokens and signs), names and numbers.
--
--   sort_of w     the sort of a token, a number: marks 1 to 11, `name_sort`, `number_sort`
--   spelled xs    the token that letters and digits spell: one of OIL's tokens, or a name
--   sign_of b     the sign that a byte is, 0 where it is none
--   decimal n ds  the number whose digits are those of n and then ds
use Rattle.std.specs.Prelude.{ℕ, ◌+◌, ◌*◌, ◌-◌, Bool, true, false, cond, ◌&&◌, List, [], ◌∷◌, leb, eqb}

-- "none of OIL's words used here as a name"; they come first, and the tokens of objects before those of attributes
abbrev pub task_sort : ℕ
task_sort = 1

abbrev pub isr_sort : ℕ
isr_sort = 2

abbrev pub resource_sort : ℕ
resource_sort = 3

abbrev pub priority_sort : ℕ
priority_sort = 4

abbrev pub autostart_sort : ℕ
autostart_sort = 5

abbrev pub true_sort : ℕ
true_sort = 6

abbrev pub false_sort : ℕ
false_sort = 7

-- { } = ;
abbrev pub open_sort : ℕ
open_sort = 8

abbrev pub close_sort : ℕ
close_sort = 9

abbrev pub equals_sort : ℕ
equals_sort = 10

abbrev pub semicolon_sort : ℕ
semicolon_sort = 11

-- letters and digits that are none of OIL's words, and digits alone
abbrev pub name_sort : ℕ
name_sort = 12

abbrev pub number_sort : ℕ
number_sort = 13

-- no tokens of the grammar: the text's end, and a sign that is unreadable
abbrev pub end_sort : ℕ
end_sort = 14

abbrev pub unreadable_sort : ℕ
unreadable_sort = 15

-- a mark by its sort, a name by its bytes, a number by its value
pub data Token : Type 0 where
  mark : ℕ → Token
  name : List ℕ → Token
  number : ℕ → Token

unfoldable pub sort_of : Token → ℕ
sort_of (mark m) = m
sort_of (name x) = name_sort
sort_of (number n) = number_sort

-- two spellings are the same
unfoldable pub same : List ℕ → List ℕ → Bool
same [] [] = true
same [] (y ∷ ys) = false
same (x ∷ xs) [] = false
same (x ∷ xs) (y ∷ ys) = eqb x y && same xs ys

-- the seven words, byte by byte: TASK, ISR, RESOURCE, PRIORITY, AUTOSTART, TRUE, FALSE
abbrev pub task_token : List ℕ
task_token = 84 ∷ 65 ∷ 83 ∷ 75 ∷ []

abbrev pub isr_token : List ℕ
isr_token = 73 ∷ 83 ∷ 82 ∷ []

abbrev pub resource_token : List ℕ
resource_token = 82 ∷ 69 ∷ 83 ∷ 79 ∷ 85 ∷ 82 ∷ 67 ∷ 69 ∷ []

abbrev pub priority_token : List ℕ
priority_token = 80 ∷ 82 ∷ 73 ∷ 79 ∷ 82 ∷ 73 ∷ 84 ∷ 89 ∷ []

abbrev pub autostart_token : List ℕ
autostart_token = 65 ∷ 85 ∷ 84 ∷ 79 ∷ 83 ∷ 84 ∷ 65 ∷ 82 ∷ 84 ∷ []

abbrev pub true_token : List ℕ
true_token = 84 ∷ 82 ∷ 85 ∷ 69 ∷ []

abbrev pub false_token : List ℕ
false_token = 70 ∷ 65 ∷ 76 ∷ 83 ∷ 69 ∷ []

-- the sort of what letters and digits spell
unfoldable pub spelled_sort : List ℕ → ℕ
spelled_sort x =
    cond (same x task_token) task_sort
    (cond (same x isr_token) isr_sort
    (cond (same x resource_token) resource_sort
    (cond (same x priority_token) priority_sort
    (cond (same x autostart_token) autostart_sort
    (cond (same x true_token) true_sort (cond (same x false_token) false_sort name_sort))))))

-- the token of a sort that x spells
unfoldable pub token_of_sort : ℕ → List ℕ → Token
token_of_sort s x = cond (leb s semicolon_sort) (mark s) (name x)

abbrev pub spelled : List ℕ → Token
spelled x = token_of_sort (spelled_sort x) x

unfoldable pub sign_of : ℕ → ℕ
sign_of b =
    cond (eqb b 123) open_sort
    (cond (eqb b 125) close_sort (cond (eqb b 61) equals_sort (cond (eqb b 59) semicolon_sort 0)))

-- "numbers of decimal digits alone (any length, leading zeros too)"
unfoldable pub decimal : ℕ → List ℕ → ℕ
decimal n [] = n
decimal n (d ∷ ds) = decimal (10 * n + (d - 48)) ds
