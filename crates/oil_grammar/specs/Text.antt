-- What a text spells: the tokens that stand in it, spaces and comments left out.
-- A relation between bytes and tokens: it has no state, position or fuel.
use Rattle.std.specs.Prelude.{ℕ, ◌≡◌, true, List, [], ◌∷◌}
use Rattle.oil_grammar.specs.Byte.{slash, star, is_space, is_letter, is_digit, is_name_byte, is_line_byte, Longest}
use Rattle.oil_grammar.specs.Token.{Token, mark, number, spelled, sign_of, decimal}

-- the first */ of the bytes ends a comment, and r follows it: comments do not nest
pub data Closes : List ℕ → List ℕ → Type 0 where
  here : {b c : ℕ} {bs : List ℕ} → b ≡ star → c ≡ slash → Closes (b ∷ c ∷ bs) bs
  later : {b c : ℕ} {bs r : List ℕ} → (b ≡ star → c ≡ slash → ⊥) → Closes (c ∷ bs) r → Closes (b ∷ c ∷ bs) r

-- the bytes are these tokens, with spaces and comments between them
pub data Spells : List ℕ → List Token → Type 0 where
  nothing : Spells [] []
  space : {b : ℕ} {bs : List ℕ} {ws : List Token} → is_space b ≡ true → Spells bs ws → Spells (b ∷ bs) ws
  line_comment : {b c : ℕ} {bs xs r : List ℕ} {ws : List Token} → b ≡ slash → c ≡ slash → Longest is_line_byte bs xs r
      → Spells r ws → Spells (b ∷ c ∷ bs) ws
  block_comment : {b c : ℕ} {bs r : List ℕ} {ws : List Token} → b ≡ slash → c ≡ star → Closes bs r → Spells r ws
      → Spells (b ∷ c ∷ bs) ws
  sign : {b : ℕ} {bs : List ℕ} {ws : List Token} → (sign_of b ≡ 0 → ⊥) → Spells bs ws
      → Spells (b ∷ bs) (mark (sign_of b) ∷ ws)
  letters : {b : ℕ} {bs xs r : List ℕ} {ws : List Token} → is_letter b ≡ true → Longest is_name_byte bs xs r → Spells r ws
      → Spells (b ∷ bs) (spelled (b ∷ xs) ∷ ws)
  digits : {b : ℕ} {bs xs r : List ℕ} {ws : List Token} → is_digit b ≡ true → Longest is_digit bs xs r → Spells r ws
      → Spells (b ∷ bs) (number (decimal 0 (b ∷ xs)) ∷ ws)
