-- The bytes of one word: what a push and a pop make of them.
--
-- In order: n bytes of any number, where each law goes by the lowest byte and the rest; the eight bytes of a word.
use Prim.Native.Nat.{ℕ, zero, suc, ◌+◌, ◌*◌, ◌/◌, ◌%◌, ◌^◌, ◌<◌}
use mathlib.Core.Path.{◌≡◌, refl, sym, ap, ◌∙◌}
use mathlib.Core.List.{List, [], ◌∷◌, ◌++◌}
use native.Mathlib.Nat.{pow-suc, pow-succ', div-one, div-div-eq-div-mul, mul_assoc, mod-lt, add-mul-div_right, div-eq_of_lt, one-le-pow}
use native.Mathlib.Omega.{arith}
use lib.Arith.{mod-mul, digits_div, digits_mod}
use lib.ListN.{length, take, drop, get_or}
use lib.Seq.{take_at, get_or_at}
use Rattle.stack.specs.Stack.{no_byte, bytes, first_byte, last_byte, push_word, pop_word}

pub length_bytes : (n w : ℕ) → length (bytes n w) ≡ n
unfolding bytes
length_bytes zero w = refl
length_bytes (suc n) w = ap suc (length_bytes n (w / 256))

pos : (n : ℕ) → 0 < 256 ^ n
pos n = one-le-pow n 256 (omega arith)

-- the byte above the n lowest
bytes_suc : (n w : ℕ) → bytes (suc n) w ≡ bytes n w ++ (w / 256 ^ n % 256 ∷ [])
unfolding bytes
bytes_suc zero w = ap (λ (v : ℕ). v % 256 ∷ []) (sym (div-one w))
bytes_suc (suc n) w =
    ap (λ (l : List ℕ). w % 256 ∷ l)
    (bytes_suc n (w / 256)
    ∙ ap (λ (v : ℕ). bytes n (w / 256) ++ (v % 256 ∷ []))
    (div-div-eq-div-mul w 256 (256 ^ n) ∙ ap (λ (p : ℕ). w / p) (sym (pow-succ' 256 n))))

-- what stands above the n lowest bytes does not change them
bytes_low : (n w y : ℕ) → bytes n (w % 256 ^ n + y * 256 ^ n) ≡ bytes n w
unfolding bytes
bytes_low zero w y = refl
bytes_low (suc n) w y = cc (lowest, ap (bytes n) rest ∙ bytes_low n (w / 256) y)
  where
    apart : w % 256 ^ suc n + y * 256 ^ suc n ≡ (w / 256 % 256 ^ n + y * 256 ^ n) * 256 + w % 256
    apart =
        omega (
          arith,
          ap (λ (p : ℕ). w % p) (pow-suc 256 n) ∙ mod-mul w (pos n) (omega arith),
          ap (λ (p : ℕ). y * p) (pow-suc 256 n) ∙ sym (mul_assoc y (256 ^ n) 256),
        )

    lowest : (w % 256 ^ suc n + y * 256 ^ suc n) % 256 ≡ w % 256
    lowest = omega (arith, apart)

    rest : (w % 256 ^ suc n + y * 256 ^ suc n) / 256 ≡ w / 256 % 256 ^ n + y * 256 ^ n
    rest = omega (arith, apart)

-- a byte below the n lowest
bytes_below : (n w x : ℕ) → x < 256 → bytes (suc n) (w % 256 ^ n * 256 + x) ≡ x ∷ bytes n w
unfolding bytes
bytes_below n w x byte = cc (digits_mod (w % 256 ^ n) byte, ap (bytes n) (rest ∙ none_above) ∙ bytes_low n w 0)
  where
    rest : (w % 256 ^ n * 256 + x) / 256 ≡ w % 256 ^ n
    rest = digits_div (w % 256 ^ n) byte

    none_above : w % 256 ^ n ≡ w % 256 ^ n + 0 * 256 ^ n
    none_above = omega arith

-- a byte above the n lowest
bytes_above : (n w y : ℕ) → y < 256 → bytes (suc n) (w % 256 ^ n + y * 256 ^ n) ≡ bytes n w ++ (y ∷ [])
bytes_above n w y byte = bytes_suc n (w % 256 ^ n + y * 256 ^ n) ∙ cc (bytes_low n w y, highest)
  where
    highest : (w % 256 ^ n + y * 256 ^ n) / 256 ^ n % 256 ≡ y
    highest = omega (arith, add-mul-div_right (w % 256 ^ n) y (pos n), div-eq_of_lt (mod-lt w (pos n)))

-- the eight bytes of a word
pub word_first : (w : ℕ) → first_byte w ≡ get_or (bytes 8 w) 0 no_byte
unfolding bytes
word_first w = refl

pub word_last : (w : ℕ) → last_byte w ≡ get_or (bytes 8 w) 7 no_byte
word_last w =
    sym (get_or_at (bytes 7 w) (last_byte w) [] no_byte 7 (length_bytes 7 w))
    ∙ ap (λ (l : List ℕ). get_or l 7 no_byte) (sym (bytes_suc 7 w))

pub word_pushed : (w x : ℕ) → x < 256 → bytes 8 (push_word w x) ≡ x ∷ take 7 (bytes 8 w)
word_pushed w x byte =
    bytes_below 7 w x byte
    ∙ ap (λ (l : List ℕ). x ∷ l)
    (sym (take_at (bytes 7 w) (last_byte w ∷ []) 7 (length_bytes 7 w)) ∙ ap (take 7) (sym (bytes_suc 7 w)))

pub word_popped : (w y : ℕ) → y < 256 → bytes 8 (pop_word w y) ≡ drop 1 (bytes 8 w) ++ (y ∷ [])
unfolding bytes
word_popped w y byte = bytes_above 7 (w / 256) y byte
