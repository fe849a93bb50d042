-- The tokens that are read of a text are those that it spells.
--
--   Reads t at ws  from the place on the next tokens of t are ws, and then its end comes
--
-- In order: the classes of a byte shut each other out; spaces and comments; one token; a whole text, both ways.
use Prim.Native.Nat.{ℕ, zero, suc, ◌+◌, ◌-◌, ◌≤◌}
use mathlib.Core.Path.{◌≡◌, refl, sym, ap, ◌∙◌}
use mathlib.Core.Bool.{Bool, true, false, ◌&&◌, ◌||◌}
use mathlib.Core.List.{List, [], ◌∷◌}
use native.Mathlib.Omega.{arith}
use lib.Dec.{leb, eqb}
use lib.ListN.{length, take, drop, length-drop}
use lib.Seq.{drop-drop}
use borrow.Author.Tests.{eq-eqb, ne_eqb, le-leb, lt-leb, leb-true, eqb-true}
use Rattle.number.proofs.Cases.{by_test, by_eq, by_lt}
use Rattle.oil_grammar.specs.Byte.{slash, star, is_space, is_letter, is_digit, is_name_byte, is_line_byte, span}
use Rattle.oil_grammar.specs.Token as W
use Rattle.oil_grammar.specs.Token.{mark, number, spelled_sort, token_of_sort, spelled, sign_of, decimal, number_sort, end_sort}
use Rattle.oil_grammar.specs.Text.{Closes, here, later, Spells, nothing, space, line_comment, block_comment, sign, letters, digits}
use Rattle.oil_grammar.specs.Next.{closing, comment, blank, blanks, token_at, skipped, next_token, spelling, token_of_bytes, token_in}
use Rattle.oil_grammar.proofs.Spelling.{false_true}
use Rattle.oil_grammar.proofs.Span.{span_le, longest, longest_span}
use Rattle.oil_grammar.proofs.Blank.{blank_le, blanks_none, blanks_some, skip_more, skip_stopped}
use Rattle.oil_grammar.proofs.Bounds.{next_inside, token_lies}
use Rattle.oil_grammar.proofs.Sorts.{spelled_sort_le, sign_of_le}

-- a test that is not true is false
not_so : (b : Bool) → (b ≡ true → ⊥) → b ≡ false
not_so true f = absurd (f refl)
not_so false f = refl

-- a byte from lo to hi
in_range : (lo hi b : ℕ) → (leb lo b && leb b hi) ≡ true → (lo ≤ b) × (b ≤ hi)
in_range lo hi b e =
    by_test (leb lo b)
    (λ f. let g : leb b hi ≡ true = rw f at e in (leb-true lo b f, leb-true b hi g))
    (λ f. absurd (false_true (rw f at e)))

either : (a b : Bool) → (a || b) ≡ true → (C : Type 0) → (a ≡ true → C) → (b ≡ true → C) → C
either true b e C f g = f refl
either false b e C f g = g e

-- what a letter, a digit, a space or a sign is, in numbers
letter_range : (b : ℕ) → is_letter b ≡ true → (65 ≤ b) × (b ≤ 122)
unfolding is_letter
letter_range b e =
    either (eqb b 95) _ e _
    (λ f. let g = eqb-true b 95 f in (omega arith, omega arith))
    (λ f. either (leb 65 b && leb b 90) _ f _
    (λ g. let h = in_range 65 90 b g in (omega arith, omega arith))
    (λ g. let h = in_range 97 122 b g in (omega arith, omega arith)))

digit_range : (b : ℕ) → is_digit b ≡ true → (48 ≤ b) × (b ≤ 57)
unfolding is_digit
digit_range b e = in_range 48 57 b e

space_le : (b : ℕ) → is_space b ≡ true → b ≤ 32
unfolding is_space
space_le b e =
    either (eqb b 32) _ e _
    (λ f. let g = eqb-true b 32 f in omega arith)
    (λ f. let h = in_range 9 13 b f in omega arith)

-- a sign is one of four bytes
sign_byte : (b : ℕ) → (sign_of b ≡ 0 → ⊥) → (C : Type 0) → (b ≡ 123 → C) → (b ≡ 125 → C) → (b ≡ 61 → C) → (b ≡ 59 → C)
    → C
unfolding sign_of
sign_byte b d C f g h k =
    by_eq b 123 f
    (λ n. by_eq b 125 g
    (λ m. by_eq b 61 h
    (λ l. by_eq b 59 k (λ o. absurd (d (rw (ne_eqb b 123 n, ne_eqb b 125 m, ne_eqb b 61 l, ne_eqb b 59 o)))))))

-- a byte that begins a token is neither space nor slash
begins_token : (b : ℕ) (bs : List ℕ) → 33 ≤ b → (b ≡ slash → ⊥) → blank (b ∷ bs) ≡ 0
unfolding blank
begins_token b bs h d =
    rw (not_so (is_space b) (λ e. let l = space_le b e in absurd (omega arith)), ne_eqb b slash d)

slash_no_space : (b : ℕ) → b ≡ slash → is_space b ≡ false
slash_no_space b e = not_so (is_space b) (λ f. let l = space_le b f in absurd (omega arith))

-- a sign is no space, slash, letter or digit
sign_range : (b : ℕ) → (sign_of b ≡ 0 → ⊥) → (33 ≤ b) × (b ≡ slash → ⊥) × (is_letter b ≡ false) × (is_digit b ≡ false)
sign_range b d =
    sign_byte b d _ (λ e. facts (λ h. omega arith) (omega arith) (omega arith))
    (λ e. facts (λ h. omega arith) (omega arith)
    (omega arith)) (λ e. facts (λ h. omega arith) (omega arith) (omega arith))
    (λ e. facts (λ h. omega arith) (omega arith) (omega arith))
  where
    facts : ((65 ≤ b) × (b ≤ 122) → ⊥) → 58 ≤ b → 58 ≤ b → (33 ≤ b) × (b ≡ slash → ⊥) × (is_letter b ≡ false)
        × (is_digit b ≡ false)
    facts n h k = (
      omega arith,
      (λ f. omega arith),
      not_so (is_letter b) (λ f. n (letter_range b f)),
      not_so (is_digit b) (λ f. let r = digit_range b f in absurd (omega arith)),
    )

-- the end of a comment, both ways
pub closes : (bs : List ℕ) → (closing bs ≡ 0 → ⊥) → Closes bs (drop (closing bs) bs)
unfolding closing
closes [] d = absurd (d refl)
closes (b ∷ []) d = absurd (d refl)
closes (b ∷ c ∷ bs) d =
    by_test (eqb b star && eqb c slash)
    (λ e. rw e (both e))
    (λ e. by_eq (closing (c ∷ bs)) 0
    (λ z. absurd (d (rw (e, eq-eqb (closing (c ∷ bs)) 0 z))))
    (λ n. rw (e, ne_eqb (closing (c ∷ bs)) 0 n) (later (neither e) (closes (c ∷ bs) n))))
  where
    both : (eqb b star && eqb c slash) ≡ true → Closes (b ∷ c ∷ bs) bs
    both e =
        by_test (eqb b star) (λ f. here (eqb-true b star f) (eqb-true c slash (rw f at e)))
        (λ f. absurd (false_true (rw f at e)))

    neither : (eqb b star && eqb c slash) ≡ false → b ≡ star → c ≡ slash → ⊥
    neither e f g = false_true (sym e ∙ rw (eq-eqb b star f, eq-eqb c slash g))

closes_end : {bs r : List ℕ} → Closes bs r → (closing bs ≡ 0 → ⊥) × (r ≡ drop (closing bs) bs)
unfolding closing
closes_end (here {b = b} {c = c} e f) = rw (eq-eqb b star e, eq-eqb c slash f) ((λ z. omega arith), refl)
closes_end (later {b = b} {c = c} {bs = bs} d l) =
    let n = closes_end l in
    rw (not_so (eqb b star && eqb c slash) (λ e. both e), ne_eqb (closing (c ∷ bs)) 0 n.0) ((λ z. omega arith), n.1)
  where
    both : (eqb b star && eqb c slash) ≡ true → ⊥
    both e =
        by_test (eqb b star) (λ f. d (eqb-true b star f) (eqb-true c slash (rw f at e))) (λ f. false_true (rw f at e))

-- n + 2 bytes of a list that has two
drop_two : (n : ℕ) (b c : ℕ) (bs : List ℕ) → drop (n + 2) (b ∷ c ∷ bs) ≡ drop n bs
drop_two n b c bs = let e : n + 2 ≡ suc (suc n) = omega arith in rw e

-- a space or comment before a text that spells tokens
blank_spells : (bs : List ℕ) (ws : List W.Token) → (blank bs ≡ 0 → ⊥) → Spells (drop (blank bs) bs) ws → Spells bs ws
unfolding blank comment
blank_spells [] ws d s = absurd (d refl)
blank_spells (b ∷ []) ws d s =
    by_test (is_space b)
    (λ e. space e (rw e at s))
    (λ e. by_test (eqb b slash) (λ f. absurd (d (rw (e, f)))) (λ f. absurd (d (rw (e, f)))))
blank_spells (b ∷ c ∷ bs) ws d s =
    by_test (is_space b)
    (λ e. space e (rw e at s))
    (λ e. by_test (eqb b slash)
    (λ f. by_test (eqb c slash)
    (λ g. line_comment (eqb-true b slash f) (eqb-true c slash g) (longest is_line_byte bs)
    (rw (e, f, g, drop_two (span is_line_byte bs) b c bs) at s))
    (λ g. by_test (eqb c star)
    (λ h. by_eq (closing bs) 0
    (λ z. absurd (d (rw (e, f, g, h, eq-eqb (closing bs) 0 z))))
    (λ n. block_comment (eqb-true b slash f) (eqb-true c star h) (closes bs n) (rw (
      e,
      f,
      g,
      h,
      ne_eqb (closing bs) 0 n,
      drop_two
          (closing bs) b c bs,
    ) at s)))
    (λ h. absurd (d (rw (e, f, g, h))))))
    (λ f. absurd (d (rw (e, f)))))

blanks_spell : (k : ℕ) (bs : List ℕ) (ws : List W.Token) → Spells (drop (blanks k bs) bs) ws → Spells bs ws
unfolding blanks
blanks_spell zero bs ws s = s
blanks_spell (suc k) bs ws s =
    by_eq (blank bs) 0
    (λ z. rw (blanks_none (suc k) bs z) at s)
    (λ d. blank_spells bs ws d
    (blanks_spell k (drop (blank bs) bs) ws
    (rw (drop-drop (blanks k (drop (blank bs) bs)) (blank bs) bs) (rw (blanks_some k bs d) at s))))

-- the token of the grammar that letters and digits are
spelled_token : (x : List ℕ) → token_of_bytes (spelled_sort x) x ≡ spelled x
unfolding token_of_bytes token_of_sort
spelled_token x =
    by_lt (spelled_sort x) 12
    (λ l. rw (le-leb (spelled_sort x) 11 (omega arith)))
    (λ l. rw (lt-leb (spelled_sort x) 11 l, eq-eqb (spelled_sort x) 12 (let h = spelled_sort_le x in omega arith)))

number_token : (x : List ℕ) → token_of_bytes number_sort x ≡ number (decimal 0 x)
unfolding token_of_bytes
number_token x = refl

sign_token : (b : ℕ) (x : List ℕ) → token_of_bytes (sign_of b) x ≡ mark (sign_of b)
unfolding token_of_bytes
sign_token b x = rw (le-leb (sign_of b) 11 (sign_of_le b))

-- a token at the head of a list, and what follows it
token_spells : (p : ℕ) (bs : List ℕ) (ws : List W.Token) → leb end_sort (token_at p bs).sort ≡ false
    → Spells (drop ((token_at p bs).end - p) bs) ws
    → Spells bs (token_of_bytes (token_at p bs).sort (take ((token_at p bs).end - p) bs) ∷ ws)
unfolding token_at
token_spells p [] ws d s = absurd (false_true (sym d))
token_spells p (b ∷ bs) ws d s =
    by_test (is_letter b)
    (λ e.
    let n = long (span is_name_byte bs) in
    rw (e, n, spelled_token (b ∷ take (span is_name_byte bs) bs)) (letters e (longest is_name_byte bs) (rw (e, n) at s)))
    (λ e. by_test (is_digit b)
    (λ f.
    let n = long (span is_digit bs) in
    rw (e, f, n, number_token (b ∷ take (span is_digit bs) bs)) (digits f (longest is_digit bs) (rw (e, f, n) at s)))
    (λ f. by_eq (sign_of b) 0
    (λ z. absurd (false_true (sym (rw (e, f, eq-eqb (sign_of b) 0 z) at d))))
    (λ o.
    let q = ne_eqb (sign_of b) 0 o in
    let n = long 0 in
    rw (e, f, q, n, sign_token b (b ∷ [])) (sign o (rw (e, f, q, n) at s)))))
  where
    long : (n : ℕ) → p + suc n - p ≡ suc n
    long n = omega arith

-- only the text's end has the sort of the end
end_empty : (p : ℕ) (bs : List ℕ) → (token_at p bs).sort ≡ end_sort → bs ≡ []
unfolding token_at
end_empty p [] e = refl
end_empty p (b ∷ bs) e =
    by_test (is_letter b)
    (λ f. let g = rw f at e in let h = spelled_sort_le (b ∷ take (span is_name_byte bs) bs) in absurd (omega arith))
    (λ f. by_test (is_digit b)
    (λ g. let h : ◌≡◌ {A = ℕ} 13 14 = rw (f, g) at e in absurd (omega arith))
    (λ g. by_eq (sign_of b) 0
    (λ z. let h : ◌≡◌ {A = ℕ} 15 14 = rw (f, g, eq-eqb (sign_of b) 0 z) at e in absurd (omega arith))
    (λ n. let h : sign_of b ≡ 14 = rw (f, g, ne_eqb (sign_of b) 0 n) at e in let l = sign_of_le b in
    absurd (omega arith))))

-- of the next token from a place on: its sort, what it spells, the token of the grammar that it is
abbrev pub sort_from : List ℕ → ℕ → ℕ
sort_from t at = (next_token t at).sort

abbrev pub spelled_from : List ℕ → ℕ → List ℕ
spelled_from t at = spelling t (next_token t at)

abbrev pub token_from : List ℕ → ℕ → W.Token
token_from t at = token_in t (next_token t at)

pub data Reads (t : List ℕ) : ℕ → List W.Token → Type 0 where
  ended : {at : ℕ} → (next_token t at).sort ≡ end_sort → Reads t at []
  reads : {at : ℕ} {ws : List W.Token} → leb end_sort (next_token t at).sort ≡ false → Reads t (next_token t at).end ws
      → Reads t at (token_in t (next_token t at) ∷ ws)

module _ (t : List ℕ) where
  -- what is spelled after the spaces and comments
  skip_spells : (at : ℕ) (ws : List W.Token) → Spells (drop (skipped t at) t) ws → Spells (drop at t) ws
  skip_spells at ws s = blanks_spell (length t) (drop at t) ws (rw (drop-drop (blanks (length t) (drop at t)) at t) s)

  pub reads_spells : {at : ℕ} {ws : List W.Token} → Reads t at ws → at ≤ length t → Spells (drop at t) ws
  unfolding next_token
  reads_spells (ended {at = at} e) h =
      skip_spells at [] (rw (end_empty (skipped t at) (drop (skipped t at) t) e) nothing)
  reads_spells (reads {at = at} {ws = ws} d r) h =
      let n = next_inside t at h in
      let l = token_lies (skipped t at) (drop (skipped t at) t) in
      let rest = reads_spells r n.inside in
      let q : skipped t at + ((next_token t at).end - skipped t at) ≡ (next_token t at).end =
      omega (arith, l.forward, l.at_start) in
      let s = token_spells (skipped t at) (drop (skipped t at) t) ws d
      (rw (drop-drop ((next_token t at).end - skipped t at) (skipped t at) t, q) rest) in
      skip_spells at (token_in t (next_token t at) ∷ ws) (rw l.at_start s)

  -- the same token is next from two places with the same spaces and comments before it
  reads_from : (a b : ℕ) (ws : List W.Token) → skipped t a ≡ skipped t b → Reads t b ws → Reads t a ws
  unfolding next_token
  reads_from a b ws e (ended f) = ended {at = a} (rw e f)
  reads_from a b ws e (reads {ws = ws'} d r) =
      let n : next_token t a ≡ next_token t b = rw e in
      let k : Reads t a (token_in t (next_token t a) ∷ ws') = reads {at = a} {ws = ws'} (rw e d) (rw e r) in
      rw n at k

  -- a space or comment is passed
  passed : (at : ℕ) (ws : List W.Token) → at ≤ length t → (blank (drop at t) ≡ 0 → ⊥)
      → Reads t (at + blank (drop at t)) ws → Reads t at ws
  passed at ws h d r = reads_from at (at + blank (drop at t)) ws (skip_more t at h d) r

  blank_inside : (at : ℕ) → at ≤ length t → at + blank (drop at t) ≤ length t
  blank_inside at h = let l = rw length-drop at (blank_le (drop at t)) in omega arith

  -- the bytes after the first of a place
  after_byte : (at n b : ℕ) (bs : List ℕ) → drop at t ≡ b ∷ bs → drop (at + suc n) t ≡ drop n bs
  after_byte at n b bs e = sym (drop-drop (suc n) at t) ∙ rw e

  has_byte : (at b : ℕ) (bs : List ℕ) → drop at t ≡ b ∷ bs → suc (length bs) ≡ length t - at
  has_byte at b bs e = rw e at (length-drop at t)

  -- the bytes after a comment's two and n more
  rest : (at b c : ℕ) (bs : List ℕ) (n : ℕ) → drop at t ≡ b ∷ c ∷ bs → blank (drop at t) ≡ n + 2
      → drop (at + blank (drop at t)) t ≡ drop n bs
  rest at b c bs n e q =
      let k : at + (n + 2) ≡ at + suc (suc n) = omega arith in
      ap (λ (m : ℕ). drop (at + m) t) q ∙ ap (λ (m : ℕ). drop m t) k ∙ after_byte at (suc n) b (c ∷ bs) e

  -- a token that stands at a place
  token_read : (at b n : ℕ) (bs : List ℕ) (ws : List W.Token) (v : W.Token) (s : ℕ) → drop at t ≡ b ∷ bs
      → blank (b ∷ bs) ≡ 0 → token_at at (b ∷ bs) ≡ record { sort = s; start = at; end = at + suc n }
      → leb end_sort s ≡ false → token_of_bytes s (b ∷ take n bs) ≡ v
      → Reads t (at + suc n) ws → Reads t at (v ∷ ws)
  unfolding next_token
  token_read at b n bs ws v s e z w d q r =
      let p : skipped t at ≡ at = skip_stopped t at (rw e z) in
      let x : next_token t at ≡ record { sort = s; start = at; end = at + suc n } = rw (p, e) w in
      let l : at + suc n - at ≡ suc n = omega arith in
      let k : Reads t at (token_in t (next_token t at) ∷ ws) = reads {at = at} {ws = ws} (rw x d) (rw x r) in
      let i : token_in t (next_token t at) ≡ v = rw (x, l, e) q in
      rw i at k

  pub spells_reads : {bs : List ℕ} {ws : List W.Token} → Spells bs ws → (at : ℕ) → at ≤ length t → drop at t ≡ bs
      → Reads t at ws
  unfolding blank comment token_at next_token
  spells_reads nothing at h e =
      let p : skipped t at ≡ at = skip_stopped t at (rw e refl) in ended {at = at} (rw (p, e))
  spells_reads (space {b = b} {bs = bs} {ws = ws} f s) at h e =
      let n : blank (drop at t) ≡ 1 = rw (e, f) in
      let i = spells_reads s (at + 1) (let l = has_byte at b bs e in omega arith) (after_byte at 0 b bs e) in
      passed at ws h (λ z. omega arith) (rw n i)
  spells_reads (line_comment {b = b} {c = c} {bs = bs} {xs = xs} {r = r} {ws = ws} f g l s) at h e =
      let n : blank (drop at t) ≡ span is_line_byte bs + 2 =
      rw (e, slash_no_space b f, eq-eqb b slash f, eq-eqb c slash g) in
      let i : Reads t (at + blank (drop at t)) ws =
      spells_reads s (at + blank (drop at t)) (blank_inside at h)
      (rest at b c bs (span is_line_byte bs) e n ∙ sym (longest_span is_line_byte l).1) in
      passed at ws h (λ z. omega arith) i
  spells_reads (block_comment {b = b} {c = c} {bs = bs} {r = r} {ws = ws} f g l s) at h e =
      let m = closes_end l in
      let n : blank (drop at t) ≡ closing bs + 2 =
      rw (
        e,
        slash_no_space b f,
        eq-eqb b slash f,
        ne_eqb c slash (λ k. omega arith),
        eq-eqb c star g,
        ne_eqb (closing bs) 0 m.0,
      ) in
      let i : Reads t (at + blank (drop at t)) ws =
      spells_reads s (at + blank (drop at t)) (blank_inside at h) (rest at b c bs (closing bs) e n ∙ sym m.1) in
      passed at ws h (λ z. omega arith) i
  spells_reads (sign {b = b} {bs = bs} {ws = ws} f s) at h e =
      let i = spells_reads s (at + 1) (let l = has_byte at b bs e in omega arith) (after_byte at 0 b bs e) in
      let r = sign_range b f in
      token_read at b 0 bs ws (mark (sign_of b)) (sign_of b) e (begins_token b bs r.0 r.1)
      (rw (r.2, r.3, ne_eqb (sign_of b) 0 f)) (lt-leb end_sort (sign_of b) (let l = sign_of_le b in omega arith))
      (sign_token b (b ∷ [])) i
  spells_reads (letters {b = b} {bs = bs} {xs = xs} {r = r} {ws = ws} f l s) at h e =
      let m = longest_span is_name_byte l in
      let g = letter_range b f in
      let i = spells_reads s (at + suc (span is_name_byte bs))
      (let k = has_byte at b bs e in let o = span_le is_name_byte bs in omega arith)
      (after_byte at (span is_name_byte bs) b bs e ∙ sym m.1) in
      token_read at b (span is_name_byte bs) bs ws (spelled (b ∷ xs)) (spelled_sort (b ∷ take (span is_name_byte bs) bs)) e
      (begins_token b bs (omega arith) (λ k. omega arith)) (rw f)
      (lt-leb end_sort (spelled_sort (b ∷ take (span is_name_byte bs) bs))
      (let o = spelled_sort_le (b ∷ take (span is_name_byte bs) bs) in omega arith))
      (spelled_token (b ∷ take (span is_name_byte bs) bs) ∙ ap (λ (x : List ℕ). spelled (b ∷ x)) (sym m.0)) i
  spells_reads (digits {b = b} {bs = bs} {xs = xs} {r = r} {ws = ws} f l s) at h e =
      let m = longest_span is_digit l in
      let g = digit_range b f in
      let i = spells_reads s (at + suc (span is_digit bs)) (let k = has_byte at b bs e in let o = span_le is_digit bs in
      omega arith)
      (after_byte at (span is_digit bs) b bs e ∙ sym m.1) in
      token_read at b (span is_digit bs) bs ws (number (decimal 0 (b ∷ xs))) 13 e
      (begins_token b bs (omega arith) (λ k. omega arith))
      (rw (not_so (is_letter b) (λ k. let o = letter_range b k in absurd (omega arith)), f))
      refl (number_token (b ∷ take (span is_digit bs) bs) ∙ ap (λ (x : List ℕ). number (decimal 0 (b ∷ x))) (sym m.0))
      i
