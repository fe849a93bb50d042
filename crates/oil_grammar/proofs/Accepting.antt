-- The first walk over a text, told of its tokens alone: it accepts exactly the texts whose tokens are in order.
--
--   Accepts s seen ws  from s on the tokens are in order; `seen` tells which names earlier objects have
use Prim.Native.Nat.{ℕ, zero, suc, ◌+◌, ◌≤◌, ◌<◌}
use mathlib.Core.Path.{◌≡◌, refl, sym, ap, ◌∙◌}
use mathlib.Core.Bool.{Bool, true, false, cond, ◌&&◌, ◌||◌}
use mathlib.Core.List.{List, [], ◌∷◌}
use native.Mathlib.Omega.{arith}
use lib.Dec.{eqb}
use lib.ListN.{length, take, drop}
use borrow.Author.Tests.{eq-eqb, ne_eqb, le-leb, lt-leb, leb-false}
use Rattle.number.proofs.Cases.{by_test, by_eq, by_lt}
use Rattle.oil_grammar.specs.Records.{Token}
use Rattle.oil_grammar.specs.Records.{Progress}
use Rattle.oil_grammar.specs.declared.Want.{Want}
use Rattle.oil_grammar.specs.declared.Want.TheVariants.{Object, Name, Open, Attribute, PriorityEquals, PriorityNumber, AutostartEquals, AutostartValue, UseEquals, Use, AttributeEnd, ObjectEnd}
use Rattle.oil_grammar.specs.Byte.{is_letter, is_digit, is_name_byte, span}
use Rattle.oil_grammar.specs.Token as W
use Rattle.oil_grammar.specs.Token.{mark, name, number, sort_of, same, spelled_sort, task_token, isr_token, resource_token, priority_token, autostart_token, true_token, false_token, sign_of, semicolon_sort, name_sort, end_sort}
use Rattle.oil_grammar.specs.Next.{token_at, skipped, next_token, spelling, token_of_bytes}
use Rattle.oil_grammar.specs.Automaton.{fault, fault_at, only, unexpected, after, fresh, names_at, names_object}
use Rattle.oil_grammar.specs.Walk.{bears, borne, name_fault, fault_in, found, walk}
use Rattle.oil_grammar.proofs.Spelling.{false_true}
use Rattle.oil_grammar.proofs.Bounds.{next_inside}
use Rattle.oil_grammar.proofs.Sorts.{going, fault_none}
use Rattle.oil_grammar.proofs.Lexing.{Reads, ended, reads, sort_from, spelled_from, token_from}

-- a token as the grammar has it
pub data Proper : W.Token → Type 0 where
  proper_mark : {m : ℕ} → 1 ≤ m → m ≤ semicolon_sort → Proper (mark m)
  proper_name : {x : List ℕ} → Proper (name x)
  proper_number : {n : ℕ} → Proper (number n)

-- the bytes of a name
abbrev pub bytes_of : W.Token → List ℕ
bytes_of (mark m) = []
bytes_of (name x) = x
bytes_of (number n) = []

abbrev pub seen_after : Progress → (List ℕ → Bool) → W.Token → List ℕ → Bool
seen_after s seen w = cond (names_object s) (λ x. seen x || same (bytes_of w) x) seen

pub data Accepts : Progress → (List ℕ → Bool) → List W.Token → Type 0 where
  stops : {s : Progress} {seen : List ℕ → Bool} → fault s end_sort ≡ 0 → Accepts s seen []
  goes : {s : Progress} {seen : List ℕ → Bool} {w : W.Token} {ws : List W.Token} → Proper w → fault s (sort_of w) ≡ 0
      → (names_object s && seen (bytes_of w)) ≡ false → Accepts (after s (sort_of w)) (seen_after s seen w) ws
      → Accepts s seen (w ∷ ws)

-- a token's sort and its bytes, from those that it was read by
pub sort_back : (s : ℕ) (x : List ℕ) → s < end_sort → sort_of (token_of_bytes s x) ≡ s
unfolding token_of_bytes sort_of
sort_back s x h =
    by_lt s 12
    (λ l. rw (le-leb s 11 (omega arith)))
    (λ l. by_eq s 12
    (λ e. rw (lt-leb s 11 l, eq-eqb s 12 e) (sym e))
    (λ d. rw (lt-leb s 11 l, ne_eqb s 12 d) (omega arith)))

pub bytes_back : (s : ℕ) (x : List ℕ) → s ≡ name_sort → bytes_of (token_of_bytes s x) ≡ x
unfolding token_of_bytes
bytes_back s x e = rw e

proper_back : (s : ℕ) (x : List ℕ) → 1 ≤ s → Proper (token_of_bytes s x)
unfolding token_of_bytes
proper_back s x h =
    by_lt s 12
    (λ l. rw (le-leb s 11 (omega arith)) (proper_mark h (omega arith)))
    (λ l. by_test (eqb s 12)
    (λ e. rw (lt-leb s 11 l, e) proper_name)
    (λ e. rw (lt-leb s 11 l, e) proper_number))

choice_ge : (b : Bool) (x y : ℕ) → 1 ≤ x → 1 ≤ y → 1 ≤ cond b x y
choice_ge true x y h k = h
choice_ge false x y h k = k

spelled_sort_ge : (x : List ℕ) → 1 ≤ spelled_sort x
unfolding spelled_sort
spelled_sort_ge x =
    choice_ge (same x task_token) _ _ (omega arith)
    (choice_ge (same x isr_token) _ _ (omega arith)
    (choice_ge (same x resource_token) _ _ (omega arith)
    (choice_ge (same x priority_token) _ _ (omega arith)
    (choice_ge (same x autostart_token) _ _ (omega arith)
    (choice_ge (same x true_token) _ _ (omega arith) (choice_ge (same x false_token) _ _ (omega arith) (omega arith)))))))

sort_ge : (p : ℕ) (bs : List ℕ) → 1 ≤ (token_at p bs).sort
unfolding token_at
sort_ge p [] = omega arith
sort_ge p (b ∷ bs) =
    by_test (is_letter b)
    (λ e. rw e (spelled_sort_ge (b ∷ take (span is_name_byte bs) bs)))
    (λ e. by_test (is_digit b)
    (λ f. rw (e, f) (omega arith))
    (λ f. by_eq (sign_of b) 0 (λ z. rw (e, f, eq-eqb (sign_of b) 0 z) (omega arith))
    (λ n. rw (e, f, ne_eqb (sign_of b) 0 n) (omega arith))))

next_ge : (t : List ℕ) (at : ℕ) → 1 ≤ (next_token t at).sort
unfolding next_token
next_ge t at = sort_ge (skipped t at) (drop (skipped t at) t)

pub only_that : (e n : ℕ) → only e n ≡ 0 → n ≡ e
unfolding only unexpected
only_that e n h =
    by_eq n e (λ q. q)
    (λ d. absurd (by_test (eqb n 15) (λ u. some 59 (rw (ne_eqb n e d, u) at h))
    (λ u. some 60 (rw (ne_eqb n e d, u) at h))))
  where
    some : (k : ℕ) → suc k ≡ 0 → ⊥
    some k q = omega arith

-- where an object's name is wanted, a name is all that is in order
pub name_wanted : (v : Want) (s : Progress) (n : ℕ) → names_at v ≡ true → fault_at v s n ≡ 0 → n ≡ name_sort
unfolding names_at fault_at
name_wanted Object s n e h = absurd (false_true e)
name_wanted Name s n e h = only_that name_sort n h
name_wanted Open s n e h = absurd (false_true e)
name_wanted Attribute s n e h = absurd (false_true e)
name_wanted PriorityEquals s n e h = absurd (false_true e)
name_wanted PriorityNumber s n e h = absurd (false_true e)
name_wanted AutostartEquals s n e h = absurd (false_true e)
name_wanted AutostartValue s n e h = absurd (false_true e)
name_wanted UseEquals s n e h = absurd (false_true e)
name_wanted Use s n e h = absurd (false_true e)
name_wanted AttributeEnd s n e h = absurd (false_true e)
name_wanted ObjectEnd s n e h = absurd (false_true e)

or_false : (b : Bool) → (b || false) ≡ b
or_false true = refl
or_false false = refl

or_assoc : (a b c : Bool) → ((a || b) || c) ≡ (a || (b || c))
or_assoc true b c = refl
or_assoc false b c = refl

pub cond_or : (a b : Bool) → cond a true b ≡ (a || b)
cond_or true b = refl
cond_or false b = refl

module _ (t : List ℕ) where
  -- n tokens from a place and s₀ on end at a place and s
  pub data Came : ℕ → Progress → ℕ → ℕ → Progress → Type 0 where
    came_here : {a : ℕ} {s : Progress} → Came a s 0 a s
    came_on : {a at n : ℕ} {s₀ s : Progress} → Came (next_token t a).end (after s₀ (sort_from t a)) n at s
        → Came a s₀ (suc n) at s

  came_next : {a at n : ℕ} {s₀ s : Progress} → Came a s₀ n at s
      → Came a s₀ (suc n) (next_token t at).end (after s (sort_from t at))
  came_next came_here = came_on came_here
  came_next (came_on c) = came_on (came_next c)

  -- one token more
  borne_next : {a at n : ℕ} {s₀ s : Progress} → Came a s₀ n at s → (r : Bool) (x : List ℕ)
      → borne (suc n) t a s₀ r x ≡ (borne n t a s₀ r x || (bears r s && same (spelled_from t at) x))
  unfolding borne
  borne_next (came_here {a = a} {s = s}) r x = cond_or (bears r s && same (spelled_from t a) x) false ∙ or_false _
  borne_next (came_on {a = a} {at = at} {n = n} {s₀ = s₀} {s = s} c) r x =
      let h = borne_next c r x in
      let b = bears r s₀ && same (spelled_from t a) x in
      ap (λ (z : Bool). cond (bears r s₀ && same (spelled_from t a) x) true z) h
      ∙ cond_or (bears r s₀ && same (spelled_from t a) x) _
      ∙ sym (or_assoc (bears r s₀ && same (spelled_from t a) x)
      (borne n t (next_token t a).end (after s₀ (sort_from t a)) r x) _)
      ∙ ap (λ (z : Bool). z || (bears r s && same (spelled_from t at) x))
      (sym (cond_or (bears r s₀ && same (spelled_from t a) x) _))

  -- the names that are seen are those that the tokens before bear
  abbrev Same : ℕ → (List ℕ → Bool) → Type 0
  Same n seen = (x : List ℕ) → borne n t 0 fresh false x ≡ seen x

  seen_next : (n at : ℕ) (s : Progress) (seen : List ℕ → Bool) → Came 0 fresh n at s → Same n seen
      → fault s (sort_from t at) ≡ 0 → sort_from t at < end_sort → Same (suc n) (seen_after s seen (token_from t at))
  unfolding bears
  seen_next n at s seen c q f l x =
      borne_next c false x
      ∙ by_test (names_object s)
      (λ e.
      let b = bytes_back (sort_from t at) (spelled_from t at) (name_wanted s.want s (sort_from t at) e f) in
      rw (e, b, q x))
      (λ e. rw (e, q x) (or_false (seen x)))

  -- a token whose sort is in order and whose name is new has no fault
  no_fault : (s : Progress) (n : ℕ) (w : Token) → fault s w.sort ≡ 0
      → (names_object s && borne n t 0 fresh false (spelling t w)) ≡ false
      → fault_in t s n w ≡ 0
  unfolding fault_in name_fault
  no_fault s n w f e = rw (eq-eqb (fault s w.sort) 0 f, e)

  new_name : (s : Progress) (n : ℕ) (w : Token) → fault_in t s n w ≡ 0
      → (names_object s && borne n t 0 fresh false (spelling t w)) ≡ false
  unfolding fault_in name_fault
  new_name s n w e =
      by_test (names_object s && borne n t 0 fresh false (spelling t w))
      (λ b. let h : ◌≡◌ {A = ℕ} 63 0 = rw (eq-eqb (fault s w.sort) 0 (fault_none t s n w e), b) at e in
      absurd (omega arith))
      (λ b. b)

  -- the two ways to say that a name is new
  module _ (n at : ℕ) (s : Progress) (seen : List ℕ → Bool) (q : Same n seen) (f : fault s (sort_from t at) ≡ 0) where
    same_test : (names_object s && borne n t 0 fresh false (spelled_from t at))
        ≡ (names_object s && seen (bytes_of (token_from t at)))
    same_test =
        by_test (names_object s)
        (λ e.
        let b = bytes_back (sort_from t at) (spelled_from t at) (name_wanted s.want s (sort_from t at) e f) in
        rw (e, b, q (spelled_from t at)))
        (λ e. rw e)

  pub record AcceptedTokens (at : ℕ) (s : Progress) (seen : List ℕ → Bool) (n m : ℕ) : Type 0 where
    pub tokens : List W.Token
    pub read : Reads t at tokens
    pub accepts : Accepts s seen tokens
    pub count : m ≡ n + length tokens

  walk_accepts : (k at : ℕ) (s : Progress) (n : ℕ) (seen : List ℕ → Bool) → at ≤ length t → Came 0 fresh n at s
      → Same n seen → (walk k t at s n).refusal ≡ 0 → AcceptedTokens at s seen n (walk k t at s n).tokens
  unfolding walk
  walk_accepts zero at s n seen h c q e = absurd (omega arith)
  walk_accepts (suc k) at s n seen h c q e =
      by_eq (fault_in t s n (next_token t at)) 0
      (λ f. let g = fault_none t s n (next_token t at) f in by_eq (sort_from t at) end_sort
      (λ d. rw (eq-eqb (fault_in t s n (next_token t at)) 0 f, eq-eqb (sort_from t at) end_sort d)
      (record { tokens = []; read = ended d; accepts = stops (rw d at g); count = omega arith }))
      (λ d.
      let l = going t at s n f d in
      let m = leb-false end_sort (sort_from t at) l in
      let b = sort_back (sort_from t at) (spelled_from t at) m in
      let r = rw (eq-eqb (fault_in t s n (next_token t at)) 0 f, ne_eqb (sort_from t at) end_sort d) at e in
      let i = walk_accepts k (next_token t at).end (after s (sort_from t at)) (suc n) (seen_after s seen (token_from t at))
      (next_inside t at h).inside (came_next c) (seen_next n at s seen c q g m) r in
      rw (eq-eqb (fault_in t s n (next_token t at)) 0 f, ne_eqb (sort_from t at) end_sort d)
      (record {
        tokens = token_from t at ∷ i.tokens;
        read = reads {at = at} l i.read;
        accepts =
            goes {s = s} {seen = seen} {w = token_from t at} {ws = i.tokens}
            (proper_back (sort_from t at) (spelled_from t at) (next_ge t at)) (rw b g)
            (sym (same_test n at s seen q g) ∙ new_name s n (next_token t at) f) (rw b i.accepts);
        count = let z = i.count in omega arith;
      })))
      (λ d. absurd (d (rw (ne_eqb (fault_in t s n (next_token t at)) 0 d) at e)))

  accepts_walk : (k : ℕ) {at : ℕ} {ws : List W.Token} → Reads t at ws → (s : Progress) (n : ℕ) (seen : List ℕ → Bool)
      → Accepts s seen ws → length ws < k
      → at ≤ length t → Came 0 fresh n at s → Same n seen → walk k t at s n ≡ found (n + length ws)
  unfolding walk
  accepts_walk zero r s n seen a h i c q = absurd (omega arith)
  accepts_walk (suc k) (ended {at = at} e) s n seen (stops f) h i c q =
      let g : fault s (sort_from t at) ≡ 0 = rw e f in
      let x = no_fault s n (next_token t at) g
      (by_test (names_object s)
      (λ b. let z = name_wanted s.want s (sort_from t at) b g in absurd (omega arith))
      (λ b. rw b)) in
      let z : n ≡ n + 0 = omega arith in
      rw (eq-eqb (fault_in t s n (next_token t at)) 0 x, eq-eqb (sort_from t at) end_sort e) (ap (λ (m : ℕ). found m) z)
  accepts_walk (suc k) (reads {at = at} {ws = ws} l r) s n seen (goes p f b a) h i c q =
      let m = leb-false end_sort (sort_from t at) l in
      let o = sort_back (sort_from t at) (spelled_from t at) m in
      let g : fault s (sort_from t at) ≡ 0 = rw o at f in
      let x = no_fault s n (next_token t at) g (same_test n at s seen q g ∙ b) in
      let z : suc n + length ws ≡ n + suc (length ws) = omega arith in
      rw (eq-eqb (fault_in t s n (next_token t at)) 0 x, ne_eqb (sort_from t at) end_sort (λ v. omega arith))
      (accepts_walk k r (after s (sort_from t at)) (suc n) (seen_after s seen (token_from t at)) (rw o at a) (omega arith)
      (next_inside t at i).inside (came_next c) (seen_next n at s seen c q g m)
      ∙ ap (λ (v : ℕ). found v) z)

  -- from the start
  abbrev pub none_seen : List ℕ → Bool
  none_seen x = false

  start_same : Same 0 none_seen
  unfolding borne
  start_same x = refl

  pub walked_accepts : (k : ℕ) → (walk k t 0 fresh 0).refusal ≡ 0
      → AcceptedTokens 0 fresh none_seen 0 (walk k t 0 fresh 0).tokens
  walked_accepts k e = walk_accepts k 0 fresh 0 none_seen (omega arith) came_here start_same e

  pub accepts_walked : (k : ℕ) {ws : List W.Token} → Reads t 0 ws → Accepts fresh none_seen ws → length ws < k
      → walk k t 0 fresh 0 ≡ found (length ws)
  accepts_walked k {ws} r a h =
      let z : 0 + length ws ≡ length ws = omega arith in
      accepts_walk k r fresh 0 none_seen a h (omega arith) came_here start_same ∙ ap (λ (v : ℕ). found v) z

  -- a text has no more tokens than bytes
  pub reads_few : {at : ℕ} {ws : List W.Token} → Reads t at ws → at ≤ length t → at + length ws ≤ length t
  reads_few (ended e) h = omega arith
  reads_few (reads {at = at} l r) h =
      let x = next_inside t at h in
      let i = reads_few r x.inside in
      let o = x.some l in
      omega (arith, x.begins)
