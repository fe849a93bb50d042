-- The first word at fault decides a refusal of 60 to 63: what follows the byte after it does not matter
-- (`fault_decided`, at the end of the file).
--
-- In order: runs, spaces and comments of lists that begin alike; the next token; the tokens before a place; the walk.
use Prim.Native.Nat.{ℕ, zero, suc, ◌+◌, ◌-◌, ◌≤◌, ◌<◌}
use mathlib.Core.Path.{◌≡◌, refl, sym, ap, ◌∙◌}
use mathlib.Core.Bool.{Bool, false, cond, ◌&&◌}
use mathlib.Core.List.{List, [], ◌∷◌}
use mathlib.Core.Logic.{◌≢◌}
use native.Mathlib.Omega.{arith}
use native.Mathlib.Nat.{add-zero}
use lib.Dec.{leb, eqb}
use lib.ListN.{length, take, drop, get_or, length-drop}
use lib.Seq.{get_or-drop}
use borrow.Author.Tests.{eq-eqb, ne_eqb, leb-false}
use Rattle.number.proofs.Cases.{by_test, by_eq, by_lt}
use Rattle.number.proofs.Front.{agree_fewer, agree_from, agree_long, agree_whole}
use Rattle.oil_grammar.specs.Records.{Token}
use Rattle.oil_grammar.specs.Byte.{slash, star, is_space, is_letter, is_digit, is_name_byte, is_line_byte, span}
use Rattle.number.specs.Refusal.{none}
use Rattle.oil_grammar.specs.Records.{Progress}
use Rattle.oil_grammar.specs.Records.{Found}
use Rattle.oil_grammar.specs.Token.{sign_of, end_sort, unreadable_sort}
use Rattle.oil_grammar.specs.Automaton.{after, fresh}
use Rattle.oil_grammar.specs.Walk.{borne, name_fault, fault_in, refused_at, found, walk}
use Rattle.oil_grammar.specs.Reader.{walked, decisive, read_oil}
use Rattle.oil_grammar.specs.Next.{closing, comment, blank, skipped, token_at, next_token, spelling}
use Rattle.oil_grammar.proofs.Span.{drop_next}
use Rattle.oil_grammar.proofs.Blank.{skip_more, skip_stopped, skipped_ge}
use Rattle.oil_grammar.proofs.Bounds.{token_lies, next_inside}
use Rattle.oil_grammar.proofs.Sorts.{going}

-- two lists have the same first n bytes
data Alike : ℕ → List ℕ → List ℕ → Type 0 where
  nothing : {bs cs : List ℕ} → Alike zero bs cs
  ended : {n : ℕ} → Alike (suc n) [] []
  more : {n b : ℕ} {bs cs : List ℕ} → Alike n bs cs → Alike (suc n) (b ∷ bs) (b ∷ cs)

alike : (n : ℕ) (bs cs : List ℕ) → take n cs ≡ take n bs → Alike n bs cs
alike zero bs cs e = nothing
alike (suc n) [] [] e = ended
alike (suc n) [] (c ∷ cs) e = let z : ◌≡◌ {A = ℕ} 0 1 = cc in absurd (omega arith)
alike (suc n) (b ∷ bs) [] e = let z : ◌≡◌ {A = ℕ} 0 1 = cc in absurd (omega arith)
alike (suc n) (b ∷ bs) (c ∷ cs) e =
    let h : c ≡ b = cc in
    let t : take n cs ≡ take n bs = cc in
    rw h (more (alike n bs cs t))

-- a run that ends before the list does
span_same : (p : ℕ → Bool) {n : ℕ} {bs cs : List ℕ} → Alike n bs cs → span p bs < n → span p bs < length bs
    → span p cs ≡ span p bs
unfolding span
span_same p nothing l h = absurd (omega arith)
span_same p ended l h = absurd (omega arith)
span_same p (more {n = n} {b = b} {bs = bs} {cs = cs} a) l h =
    by_test (p b)
    (λ t. let k : suc (span p bs) < suc n = rw t at l in
    let m : suc (span p bs) < suc (length bs) = rw t at h in
    rw t (ap suc (span_same p a (omega arith) (omega arith))))
    (λ t. rw t)

-- a comment's end, of two bytes at least
closing_step : (b c : ℕ) (bs : List ℕ) → closing (b ∷ c ∷ bs)
    ≡ cond (eqb b star && eqb c slash) 2 (cond (eqb (closing (c ∷ bs)) 0) 0 (suc (closing (c ∷ bs))))
unfolding closing
closing_step b c bs = refl

closing_one : (bs : List ℕ) → closing bs ≤ 1 → closing bs ≡ 0
unfolding closing
closing_one [] l = refl
closing_one (b ∷ []) l = refl
closing_one (b ∷ c ∷ bs) l =
    by_test (eqb b star && eqb c slash)
    (λ t. let z : 2 ≤ 1 = rw t at l in absurd (omega arith))
    (λ t. by_eq (closing (c ∷ bs)) 0
    (λ z. rw (t, eq-eqb (closing (c ∷ bs)) 0 z))
    (λ d. let z : suc (closing (c ∷ bs)) ≤ 1 = rw (t, ne_eqb (closing (c ∷ bs)) 0 d) at l in
    absurd (d (omega arith))))

closing_same : {n : ℕ} {bs cs : List ℕ} → Alike n bs cs → closing bs ≢ 0 → closing bs ≤ n → closing cs ≡ closing bs
closing_same nothing d l = absurd (d (omega arith))
closing_same ended d l = refl
closing_same (more ended) d l = refl
closing_same (more {b = b} (nothing {bs = bs})) d l = absurd (d (closing_one (b ∷ bs) l))
closing_same (more {b = b} (more {n = n} {b = c} {bs = bs} {cs = cs} a)) d l =
    by_test (eqb b star && eqb c slash)
    (λ t. rw (closing_step b c cs, closing_step b c bs, t))
    (λ t. by_eq (closing (c ∷ bs)) 0
    (λ z. absurd (d (rw (closing_step b c bs, t, eq-eqb (closing (c ∷ bs)) 0 z))))
    (λ m. let k : suc (closing (c ∷ bs)) ≤ suc (suc n) =
    rw (closing_step b c bs, t, ne_eqb (closing (c ∷ bs)) 0 m) at l in
    rw (closing_step b c cs, closing_step b c bs, t, closing_same (more {b = c} a) m (omega arith))))

-- a space or comment that ends before the list does
blank_same : {n : ℕ} {bs cs : List ℕ} → Alike n bs cs → blank bs ≢ 0 → blank bs < n → blank bs < length bs
    → blank cs ≡ blank bs
unfolding blank comment
blank_same nothing d l h = absurd (omega arith)
blank_same ended d l h = refl
blank_same (more {b = b} ended) d l h = refl
blank_same (more {b = b} nothing) d l h = absurd (d (omega arith))
blank_same (more {b = b} (more {n = n} {b = c} {bs = bs} {cs = cs} a)) d l h =
    by_test (is_space b)
    (λ t. rw t)
    (λ t. by_test (eqb b slash)
    (λ u. by_test (eqb c slash)
    (λ v. let k : span is_line_byte bs + 2 < suc (suc n) = rw (t, u, v) at l in
    let m : span is_line_byte bs + 2 < suc (suc (length bs)) = rw (t, u, v) at h in
    rw (t, u, v, span_same is_line_byte a (omega arith) (omega arith)))
    (λ v. by_test (eqb c star)
    (λ w. by_eq (closing bs) 0
    (λ z. absurd (d (rw (t, u, v, w, eq-eqb (closing bs) 0 z))))
    (λ m. let k : closing bs + 2 < suc (suc n) = rw (t, u, v, w, ne_eqb (closing bs) 0 m) at l in
    rw (t, u, v, w, closing_same a m (omega arith))))
    (λ w. rw (t, u, v, w))))
    (λ u. rw (t, u)))

-- a byte that is neither space nor slash
stop_same : {n : ℕ} {bs cs : List ℕ} → Alike n bs cs → 0 < n → 0 < length bs → blank bs ≡ 0 → get_or bs 0 0 ≢ slash
    → blank cs ≡ 0
unfolding blank
stop_same nothing l h z d = absurd (omega arith)
stop_same ended l h z d = refl
stop_same (more {b = b} a) l h z d =
    by_test (is_space b)
    (λ t. let k : ◌≡◌ {A = ℕ} 1 0 = rw t at z in absurd (omega arith))
    (λ t. rw (t, ne_eqb b slash d))

alike_take : {n : ℕ} {bs cs : List ℕ} → Alike n bs cs → (k : ℕ) → k ≤ n → take k cs ≡ take k bs
alike_take a zero h = refl
alike_take nothing (suc k) h = absurd (omega arith)
alike_take ended (suc k) h = refl
alike_take (more {b = b} a) (suc k) h = ap (λ (l : List ℕ). b ∷ l) (alike_take a k (omega arith))

-- a token at the head that ends before the list does
token_same : (p : ℕ) {n : ℕ} {bs cs : List ℕ} → Alike n bs cs → (token_at p bs).end < p + n
    → (token_at p bs).end < p + length bs → token_at p cs ≡ token_at p bs
unfolding token_at
token_same p (nothing {bs = bs}) l h = let k = token_lies p bs in absurd (omega (arith, k.forward, k.at_start))
token_same p ended l h = refl
token_same p (more {n = n} {b = b} {bs = bs} {cs = cs} a) l h =
    by_test (is_letter b)
    (λ t. let k : p + suc (span is_name_byte bs) < p + suc n = rw t at l in
    let m : p + suc (span is_name_byte bs) < p + suc (length bs) = rw t at h in
    let s = span_same is_name_byte a (omega arith) (omega arith) in
    rw (t, s, alike_take a (span is_name_byte bs) (omega arith)))
    (λ t. by_test (is_digit b)
    (λ u. let k : p + suc (span is_digit bs) < p + suc n = rw (t, u) at l in
    let m : p + suc (span is_digit bs) < p + suc (length bs) = rw (t, u) at h in
    rw (t, u, span_same is_digit a (omega arith) (omega arith)))
    (λ u. rw (t, u)))

-- two texts that agree on n bytes
module _ (t u : List ℕ) (n : ℕ) (agree : take n u ≡ take n t) where
  from : (at : ℕ) → at ≤ n → Alike (n - at) (drop at t) (drop at u)
  from at h =
      let e : at + (n - at) ≡ n = omega arith in
      alike (n - at) (drop at t) (drop at u) (agree_from t u at (n - at) (rw e agree))

  -- the spaces and comments before a byte that is no slash
  skip_same : (m at : ℕ) → length t - at ≤ m → at ≤ length t → skipped t at < length t
      → get_or t (skipped t at) 0 ≢ slash → skipped t at < n → skipped u at ≡ skipped t at
  skip_same zero at few h some d l = absurd (omega (arith, skipped_ge t at))
  skip_same (suc m) at few h some d l =
      let le = skipped_ge t at in
      let a = from at (omega arith) in
      by_eq (blank (drop at t)) 0
      (λ z. let p : skipped t at ≡ at = skip_stopped t at z in
      let b : get_or (drop at t) 0 0 ≢ slash = rw (get_or-drop, add-zero) (rw p at d) in
      skip_stopped u at (stop_same a (omega arith) (simp length-drop (omega arith)) z b) ∙ sym p)
      (λ z. let p = skip_more t at h z in
      let k = skipped_ge t (at + blank (drop at t)) in
      let b : blank (drop at u) ≡ blank (drop at t) =
      blank_same a z (omega arith) (simp length-drop (omega arith)) in
      let v : at < length u = agree_long t u at n (omega arith) (omega arith) agree in
      skip_more u at (omega arith) (rw b z)
      ∙ rw b
      (skip_same m (at + blank (drop at t)) (omega arith) (omega arith) (omega arith) (rw p at d) (omega arith))
      ∙ sym p)

  -- the token at a place, and the next one
  token_there : (p : ℕ) → (token_at p (drop p t)).end < length t → (token_at p (drop p t)).end < n
      → token_at p (drop p u) ≡ token_at p (drop p t)
  token_there p h l =
      let k = token_lies p (drop p t) in
      let m = length-drop p t in
      token_same p (from p (omega (arith, k.forward, k.at_start)))
      (omega (arith, k.forward, k.at_start)) (omega (arith, k.forward, k.at_start, m))

  next_same : (at : ℕ) → at ≤ length t → (next_token t at).start < length t → get_or t (next_token t at).start 0 ≢ slash
      → (next_token t at).end < n → next_token u at ≡ next_token t at
  unfolding next_token
  next_same at h some d l =
      by_lt (length t) n
      (λ w. rw (agree_whole t u n w agree))
      (λ w. let k = token_lies (skipped t at) (drop (skipped t at) t) in
      let s = skip_same (length t) at (omega arith) h (omega (arith, k.at_start)) (rw k.at_start at d)
      (omega (arith, k.forward, k.at_start)) in
      rw s (token_there (skipped t at) (omega arith) l))

  -- what a token spells
  spelling_same : (w : Token) → w.start ≤ w.end → w.end ≤ n → spelling u w ≡ spelling t w
  spelling_same w h l =
      agree_from t u w.start (w.end - w.start)
      (agree_fewer t u (w.start + (w.end - w.start)) n (omega arith) agree)

-- a token that a byte decides: there is one where it begins, and it is no slash, with which a comment could begin
record Firm (t : List ℕ) (w : Token) : Type 0 where
  some : w.start < length t
  no_slash : get_or t w.start 0 ≢ slash

-- a slash is no token
slash_unreadable : (t : List ℕ) (p : ℕ) → p < length t → get_or t p 0 ≡ slash → (token_at p (drop p t)).sort ≡ unreadable_sort
unfolding token_at is_letter is_digit sign_of
slash_unreadable t p h e = rw (drop_next t p h, e)

-- so a token is firm where it is in order and not the end
firm : (t : List ℕ) (at : ℕ) → at ≤ length t → leb end_sort (next_token t at).sort ≡ false → Firm t (next_token t at)
unfolding next_token
firm t at h g =
    let x = next_inside t at h in
    let k = token_lies (skipped t at) (drop (skipped t at) t) in
    record {
      some = omega (arith, x.some g, x.inside);
      no_slash = λ z.
          let e = slash_unreadable t (skipped t at) (omega (arith, k.at_start, x.some g, x.inside)) (rw k.at_start at z) in
          omega (arith, e, leb-false end_sort (next_token t at).sort g);
    }

-- n firm tokens lead from one place and progress to another
data Comes (t : List ℕ) : ℕ → ℕ → Progress → ℕ → Progress → Type 0 where
  here : {at : ℕ} {s : Progress} → Comes t zero at s at s
  on : {n at at' : ℕ} {s s' : Progress} → Firm t (next_token t at)
      → Comes t n (next_token t at).end (after s (next_token t at).sort) at' s'
      → Comes t (suc n) at s at' s'

comes_on : {t : List ℕ} {n at at' : ℕ} {s s' : Progress} → Comes t n at s at' s' → Firm t (next_token t at')
    → Comes t (suc n) at s (next_token t at').end (after s' (next_token t at').sort)
comes_on here f = on f here
comes_on (on g c) f = on g (comes_on c f)

comes_later : {t : List ℕ} {n at at' : ℕ} {s s' : Progress} → Comes t n at s at' s' → at ≤ length t → at ≤ at'
comes_later here h = omega arith
comes_later {t = t} (on {at = at} f c) h =
    let x = next_inside t at h in
    omega (arith, x.begins, x.forward, comes_later c x.inside)

module _ (t u : List ℕ) (n : ℕ) (agree : take n u ≡ take n t) where
  -- the names that they are
  borne_same : {k at at' : ℕ} {s s' : Progress} → Comes t k at s at' s' → at ≤ length t → at' < n
      → (r : Bool) (x : List ℕ) → borne k u at s r x ≡ borne k t at s r x
  unfolding borne
  borne_same here h l r x = refl
  borne_same (on {at = at} f c) h l r x =
      let y = next_inside t at h in
      let e = comes_later c y.inside in
      let w = next_token t at in
      rw (
        next_same t u n agree at h f.some f.no_slash (omega arith),
        spelling_same t u n agree w y.forward (omega arith),
        borne_same c y.inside l r x,
      )

  fault_same : {k at : ℕ} {s : Progress} → Comes t k 0 fresh at s → at < n → (w : Token) → w.start ≤ w.end → w.end ≤ n
      → fault_in u s k w ≡ fault_in t s k w
  unfolding fault_in name_fault
  fault_same c l w h e =
      rw (spelling_same t u n agree w h e, borne_same c (omega arith) l false (spelling t w))

-- one step of the walk
module _ (k : ℕ) (t : List ℕ) (at : ℕ) (s : Progress) (m : ℕ) (w : Token) (e : next_token t at ≡ w) where
  walk_end : fault_in t s m w ≡ none → w.sort ≡ end_sort → walk (suc k) t at s m ≡ found m
  unfolding walk
  walk_end f z = rw (e, eq-eqb (fault_in t s m w) none f, eq-eqb w.sort end_sort z)

  walk_on : fault_in t s m w ≡ none → w.sort ≢ end_sort
      → walk (suc k) t at s m ≡ walk k t w.end (after s w.sort) (suc m)
  unfolding walk
  walk_on f z = rw (e, eq-eqb (fault_in t s m w) none f, ne_eqb w.sort end_sort z)

  walk_stop : fault_in t s m w ≢ none → walk (suc k) t at s m ≡ refused_at (fault_in t s m w) w.start
  unfolding walk
  walk_stop f = rw (e, ne_eqb (fault_in t s m w) none f)

-- a refusal is not before the place where the walk is
walk_later : (k : ℕ) (t : List ℕ) (at : ℕ) (s : Progress) (m : ℕ) → at ≤ length t → (walk k t at s m).refusal ≢ none
    → at ≤ (walk k t at s m).place
unfolding walk
walk_later zero t at s m h d = omega arith
walk_later (suc k) t at s m h d =
    let w = next_token t at in
    let x = next_inside t at h in
    by_eq (fault_in t s m w) none
    (λ f. by_eq w.sort end_sort
    (λ z. absurd (d (ap (λ (r : Found). r.refusal) (walk_end k t at s m w refl f z))))
    (λ z. rw (walk_on k t at s m w refl f z)
    (omega (
      arith,
      x.begins,
      x.forward,
      walk_later k t w.end (after s w.sort) (suc m) x.inside (rw (walk_on k t at s m w refl f z) at d),
    ))))
    (λ f. rw (walk_stop k t at s m w refl f) x.begins)

-- the next token is the one at the place where it begins
next_there : (t : List ℕ) (at : ℕ)
    → token_at (next_token t at).start (drop (next_token t at).start t) ≡ next_token t at
unfolding next_token
next_there t at = ap (λ (p : ℕ). token_at p (drop p t)) ((token_lies (skipped t at) (drop (skipped t at) t)).at_start)

module _ (t u : List ℕ) (n : ℕ) (agree : take n u ≡ take n t) where
  -- the token at fault is decided by n bytes
  record Within (r : Found) : Type 0 where
    bad : r.refusal ≢ none
    some : r.place < length t
    no_slash : get_or t r.place 0 ≢ slash
    token : (token_at r.place (drop r.place t)).end < n

  walk_same : (k j at : ℕ) (s : Progress) (m : ℕ) → Comes t m 0 fresh at s → at ≤ length t → length t - at < k
      → length u - at < j → Within (walk k t at s m) → walk j u at s m ≡ walk k t at s m
  walk_same zero j at s m c h few few' o = absurd (omega arith)
  walk_same (suc k) zero at s m c h few few' o = absurd (omega arith)
  walk_same (suc k) (suc j) at s m c h few few' o =
      let w = next_token t at in
      let x = next_inside t at h in
      by_eq (fault_in t s m w) none
      (λ f. by_eq w.sort end_sort
      (λ z. absurd (o.bad (ap (λ (r : Found). r.refusal) (walk_end k t at s m w refl f z))))
      (λ z. let step = walk_on k t at s m w refl f z in
      let g = going t at s m f z in
      let v = firm t at h g in
      let y = x.some g in
      let o' : Within (walk k t w.end (after s w.sort) (suc m)) = rw step at o in
      let p = (walk k t w.end (after s w.sort) (suc m)).place in
      let q = token_lies p (drop p t) in
      let l : w.end < n =
      omega (arith, walk_later k t w.end (after s w.sort) (suc m) x.inside o'.bad, q.at_start, q.forward, o'.token) in
      let a : at < length u = agree_long t u at n (omega (arith, x.begins, x.inside)) (omega (arith, x.begins)) agree in
      walk_on j u at s m w (next_same t u n agree at h v.some v.no_slash l)
      (fault_same t u n agree c (omega (arith, x.begins)) w x.forward (omega arith) ∙ f) z
      ∙ walk_same k j w.end (after s w.sort) (suc m) (comes_on c v) x.inside (omega (arith, x.begins, x.inside))
      (omega (arith, x.begins)) o'
      ∙ sym step))
      (λ f. let step = walk_stop k t at s m w refl f in
      let o' : Within (refused_at (fault_in t s m w) w.start) = rw step at o in
      let l : w.end < n = rw (next_there t at) at o'.token in
      let e = fault_same t u n agree c (omega (arith, x.begins, x.forward)) w x.forward (omega arith) in
      walk_stop j u at s m w (next_same t u n agree at h o'.some o'.no_slash l) (rw e f)
      ∙ ap (λ (r : ℕ). refused_at r w.start) e
      ∙ sym step)

module _ (t u : List ℕ) (bad : (walked t).refusal ≢ none) (some : (walked t).place < length t)
    (no_slash : get_or t (walked t).place 0 ≢ slash) (agree : take (decisive t) u ≡ take (decisive t) t) where
  walked_same : walked u ≡ walked t
  walked_same =
      walk_same t u (decisive t) agree (suc (length t)) (suc (length u)) 0 fresh 0 here (omega arith) (omega arith)
      (omega arith) (record { bad = bad; some = some; no_slash = no_slash; token = omega arith })

  pub fault_decided : read_oil u ≡ read_oil t
  unfolding read_oil
  fault_decided =
      let p = (walked t).place in
      let q = token_lies p (drop p t) in
      rw (
        walked_same,
        ne_eqb (walked t).refusal none bad,
        agree_fewer t u p (decisive t) (omega (arith, q.at_start, q.forward)) agree,
      )
