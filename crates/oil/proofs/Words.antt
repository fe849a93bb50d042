-- OIL's words, by their lengths and bytes, as `match` tests them.
use Rattle.std.proofs.Common.{◌≡◌, ℕ, suc, ◌+◌, Bool, true, false, cond, ◌&&◌, ◌∙◌, eqb, List, [], ◌∷◌, length, get_or, refl, ap, arith, add-one}
use Rattle.std.specs.Cmp.Lexicographic.{pointwise}
use Rattle.std.proofs.lemmas.Bool.Decides.{nat_tests}
use borrow.Author.Tests.{ne_eqb}
use Rattle.number.proofs.Cases.{by_eq}
use Rattle.oil_grammar.specs.Token.{same, spelled_sort, task_token, isr_token, resource_token, priority_token, autostart_token, true_token, false_token, name_sort}

-- the bytes from the i-th on are those
abbrev pub bytes_are : List ℕ → ℕ → List ℕ → Bool
bytes_are x i [] = true
bytes_are x i (y ∷ ys) = eqb (get_or x i 0) y && bytes_are x (i + 1) ys

later : (b : ℕ) (x : List ℕ) (i : ℕ) (ys : List ℕ) → bytes_are (b ∷ x) (i + 1) ys ≡ bytes_are x i ys
later b x i [] = refl
later b x i (y ∷ ys) = let e : get_or (b ∷ x) (i + 1) 0 ≡ get_or x i 0 = rw add-one refl in rw (e, later b x (i + 1) ys)

same_is : (x y : List ℕ) → same x y ≡ (eqb (length x) (length y) && bytes_are x 0 y)
unfolding same
same_is [] [] = refl
same_is [] (y ∷ ys) = let e : eqb 0 (suc (length ys)) ≡ false = ne_eqb 0 (suc (length ys)) (λ h. omega arith) in rw e refl
same_is (x ∷ xs) [] = let e : eqb (suc (length xs)) 0 ≡ false = ne_eqb (suc (length xs)) 0 (λ h. omega arith) in rw e refl
same_is (x ∷ xs) (y ∷ ys) =
    rw (same_is xs ys, eqb_suc (length xs) (length ys), later x xs 0 ys)
    (swap (eqb x y) (eqb (length xs) (length ys)) (bytes_are xs 0 ys))
  where
    eqb_suc : (a b : ℕ) → eqb (suc a) (suc b) ≡ eqb a b
    eqb_suc a b = grind (arith, nat_tests)

    swap : (a b c : Bool) → (a && (b && c)) ≡ (b && (a && c))
    swap true b c = refl
    swap false true c = refl
    swap false false c = refl

-- `==` on bytes
pub same_pointwise : (x y : List ℕ) → pointwise eqb x y ≡ same x y
unfolding same
same_pointwise [] [] = refl
same_pointwise [] (y ∷ ys) = refl
same_pointwise (x ∷ xs) [] = refl
same_pointwise (x ∷ xs) (y ∷ ys) = ap (λ (b : Bool). eqb x y && b) (same_pointwise xs ys)

-- the sort of a word of n bytes
abbrev pub by_length : ℕ → List ℕ → ℕ
by_length n x =
    cond (eqb n 3) (cond (bytes_are x 0 isr_token) 2 12)
    (cond (eqb n 4) (cond (bytes_are x 0 task_token) 1 (cond (bytes_are x 0 true_token) 6 12))
    (cond (eqb n 5) (cond (bytes_are x 0 false_token) 7 12)
    (cond (eqb n 8) (cond (bytes_are x 0 resource_token) 3 (cond (bytes_are x 0 priority_token) 4 12))
    (cond (eqb n 9) (cond (bytes_are x 0 autostart_token) 5 12) 12))))

pub spelled_by_length : (x : List ℕ) → spelled_sort x ≡ by_length (length x) x
unfolding spelled_sort
spelled_by_length x =
    rw (
      same_is x task_token,
      same_is x isr_token,
      same_is x resource_token,
      same_is x priority_token,
      same_is x autostart_token,
      same_is x true_token,
      same_is x false_token,
    ) (shape (length x) (bytes_are x 0 task_token) (bytes_are x 0 isr_token) (bytes_are x 0 resource_token)
    (bytes_are x 0 priority_token) (bytes_are x 0 autostart_token) (bytes_are x 0 true_token) (bytes_are x 0 false_token))
  where
    shape : (n : ℕ) (t i r p a u f : Bool)
        → ◌≡◌ {A = ℕ} (cond (eqb n 4 && t) 1 (cond (eqb n 3 && i) 2 (cond (eqb n 8 && r) 3 (cond (eqb n 8 && p) 4
        (cond (eqb n 9 && a) 5 (cond (eqb n 4 && u) 6 (cond (eqb n 5 && f) 7 12)))))))
        (cond (eqb n 3) (cond i 2 12) (cond (eqb n 4) (cond t 1 (cond u 6 12)) (cond (eqb n 5) (cond f 7 12)
        (cond (eqb n 8) (cond r 3 (cond p 4 12)) (cond (eqb n 9) (cond a 5 12) 12)))))
    shape n t i r p a u f =
        by_eq n 3 (λ e. rw e refl)
        (λ d3. by_eq n 4 (λ e. rw e refl)
        (λ d4. by_eq n 5 (λ e. rw e refl)
        (λ d5. by_eq n 8 (λ e. rw e refl)
        (λ d8. by_eq n 9 (λ e. rw e refl)
        (λ d9. rw (ne_eqb n 3 d3, ne_eqb n 4 d4, ne_eqb n 5 d5, ne_eqb n 8 d8, ne_eqb n 9 d9) refl)))))

-- none of the words
pub no_word : (x : List ℕ) → (eqb (length x) 4 && bytes_are x 0 task_token) ≡ false
    → (eqb (length x) 3 && bytes_are x 0 isr_token) ≡ false → (eqb (length x) 8 && bytes_are x 0 resource_token) ≡ false
    → (eqb (length x) 8 && bytes_are x 0 priority_token) ≡ false
    → (eqb (length x) 9 && bytes_are x 0 autostart_token) ≡ false
    → (eqb (length x) 4 && bytes_are x 0 true_token) ≡ false → (eqb (length x) 5 && bytes_are x 0 false_token) ≡ false
    → name_sort ≡ spelled_sort x
unfolding spelled_sort
no_word x t i r p a u f =
    rw (
      same_is x task_token ∙ t,
      same_is x isr_token ∙ i,
      same_is x resource_token ∙ r,
      same_is x priority_token ∙ p,
      same_is x autostart_token ∙ a,
      same_is x true_token ∙ u,
      same_is x false_token ∙ f,
    ) refl

pub ruleset words = (spelled_by_length, nat_tests)
