-- The sorts of tokens: a token that is in order and not the end is a token of the grammar.
use Prim.Native.Nat.{ℕ, suc, ◌≤◌}
use mathlib.Core.Path.{◌≡◌}
use mathlib.Core.Bool.{Bool, true, false, cond}
use mathlib.Core.List.{List, [], ◌∷◌}
use native.Mathlib.Omega.{arith}
use lib.Dec.{leb, eqb}
use lib.ListN.{take, drop}
use borrow.Author.Tests.{lt-leb, eqb-true}
use Rattle.number.proofs.Cases.{by_test, by_eq}
use Rattle.oil_grammar.specs.Records.{Token}
use Rattle.oil_grammar.specs.Records.{Progress}
use Rattle.oil_grammar.specs.declared.Want.{Want}
use Rattle.oil_grammar.specs.declared.Want.TheVariants.{Object, Name, Open, Attribute, PriorityEquals, PriorityNumber, AutostartEquals, AutostartValue, UseEquals, Use, AttributeEnd, ObjectEnd}
use Rattle.oil_grammar.specs.Byte.{is_letter, is_digit, is_name_byte, span}
use Rattle.oil_grammar.specs.Token.{same, spelled_sort, task_token, isr_token, resource_token, priority_token, autostart_token, true_token, false_token, sign_of, end_sort, unreadable_sort}
use Rattle.oil_grammar.specs.Next.{token_at, skipped, next_token}
use Rattle.oil_grammar.specs.Automaton.{fault, fault_at, unexpected, unknown, only, object_fault, body_fault, attribute_fault, value_fault}
use Rattle.oil_grammar.specs.Walk.{fault_in}
use Rattle.oil_grammar.specs.Object.{is_resource}

-- the lesser of two sorts, by a test
choice_le : (b : Bool) (x y n : ℕ) → x ≤ n → y ≤ n → cond b x y ≤ n
choice_le true x y n h k = h
choice_le false x y n h k = k

pub spelled_sort_le : (x : List ℕ) → spelled_sort x ≤ 12
unfolding spelled_sort
spelled_sort_le x =
    choice_le (same x task_token) _ _ 12 (omega arith)
    (choice_le (same x isr_token) _ _ 12 (omega arith)
    (choice_le (same x resource_token) _ _ 12 (omega arith)
    (choice_le (same x priority_token) _ _ 12 (omega arith)
    (choice_le (same x autostart_token) _ _ 12 (omega arith)
    (choice_le (same x true_token) _ _ 12 (omega arith)
    (choice_le (same x false_token) _ _ 12 (omega arith) (omega arith)))))))

pub sign_of_le : (b : ℕ) → sign_of b ≤ 11
unfolding sign_of
sign_of_le b =
    choice_le (eqb b 123) _ _ 11 (omega arith)
    (choice_le (eqb b 125) _ _ 11 (omega arith)
    (choice_le (eqb b 61) _ _ 11 (omega arith) (choice_le (eqb b 59) _ _ 11 (omega arith) (omega arith))))

sort_le : (p : ℕ) (bs : List ℕ) → (token_at p bs).sort ≤ 15
unfolding token_at
sort_le p [] = omega arith
sort_le p (b ∷ bs) =
    by_test (is_letter b)
    (λ e. rw e (let h = spelled_sort_le (b ∷ take (span is_name_byte bs) bs) in omega arith))
    (λ e. by_test (is_digit b)
    (λ f. rw (e, f) (omega arith))
    (λ f. rw (e, f)
    (by_test (eqb (sign_of b) 0) (λ g. rw g (omega arith)) (λ g. rw g (let h = sign_of_le b in omega arith)))))

some : (n : ℕ) → suc n ≡ 0 → ⊥
some n e = omega arith

-- an unreadable sign is refused wherever it stands
unreadable_refused : (v : Want) (s : Progress) → fault_at v s unreadable_sort ≡ 0 → ⊥
unfolding fault_at only object_fault attribute_fault body_fault value_fault unknown unexpected
unreadable_refused Object s e = some 59 e
unreadable_refused Name s e = some 59 e
unreadable_refused Open s e = some 59 e
unreadable_refused Attribute s e =
    by_test (is_resource s.kind) (λ f. some 59 (rw f at e)) (λ f. some 59 (rw f at e))
unreadable_refused PriorityEquals s e = some 59 e
unreadable_refused PriorityNumber s e = some 59 e
unreadable_refused AutostartEquals s e = some 59 e
unreadable_refused AutostartValue s e = some 59 e
unreadable_refused UseEquals s e = some 59 e
unreadable_refused Use s e = some 59 e
unreadable_refused AttributeEnd s e = some 59 e
unreadable_refused ObjectEnd s e = some 59 e

-- a token with a name fault or without, its sort is in order
pub fault_none : (t : List ℕ) (s : Progress) (n : ℕ) (w : Token) → fault_in t s n w ≡ 0 → fault s w.sort ≡ 0
unfolding fault_in
fault_none t s n w e =
    by_test (eqb (fault s w.sort) 0) (λ f. eqb-true (fault s w.sort) 0 f) (λ f. rw f at e)

-- a token that is in order and not the end has a byte at least
pub goes : (t : List ℕ) (at : ℕ) (s : Progress) → fault s (next_token t at).sort ≡ 0
    → ((next_token t at).sort ≡ end_sort → ⊥) → leb end_sort (next_token t at).sort ≡ false
unfolding next_token
goes t at s e d =
    let l = sort_le (skipped t at) (drop (skipped t at) t) in
    by_eq (next_token t at).sort unreadable_sort
    (λ u. absurd (unreadable_refused s.want s (rw u at e)))
    (λ u. lt-leb end_sort (next_token t at).sort (omega arith))

pub going : (t : List ℕ) (at : ℕ) (s : Progress) (n : ℕ) → fault_in t s n (next_token t at) ≡ 0
    → ((next_token t at).sort ≡ end_sort → ⊥) → leb end_sort (next_token t at).sort ≡ false
going t at s n e d = goes t at s (fault_none t s n (next_token t at) e) d
