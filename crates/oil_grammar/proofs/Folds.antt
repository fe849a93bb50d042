-- The later walks over a text, told of its tokens alone, and what they come to on the tokens of objects.
--
--   resources_in s ws, uses_in s ws  the names of RESOURCE objects, and those of RESOURCE attributes
--   mask_in, fill_in                 as `mask` and `fill`, of tokens
use Prim.Native.Nat.{ℕ, ◌<◌}
use mathlib.Core.Path.{◌≡◌, refl, sym, ap, ◌∙◌}
use mathlib.Core.Bool.{Bool, true, false, cond, ◌&&◌, ◌||◌}
use mathlib.Core.List.{List, [], ◌∷◌, ◌++◌}
use native.Mathlib.Omega.{arith}
use lib.Dec.{leb, eqb}
use lib.ListN.{length}
use borrow.Author.Tests.{leb-false}
use Rattle.number.proofs.Cases.{by_test}
use Rattle.word.specs.Word.{with}
use Rattle.config.specs.declared.Config.{Config}
use Rattle.config.specs.Value.{with_kind, with_priority, with_autostart, with_users}
use Rattle.oil_grammar.specs.Records.{Progress}
use Rattle.oil_grammar.specs.declared.Want.{Want}
use Rattle.oil_grammar.specs.declared.Want.TheVariants.{Object, Name, Open, Attribute, PriorityEquals, PriorityNumber, AutostartEquals, AutostartValue, UseEquals, Use, AttributeEnd, ObjectEnd}
use Rattle.oil_grammar.specs.Token as W
use Rattle.oil_grammar.specs.Token.{mark, name, number, sort_of, same, decimal, true_sort, open_sort, close_sort, semicolon_sort, name_sort, number_sort, end_sort}
use Rattle.oil_grammar.specs.Object as O
use Rattle.oil_grammar.specs.Object.{priority, autostart, uses, is_resource, attribute_tokens, attributes_tokens, written, among_names, resources, attribute_uses, object_uses}
use Rattle.oil_grammar.specs.Meaning.{held, number_after, users_with, users_from, kind_of, start_of, attributed, attributed_all, begun, placed}
use Rattle.oil_grammar.specs.Meaning as Meaning
use Rattle.oil_grammar.specs.Grammar.{Borne, borne_nil, borne_cons}
use Rattle.oil_grammar.specs.Next.{token_of_bytes}
use Rattle.oil_grammar.specs.Automaton.{fault, fault_at, after, after_at, attribute_begun, fresh, names_at, names_object, names_resource, uses_at, uses_resource}
use Rattle.oil_grammar.specs.Walk.{bears, borne, found, unborne_at, unborne, numbered_at, numbered, marked, mask, put_at, put, fill}
use Rattle.oil_grammar.proofs.Spelling.{false_true}
use Rattle.oil_grammar.proofs.Lexing.{Reads, ended, reads, sort_from, spelled_from, token_from}
use Rattle.oil_grammar.proofs.Accepting.{bytes_of, Accepts, goes, only_that, name_wanted, sort_back, bytes_back, cond_or}
use Rattle.oil_grammar.proofs.Objects.{at, object_tokens_lem}

pub resources_in : Progress → List W.Token → List (List ℕ)
resources_in s [] = []
resources_in s (w ∷ ws) =
    cond (names_resource s) (bytes_of w ∷ resources_in (after s (sort_of w)) ws) (resources_in (after s (sort_of w)) ws)

pub uses_in : Progress → List W.Token → List (List ℕ)
uses_in s [] = []
uses_in s (w ∷ ws) = cond (uses_resource s) (bytes_of w ∷ uses_in (after s (sort_of w)) ws) (uses_in (after s (sort_of w)) ws)

pub mask_in : Progress → List ℕ → ℕ → ℕ → List W.Token → ℕ
mask_in s x b m [] = m
mask_in s x b m (w ∷ ws) = mask_in (after s (sort_of w)) x (numbered s b) (marked s (bytes_of w) x b m) ws

abbrev pub value_of : W.Token → ℕ
value_of (mark m) = 0
value_of (name x) = 0
value_of (number n) = n

-- what a token puts
pub put_token : Want → (List ℕ → ℕ) → Progress → Config → W.Token → Config
put_token Object u s c w = cond (is_resource (sort_of w)) c (with_kind c c.bodies (kind_of (sort_of w)))
put_token Name u s c w = cond (is_resource s.kind) (with_users c c.resources (u (bytes_of w))) c
put_token Open u s c w = c
put_token Attribute u s c w = c
put_token PriorityEquals u s c w = c
put_token PriorityNumber u s c w = with_priority c c.bodies (held (value_of w))
put_token AutostartEquals u s c w = c
put_token AutostartValue u s c w = with_autostart c c.bodies (start_of (eqb (sort_of w) true_sort))
put_token UseEquals u s c w = c
put_token Use u s c w = c
put_token AttributeEnd u s c w = c
put_token ObjectEnd u s c w = Meaning.ended s.kind c

pub fill_in : Progress → (List ℕ → ℕ) → Config → List W.Token → Config
fill_in s u c [] = c
fill_in s u c (w ∷ ws) = fill_in (after s (sort_of w)) u (put_token s.want u s c w) ws

-- where a use is wanted, a name is all that is in order
use_wanted : (v : Want) (s : Progress) (n : ℕ) → uses_at v ≡ true → fault_at v s n ≡ 0 → n ≡ name_sort
unfolding uses_at fault_at
use_wanted Object s n e h = absurd (false_true e)
use_wanted Name s n e h = absurd (false_true e)
use_wanted Open s n e h = absurd (false_true e)
use_wanted Attribute s n e h = absurd (false_true e)
use_wanted PriorityEquals s n e h = absurd (false_true e)
use_wanted PriorityNumber s n e h = absurd (false_true e)
use_wanted AutostartEquals s n e h = absurd (false_true e)
use_wanted AutostartValue s n e h = absurd (false_true e)
use_wanted UseEquals s n e h = absurd (false_true e)
use_wanted Use s n e h = only_that name_sort n h
use_wanted AttributeEnd s n e h = absurd (false_true e)
use_wanted ObjectEnd s n e h = absurd (false_true e)

left_true : (a b : Bool) → (a && b) ≡ true → a ≡ true
left_true true b e = refl
left_true false b e = e

number_back : (n : ℕ) (x : List ℕ) → n ≡ number_sort → value_of (token_of_bytes n x) ≡ decimal 0 x
unfolding token_of_bytes
number_back n x e = rw e

-- a token and its bytes say the same to a configuration
put_token_lem : (v : Want) (u : List ℕ → ℕ) (s : Progress) (c : Config) (n : ℕ) (x : List ℕ) → n < end_sort
    → fault_at v s n ≡ 0 → put_at v u s c n x ≡ put_token v u s c (token_of_bytes n x)
unfolding put_at put_token fault_at
put_token_lem Object u s c n x l f = rw (sort_back n x l)
put_token_lem Name u s c n x l f = rw (bytes_back n x (only_that name_sort n f))
put_token_lem Open u s c n x l f = refl
put_token_lem Attribute u s c n x l f = refl
put_token_lem PriorityEquals u s c n x l f = refl
put_token_lem PriorityNumber u s c n x l f = rw (number_back n x (only_that number_sort n f))
put_token_lem AutostartEquals u s c n x l f = refl
put_token_lem AutostartValue u s c n x l f = rw (sort_back n x l)
put_token_lem UseEquals u s c n x l f = refl
put_token_lem Use u s c n x l f = refl
put_token_lem AttributeEnd u s c n x l f = refl
put_token_lem ObjectEnd u s c n x l f = refl

module _ (t : List ℕ) where
  -- of a token that is in order: its sort, and its bytes where a name is wanted
  in_order : (a : ℕ) (s : Progress) → leb end_sort (sort_from t a) ≡ false → fault s (sort_of (token_from t a)) ≡ 0
      → (sort_of (token_from t a) ≡ sort_from t a) × (fault s (sort_from t a) ≡ 0) × (sort_from t a < end_sort)
  in_order a s l f =
      let m = leb-false end_sort (sort_from t a) l in
      let b = sort_back (sort_from t a) (spelled_from t a) m in
      (b, rw b at f, m)

  pub borne_resources : {a : ℕ} {ws : List W.Token} → Reads t a ws → (s : Progress) (seen : List ℕ → Bool)
      → Accepts s seen ws → (x : List ℕ) → borne (length ws) t a s true x ≡ among_names x (resources_in s ws)
  unfolding borne bears resources_in among_names
  borne_resources (ended e) s seen acc x = refl
  borne_resources (reads {at = a} {ws = ws} l r) s seen (goes pr f b acc) x =
      let o = in_order a s l f in
      let i = borne_resources r (after s (sort_from t a)) _ (rw o.0 at acc) x in
      by_test (names_resource s)
      (λ e.
      let y = bytes_back (sort_from t a) (spelled_from t a)
      (name_wanted s.want s (sort_from t a) (left_true (names_object s) _ e) o.1) in
      rw (e, o.0, y) (cond_or (same (spelled_from t a) x) _ ∙ ap (λ (z : Bool). same (spelled_from t a) x || z) i))
      (λ e. rw (e, o.0) i)

  pub mask_tokens : {a : ℕ} {ws : List W.Token} → Reads t a ws → (s : Progress) (seen : List ℕ → Bool) → Accepts s seen ws
      → (x : List ℕ) (b m : ℕ) → mask (length ws) t a s x b m ≡ mask_in s x b m ws
  unfolding mask mask_in marked
  mask_tokens (ended e) s seen acc x b m = refl
  mask_tokens (reads {at = a} {ws = ws} l r) s seen (goes pr f n acc) x b m =
      let o = in_order a s l f in
      let y : marked s (spelled_from t a) x b m ≡ marked s (bytes_of (token_from t a)) x b m =
      by_test (uses_resource s)
      (λ e. ap (λ (z : List ℕ). marked s z x b m)
      (sym (bytes_back (sort_from t a) (spelled_from t a) (use_wanted s.want s (sort_from t a) e o.1))))
      (λ e. rw e) in
      mask_tokens r (after s (sort_from t a)) _ (rw o.0 at acc) x (numbered s b) (marked s (spelled_from t a) x b m)
      ∙ ap (λ (k : ℕ). mask_in (after s (sort_from t a)) x (numbered s b) k ws) y
      ∙ ap (λ (k : ℕ). mask_in (after s k) x (numbered s b) (marked s (bytes_of (token_from t a)) x b m) ws) (sym o.0)

  pub fill_tokens : {a : ℕ} {ws : List W.Token} → Reads t a ws → (s : Progress) (seen : List ℕ → Bool) → Accepts s seen ws
      → (u : List ℕ → ℕ)
      (c : Config)
      → fill (length ws) t a s u c ≡ fill_in s u c ws
  unfolding fill fill_in
  fill_tokens (ended e) s seen acc u c = refl
  fill_tokens (reads {at = a} {ws = ws} l r) s seen (goes pr f n acc) u c =
      let o = in_order a s l f in
      let p = put_token_lem s.want u s c (sort_from t a) (spelled_from t a) o.2 o.1 in
      fill_tokens r (after s (sort_from t a)) _ (rw o.0 at acc) u (put u s c (sort_from t a) (spelled_from t a))
      ∙ ap (λ (d : Config). fill_in (after s (sort_from t a)) u d ws) p
      ∙ ap (λ (k : ℕ). fill_in (after s k) u (put_token s.want u s c (token_from t a)) ws) (sym o.0)

  -- the uses that no RESOURCE bears
  module _ (n : ℕ) (rs : List (List ℕ)) (q : (x : List ℕ) → borne n t 0 fresh true x ≡ among_names x rs) where
    pub unborne_none : {a : ℕ} {ws : List W.Token} → Reads t a ws → (s : Progress) (seen : List ℕ → Bool)
        → Accepts s seen ws → (unborne (length ws) t a s n).refusal ≡ 0 → Borne rs (uses_in s ws)
    unfolding unborne unborne_at uses_in
    unborne_none (ended e) s seen acc z = borne_nil
    unborne_none (reads {at = a} {ws = ws} l r) s seen (goes pr f b acc) z =
        let o = in_order a s l f in
        by_test (uses_resource s)
        (λ e.
        let y = bytes_back (sort_from t a) (spelled_from t a) (use_wanted s.want s (sort_from t a) e o.1) in
        by_test (borne n t 0 fresh true (spelled_from t a))
        (λ g. rw (e, o.0, y)
        (borne_cons (sym (q (spelled_from t a)) ∙ g)
        (unborne_none r (after s (sort_from t a)) _ (rw o.0 at acc) (rw (e, g) at z))))
        (λ g. let h : ◌≡◌ {A = ℕ} 64 0 = rw (e, g) at z in absurd (omega arith)))
        (λ e. rw (e, o.0) (unborne_none r (after s (sort_from t a)) _ (rw o.0 at acc) (rw e at z)))

    pub none_unborne : {a : ℕ} {ws : List W.Token} → Reads t a ws → (s : Progress) (seen : List ℕ → Bool)
        → Accepts s seen ws → Borne rs (uses_in s ws) → unborne (length ws) t a s n ≡ found n
    unfolding unborne unborne_at uses_in
    none_unborne (ended e) s seen acc z = refl
    none_unborne (reads {at = a} {ws = ws} l r) s seen (goes pr f b acc) z =
        let o = in_order a s l f in
        by_test (uses_resource s)
        (λ e.
        let y = bytes_back (sort_from t a) (spelled_from t a) (use_wanted s.want s (sort_from t a) e o.1) in
        let k = borne_split _ _ (rw (e, o.0, y) at z) in
        rw (e, q (spelled_from t a) ∙ k.0) (none_unborne r (after s (sort_from t a)) _ (rw o.0 at acc) k.1))
        (λ e. rw e (none_unborne r (after s (sort_from t a)) _ (rw o.0 at acc) (rw (e, o.0) at z)))
      where
        borne_split : (x : List ℕ) (xs : List (List ℕ)) → Borne rs (x ∷ xs) → (among_names x rs ≡ true) × Borne rs xs
        borne_split x xs (borne_cons h k) = (h, k)

-- on the tokens of attributes, whatever is given already; R is what the tokens after them come to
module _ (k : ℕ) (more : List W.Token) where
  resources_attributes : (R : List (List ℕ)) → ((p a : Bool) → resources_in (at Attribute k p a) more ≡ R)
      → (al : List O.Attribute) (p a : Bool) → resources_in (at Attribute k p a) (attributes_tokens al ++ more) ≡ R
  unfolding resources_in attributes_tokens attribute_tokens after_at attribute_begun names_at sort_of
  resources_attributes R h [] p a = h p a
  resources_attributes R h (priority n ∷ al) p a = resources_attributes R h al true a
  resources_attributes R h (autostart b ∷ al) p a = resources_attributes R h al p true
  resources_attributes R h (uses x ∷ al) p a = resources_attributes R h al p a

  uses_attributes : (R : List (List ℕ)) → ((p a : Bool) → uses_in (at Attribute k p a) more ≡ R)
      → (al : List O.Attribute) (p a : Bool)
      → uses_in (at Attribute k p a) (attributes_tokens al ++ more) ≡ attribute_uses al ++ R
  unfolding uses_in attributes_tokens attribute_tokens attribute_uses after_at attribute_begun uses_at sort_of
  uses_attributes R h [] p a = h p a
  uses_attributes R h (priority n ∷ al) p a = uses_attributes R h al true a
  uses_attributes R h (autostart b ∷ al) p a = uses_attributes R h al p true
  uses_attributes R h (uses x ∷ al) p a = ap (λ (l : List (List ℕ)). x ∷ l) (uses_attributes R h al p a)

  mask_attributes : (x : List ℕ) (b : ℕ) (R : ℕ → ℕ)
      → ((p a : Bool) (m : ℕ) → mask_in (at Attribute k p a) x b m more ≡ R m)
      → (al : List O.Attribute) (p a : Bool) (m : ℕ) → mask_in (at Attribute k p a) x b m (attributes_tokens al ++ more)
      ≡ R (users_with x b m al)
  unfolding mask_in marked numbered_at attributes_tokens attribute_tokens users_with after_at attribute_begun uses_at sort_of
  mask_attributes x b R h [] p a m = h p a m
  mask_attributes x b R h (priority n ∷ al) p a m = mask_attributes x b R h al true a m
  mask_attributes x b R h (autostart v ∷ al) p a m = mask_attributes x b R h al p true m
  mask_attributes x b R h (uses y ∷ al) p a m = mask_attributes x b R h al p a (cond (same y x) (with m b) m)

  fill_attributes : (u : List ℕ → ℕ) (R : Config → Config)
      → ((p a : Bool) (c : Config) → fill_in (at Attribute k p a) u c more ≡ R c)
      → (al : List O.Attribute) (p a : Bool) (c : Config) → fill_in (at Attribute k p a) u c (attributes_tokens al ++ more)
      ≡ R (attributed_all c al)
  unfolding fill_in put_token attributes_tokens attribute_tokens attributed_all attributed after_at attribute_begun sort_of
  fill_attributes u R h [] p a c = h p a c
  fill_attributes u R h (priority n ∷ al) p a c = fill_attributes u R h al true a (with_priority c c.bodies (held n))
  fill_attributes u R h (autostart true ∷ al) p a c = fill_attributes u R h al p true (with_autostart c c.bodies 1)
  fill_attributes u R h (autostart false ∷ al) p a c = fill_attributes u R h al p true (with_autostart c c.bodies 0)
  fill_attributes u R h (uses x ∷ al) p a c = fill_attributes u R h al p a c

-- on the tokens of objects
pub resources_written : (os : List O.Object) (k : ℕ) (p a : Bool)
    → resources_in (at Object k p a) (written os) ≡ resources os
unfolding resources resources_in written after_at attribute_begun names_at sort_of
resources_written [] k p a = refl
resources_written (o ∷ os) k p a =
    let r : resources_in (at Attribute o.kind false false) (attributes_tokens o.attributes ++
    (mark close_sort ∷ mark semicolon_sort ∷ written os)) ≡ resources os =
    resources_attributes o.kind (mark close_sort ∷ mark semicolon_sort ∷ written os) (resources os)
    (λ p' a'. resources_written os o.kind p' a') o.attributes false false in
    ap (resources_in (at Object k p a)) (object_tokens_lem o os)
    ∙ ap (λ (l : List (List ℕ)). cond (is_resource o.kind) (o.called ∷ l) l) r

pub uses_written : (os : List O.Object) (k : ℕ) (p a : Bool) → uses_in (at Object k p a) (written os) ≡ object_uses os
unfolding object_uses uses_in written after_at attribute_begun uses_at sort_of
uses_written [] k p a = refl
uses_written (o ∷ os) k p a =
    ap (uses_in (at Object k p a)) (object_tokens_lem o os)
    ∙ uses_attributes o.kind (mark close_sort ∷ mark semicolon_sort ∷ written os) (object_uses os)
    (λ p' a'. uses_written os o.kind p' a') o.attributes false false

pub mask_written : (os : List O.Object) (x : List ℕ) (b m k : ℕ) (p a : Bool)
    → mask_in (at Object k p a) x b m (written os) ≡ users_from x b m os
unfolding users_from mask_in written marked numbered_at after_at attribute_begun uses_at sort_of
mask_written [] x b m k p a = refl
mask_written (o ∷ os) x b m k p a =
    ap (mask_in (at Object k p a) x b m) (object_tokens_lem o os)
    ∙ mask_attributes o.kind (mark close_sort ∷ mark semicolon_sort ∷ written os) x b
    (λ n. users_from x (number_after o.kind b) n os)
    (λ p' a' n. mask_written os x (number_after o.kind b) n o.kind p' a') o.attributes false false m

pub fill_written : (os : List O.Object) (u : List ℕ → ℕ) (c : Config) (k : ℕ) (p a : Bool)
    → fill_in (at Object k p a) u c (written os) ≡ placed u c os
unfolding placed begun fill_in put_token written after_at attribute_begun sort_of
fill_written [] u c k p a = refl
fill_written (o ∷ os) u c k p a =
    ap (fill_in (at Object k p a) u c) (object_tokens_lem o os)
    ∙ begins o
    ∙ fill_attributes o.kind (mark close_sort ∷ mark semicolon_sort ∷ written os) u
    (λ d. placed u (Meaning.ended o.kind d) os)
    (λ p' a' d. fill_written os u (Meaning.ended o.kind d) o.kind p' a') o.attributes false false (begun u c o)
  where
    begun_tokens : (o : O.Object)
        → put_token Name u (at Name o.kind false false) (put_token Object u (at Object k p a) c (mark o.kind))
        (name o.called) ≡ begun u c o
    begun_tokens o = by_test (is_resource o.kind) (λ e. rw e) (λ e. rw e)

    begins : (o : O.Object)
        → fill_in (at Object k p a) u c
        (mark o.kind ∷ name o.called ∷ mark open_sort ∷
        (attributes_tokens o.attributes ++ (mark close_sort ∷ mark semicolon_sort ∷ written os)))
        ≡ fill_in (at Attribute o.kind false false) u (begun u c o) (attributes_tokens o.attributes ++
        (mark close_sort ∷ mark semicolon_sort ∷ written os))
    begins o =
        ap (λ (d : Config). fill_in (at Attribute o.kind false false) u d (attributes_tokens o.attributes ++
        (mark close_sort ∷ mark semicolon_sort ∷ written os)))
        (begun_tokens o)
