-- Tokens that are in order are those of objects: what is left of the tokens, by what is wanted.
use Prim.Native.Nat.{ℕ, suc, ◌+◌, ◌≤◌}
use mathlib.Core.Path.{◌≡◌, refl, sym, ap, ◌∙◌}
use mathlib.Core.Bool.{Bool, true, false, cond, ◌&&◌, ◌||◌}
use mathlib.Core.List.{List, [], ◌∷◌, ◌++◌, append_assoc}
use native.Mathlib.Omega.{arith}
use lib.Dec.{leb, eqb}
use borrow.Author.Tests.{eq-eqb, ne_eqb, lt-leb, eqb-true}
use Rattle.number.proofs.Cases.{by_test, by_eq, by_lt}
use Rattle.oil_grammar.specs.Records.{Progress}
use Rattle.oil_grammar.specs.declared.Want.{Want}
use Rattle.oil_grammar.specs.declared.Want.TheVariants.{Object, Name, Open, Attribute, PriorityEquals, PriorityNumber, AutostartEquals, AutostartValue, UseEquals, Use, AttributeEnd, ObjectEnd}
use Rattle.oil_grammar.specs.Token as W
use Rattle.oil_grammar.specs.Token.{mark, name, number, sort_of, same, task_sort, isr_sort, resource_sort, priority_sort, autostart_sort, true_sort, false_sort, open_sort, close_sort, equals_sort, semicolon_sort, name_sort, number_sort, end_sort}
use Rattle.oil_grammar.specs.Object as O
use Rattle.oil_grammar.specs.Object.{priority, autostart, uses, is_resource, attribute_tokens, attributes_tokens, written, priorities, autostarts, Fits, task, isr, resource, among_names}
use Rattle.oil_grammar.specs.Grammar.{AllFit, fit_nil, fit_cons, Fresh, fresh_nil, fresh_cons}
use Rattle.oil_grammar.specs.Automaton.{fault_at, only, unexpected, unknown, object_fault, body_fault, attribute_fault, value_fault, after_at, attribute_begun, fresh, names_at}
use Rattle.oil_grammar.proofs.Spelling.{false_true}
use Rattle.oil_grammar.proofs.Accepting.{Proper, proper_mark, proper_name, proper_number, bytes_of, Accepts, stops, goes, only_that}
use Rattle.oil_grammar.proofs.Objects.{at, once, Left, Sees, sees_name, object_tokens_lem}

-- the tokens are those of objects that fit and have new names
pub record AsObjects (earlier : List (List ℕ)) (ws : List W.Token) : Type 0 where
  pub objects : List O.Object
  pub is : ws ≡ written objects
  pub fit : AllFit objects
  pub new : Fresh earlier objects

-- the tokens are f of some value, and what follows them is T
record Then {A : Type 0} (f : A → List W.Token) (T : List W.Token → Type 0) (ws : List W.Token) : Type 0 where
  value : A
  rest : List W.Token
  is : ws ≡ f value ++ rest
  follows : T rest

abbrev Ending : List (List ℕ) → List W.Token → Type 0
Ending earlier = Then {A = Unit {0}} (λ _. mark semicolon_sort ∷ []) (AsObjects earlier)

-- what the attributes that are left satisfy
record Fitting (k : ℕ) (p a : Bool) (al : List O.Attribute) : Type 0 where
  of_resource : k ≡ resource_sort → al ≡ []
  of_body : (k ≡ resource_sort → ⊥) → Left k p a al

record Attributes (k : ℕ) (p a : Bool) (earlier : List (List ℕ)) (ws : List W.Token) : Type 0 where
  attributes : List O.Attribute
  rest : List W.Token
  is : ws ≡ attributes_tokens attributes ++ (mark close_sort ∷ rest)
  fitting : Fitting k p a attributes
  follows : Ending earlier rest

abbrev bool_token : Bool → W.Token
bool_token b = mark (cond b true_sort false_sort)

record Named (k : ℕ) (p a : Bool) (earlier : List (List ℕ)) (ws : List W.Token) : Type 0 where
  called : List ℕ
  rest : List W.Token
  is : ws ≡ name called ∷ mark open_sort ∷ rest
  new : among_names called earlier ≡ false
  follows : Attributes k p a (called ∷ earlier) rest

-- what is left of the tokens, by what is wanted
abbrev Rest : Want → ℕ → Bool → Bool → List (List ℕ) → List W.Token → Type 0
Rest Object k p a E ws = AsObjects E ws
Rest Name k p a E ws = Named k p a E ws
Rest Open k p a E ws = Then {A = Unit {0}} (λ _. mark open_sort ∷ []) (Attributes k p a E) ws
Rest Attribute k p a E ws = Attributes k p a E ws
Rest PriorityEquals k p a E ws =
    Then (λ n. mark equals_sort ∷ number n ∷ mark semicolon_sort ∷ []) (Attributes k p a E) ws
Rest PriorityNumber k p a E ws = Then (λ n. number n ∷ mark semicolon_sort ∷ []) (Attributes k p a E) ws
Rest AutostartEquals k p a E ws =
    Then (λ b. mark equals_sort ∷ bool_token b ∷ mark semicolon_sort ∷ []) (Attributes k p a E) ws
Rest AutostartValue k p a E ws = Then (λ b. bool_token b ∷ mark semicolon_sort ∷ []) (Attributes k p a E) ws
Rest UseEquals k p a E ws = Then (λ x. mark equals_sort ∷ name x ∷ mark semicolon_sort ∷ []) (Attributes k p a E) ws
Rest Use k p a E ws = Then (λ x. name x ∷ mark semicolon_sort ∷ []) (Attributes k p a E) ws
Rest AttributeEnd k p a E ws = Then {A = Unit {0}} (λ _. mark semicolon_sort ∷ []) (Attributes k p a E) ws
Rest ObjectEnd k p a E ws = Ending E ws

-- one token more before tokens that follow
before : {A B : Type 0} {f : A → List W.Token} {g : B → List W.Token} {T : List W.Token → Type 0} {w : W.Token}
    {ws : List W.Token}
    (r : Then f T ws) (v : B) → w ∷ f r.value ≡ g v → Then g T (w ∷ ws)
before {f = f} {w = w} r v e =
    record {
      value = v;
      rest = r.rest;
      is = ap (λ (l : List W.Token). w ∷ l) r.is ∙ ap (λ (l : List W.Token). l ++ r.rest) e;
      follows = r.follows;
    }

-- an attribute before attributes
attribute : {k : ℕ} {p a q b : Bool} {E : List (List ℕ)} {w : W.Token} {ws : List W.Token} {A : Type 0}
    {f : A → List W.Token}
    (r : Then f (Attributes k q b E) ws) (x : O.Attribute) → w ∷ f r.value ≡ attribute_tokens x
    → ((al : List O.Attribute) → Fitting k q b al → Fitting k p a (x ∷ al)) → Attributes k p a E (w ∷ ws)
unfolding attributes_tokens
attribute {w = w} {f = f} r x e fits =
    record {
      attributes = x ∷ r.follows.attributes;
      rest = r.follows.rest;
      is =
          ap (λ (l : List W.Token). w ∷ l) r.is
          ∙ ap (λ (l : List W.Token). l ++ r.rest) e
          ∙ ap (λ (l : List W.Token). attribute_tokens x ++ l) r.follows.is
          ∙ sym (append_assoc (attribute_tokens x) (attributes_tokens r.follows.attributes) _);
      fitting = fits r.follows.attributes r.follows.fitting;
      follows = r.follows.follows;
    }

-- an object from its parts
fits_of : (k : ℕ) (x : List ℕ) (al : List O.Attribute) → 1 ≤ k → k ≤ 3 → Fitting k false false al
    → Fits (record { kind = k; called = x; attributes = al })
unfolding priorities autostarts
fits_of k x al lo hi f =
    by_eq k resource_sort
    (λ e. rw (e, f.of_resource e) resource)
    (λ d.
    let l = f.of_body d in
    by_eq k task_sort
    (λ e. rw e (task {x = x} {rest = al} (let h = l.one_priority in omega arith)
    (let h = l.few_autostarts in omega arith)))
    (λ n. let e : k ≡ isr_sort = omega arith in
    rw e (isr {x = x} {rest = al} (let h = l.one_priority in omega arith) (l.of_task n))))

object : {E : List (List ℕ)} {ws : List W.Token} (k : ℕ) → 1 ≤ k → k ≤ 3 → Named k false false E ws
    → AsObjects E (mark k ∷ ws)
object {E} {ws} k lo hi n =
    let b = n.follows in
    let e = b.follows in
    let o : O.Object = record { kind = k; called = n.called; attributes = b.attributes } in
    record {
      objects = record { kind = k; called = n.called; attributes = b.attributes } ∷ e.follows.objects;
      is =
          ap (λ (l : List W.Token). mark k ∷ l) n.is
          ∙ ap (λ (l : List W.Token). mark k ∷ name n.called ∷ mark open_sort ∷ l) b.is
          ∙ ap (λ (l : List W.Token). mark k ∷ name n.called ∷ mark open_sort ∷
          (attributes_tokens b.attributes ++ (mark close_sort ∷ l))) e.is
          ∙ ap (λ (l : List W.Token). mark k ∷ name n.called ∷ mark open_sort ∷ (attributes_tokens b.attributes ++
          (mark close_sort ∷ mark semicolon_sort ∷ l))) e.follows.is
          ∙ sym (object_tokens_lem (record { kind = k; called = n.called; attributes = b.attributes })
          e.follows.objects);
      fit = fit_cons (fits_of k n.called b.attributes lo hi b.fitting) e.follows.fit;
      new = fresh_cons n.new e.follows.new;
    }

-- which marks are in order where one is wanted
mark_only : (e m : ℕ) → only e m ≡ 0 → m ≡ e
mark_only = only_that

object_mark : (m : ℕ) → m ≤ semicolon_sort → object_fault m ≡ 0 → m ≤ resource_sort
unfolding object_fault unknown unexpected
object_mark m hi f =
    by_lt resource_sort m
    (λ h.
    absurd
    (by_test (leb m false_sort || eqb m name_sort)
    (λ g. some 61 (rw (lt-leb m resource_sort h, ne_eqb m end_sort (λ q. omega arith), g) at f))
    (λ g. some 60 (rw (lt-leb m resource_sort h, ne_eqb m end_sort (λ q. omega arith), g, ne_eqb m 15 (λ q. omega arith))
    at f))))
    (λ h. h)
  where
    some : (k : ℕ) → suc k ≡ 0 → ⊥
    some k q = omega arith

value_mark : (m : ℕ) → value_fault m ≡ 0 → (b : Bool) × (m ≡ cond b true_sort false_sort)
unfolding value_fault
value_mark m f =
    by_eq m true_sort (λ e. (true, e)) (λ d. (false, only_that false_sort m (rw (ne_eqb m true_sort d) at f)))

-- a token that is unknown is refused
unknown_some : (m : ℕ) → unknown m ≡ 0 → ⊥
unfolding unknown unexpected
unknown_some m e =
    by_test (leb m false_sort || eqb m name_sort)
    (λ g. some 61 (rw g at e))
    (λ g. by_test (eqb m 15) (λ u. some 59 (rw (g, u) at e)) (λ u. some 60 (rw (g, u) at e)))
  where
    some : (k : ℕ) → suc k ≡ 0 → ⊥
    some k q = omega arith

-- the proofs for what follows a token, from any place on
abbrev Further : Progress → (List ℕ → Bool) → List W.Token → Type 0
Further s seen ws =
    (v : Want) (k : ℕ) (p a : Bool) → s ≡ at v k p a → (E : List (List ℕ)) → Sees seen E → Rest v k p a E ws

-- a mark where an attribute or the closing brace is wanted
module _ (k : ℕ) (p a : Bool) (m : ℕ) (lo : 1 ≤ m) (hi : m ≤ semicolon_sort) (ws : List W.Token) (seen : List ℕ → Bool)
    (f : attribute_fault (at Attribute k p a) m ≡ 0) (ih : Further (attribute_begun (at Attribute k p a) m) seen ws)
    (E : List (List ℕ))
    (q : Sees seen E) where
  closed : m ≡ close_sort → Attributes k p a E (mark m ∷ ws)
  unfolding attribute_begun attribute_fault body_fault attributes_tokens priorities autostarts
  closed e =
      record {
        attributes = [];
        rest = ws;
        is = ap (λ (n : ℕ). mark n ∷ ws) e;
        fitting =
            record {
              of_resource = λ _. refl;
              of_body = λ d. record {
                one_priority = given d p refl;
                few_autostarts = by_test a (λ h. rw h (omega arith)) (λ h. rw h (omega arith));
                of_task = λ _. refl;
              };
            };
        follows = ih ObjectEnd k p a (rw (eq-eqb m close_sort e)) E q;
      }
    where
      given : (k ≡ resource_sort → ⊥) → (z : Bool) → p ≡ z → 0 + once p ≡ 1
      given d true h = rw h
      given d false h =
          absurd (let g : ◌≡◌ {A = ℕ} 61 0 = rw (ne_eqb k resource_sort d, eq-eqb m close_sort e, h) at f in omega arith)

  -- only a body has attributes
  body : (m ≡ close_sort → ⊥) → k ≡ resource_sort → ⊥
  unfolding attribute_fault
  body d e = unknown_some m (rw (eq-eqb k resource_sort e, ne_eqb m close_sort d) at f)

  body_fault_lem : (m ≡ close_sort → ⊥) → body_fault (at Attribute k p a) m ≡ 0
  unfolding attribute_fault
  body_fault_lem d = rw (ne_eqb k resource_sort (body d)) at f

  priority_given : m ≡ priority_sort → Attributes k p a E (mark m ∷ ws)
  unfolding attribute_begun body_fault attribute_tokens priorities autostarts
  priority_given e =
      let d : m ≡ close_sort → ⊥ = λ h. omega arith in
      let r = ih PriorityEquals k true a (rw (ne_eqb m close_sort d, eq-eqb m priority_sort e)) E q in
      attribute {k = k} {p = p} {a = a} {q = true} {b = a} {E = E} {w = mark m} {ws = ws} r (priority r.value)
      (ap (λ (z : ℕ). mark z ∷ mark equals_sort ∷ number r.value ∷ mark semicolon_sort ∷ []) e)
      (λ al g. record {
        of_resource = λ h. absurd (body d h);
        of_body = λ h. let l = g.of_body h in
            record {
              one_priority = new d p refl (priorities al) l.one_priority;
              few_autostarts = l.few_autostarts;
              of_task = l.of_task;
            };
      })
    where
      new : (m ≡ close_sort → ⊥) → (z : Bool) → p ≡ z → (n : ℕ) → n + 1 ≡ 1 → suc n + once p ≡ 1
      new d true h n l =
          absurd (let g : ◌≡◌ {A = ℕ} 63 0 = rw (ne_eqb m close_sort d, eq-eqb m priority_sort e, h) at (body_fault_lem d) in
          omega arith)
      new d false h n l = rw h (omega arith)

  use_given : m ≡ resource_sort → Attributes k p a E (mark m ∷ ws)
  unfolding attribute_begun attribute_tokens priorities autostarts
  use_given e =
      let d : m ≡ close_sort → ⊥ = λ h. omega arith in
      let n : m ≡ priority_sort → ⊥ = λ h. omega arith in
      let r = ih UseEquals k p a (rw (ne_eqb m close_sort d, ne_eqb m priority_sort n, eq-eqb m resource_sort e)) E q in
      attribute {k = k} {p = p} {a = a} {q = p} {b = a} {E = E} {w = mark m} {ws = ws} r (uses r.value)
      (ap (λ (z : ℕ). mark z ∷ mark equals_sort ∷ name r.value ∷ mark semicolon_sort ∷ []) e)
      (λ al g. record {
        of_resource = λ h. absurd (body d h);
        of_body =
            λ h. let l = g.of_body h in record {
              one_priority = l.one_priority;
              few_autostarts = l.few_autostarts;
              of_task = l.of_task;
            };
      })

  autostart_given : (m ≡ close_sort → ⊥) → (m ≡ priority_sort → ⊥) → (m ≡ resource_sort → ⊥)
      → Attributes k p a E (mark m ∷ ws)
  unfolding attribute_begun body_fault attribute_tokens priorities autostarts
  autostart_given d n u =
      by_test (eqb m autostart_sort && eqb k task_sort)
      (λ e. by_test (eqb m autostart_sort)
      (λ h.
      let t : k ≡ task_sort = eqb-true k task_sort (rw h at e) in
      let r = ih AutostartEquals k p true (rw (ne_eqb m close_sort d, ne_eqb m priority_sort n, ne_eqb m resource_sort u))
      E q in
      attribute {k = k} {p = p} {a = a} {q = p} {b = true} {E = E} {w = mark m} {ws = ws} r (autostart r.value)
      (ap (λ (z : ℕ). mark z ∷ mark equals_sort ∷ bool_token r.value ∷ mark semicolon_sort ∷ [])
      (eqb-true m autostart_sort h))
      (λ al g. record {
        of_resource = λ z. absurd (body d z);
        of_body = λ z. let l = g.of_body z in
            record {
              one_priority = l.one_priority;
              few_autostarts = new e a refl (autostarts al) l.few_autostarts;
              of_task = λ y. absurd (y t);
            };
      }))
      (λ h. absurd (false_true (rw h at e))))
      (λ e. absurd (unknown_some m
      (rw (ne_eqb m close_sort d, ne_eqb m priority_sort n, ne_eqb m resource_sort u, e) at (body_fault_lem d))))
    where
      new : (eqb m autostart_sort && eqb k task_sort) ≡ true → (z : Bool) → a ≡ z → (i : ℕ) → i + 1 ≤ 1
          → suc i + once a ≤ 1
      new e true h i l =
          absurd (let g : ◌≡◌ {A = ℕ} 63 0 =
          rw (ne_eqb m close_sort d, ne_eqb m priority_sort n, ne_eqb m resource_sort u, e, h) at (body_fault_lem d) in
          omega arith)
      new e false h i l = rw h (omega arith)

  mark_attribute : Attributes k p a E (mark m ∷ ws)
  mark_attribute =
      by_eq m close_sort closed
      (λ d. by_eq m priority_sort priority_given (λ n. by_eq m resource_sort use_given (autostart_given d n)))

-- one token
step : (v : Want) (k : ℕ) (p a : Bool) {w : W.Token} → Proper w → (ws : List W.Token) (seen : List ℕ → Bool)
    → fault_at v (at v k p a) (sort_of w) ≡ 0 → (names_at v && seen (bytes_of w)) ≡ false
    → Further (after_at v (at v k p a) (sort_of w)) (cond (names_at v) (λ x. seen x || same (bytes_of w) x) seen) ws
    → (E : List (List ℕ)) → Sees seen E → Rest v k p a E (w ∷ ws)
unfolding fault_at after_at sort_of only unexpected object_fault attribute_fault body_fault value_fault unknown attribute_begun
    names_at
step Object k p a (proper_mark {m = m} lo hi) ws seen f b ih E q =
    object m lo (object_mark m hi f) (ih Name m false false refl E q)
step Object k p a proper_name ws seen f b ih E q = absurd (omega arith)
step Object k p a proper_number ws seen f b ih E q = absurd (omega arith)
step Name k p a (proper_mark {m = m} lo hi) ws seen f b ih E q = absurd (let e = only_that name_sort m f in omega arith)
step Name k p a (proper_name {x = x}) ws seen f b ih E q =
    let r = ih Open k p a refl (x ∷ E) (sees_name seen E x q) in
    record {
      called = x;
      rest = r.rest;
      is = ap (λ (l : List W.Token). name x ∷ l) r.is;
      new = sym (q x) ∙ b;
      follows = r.follows;
    }
step Name k p a proper_number ws seen f b ih E q = absurd (omega arith)
step Open k p a (proper_mark {m = m} lo hi) ws seen f b ih E q =
    record {
      value = tt;
      rest = ws;
      is = ap (λ (n : ℕ). mark n ∷ ws) (only_that open_sort m f);
      follows = ih Attribute k p a refl E q;
    }
step Open k p a proper_name ws seen f b ih E q = absurd (omega arith)
step Open k p a proper_number ws seen f b ih E q = absurd (omega arith)
step Attribute k p a (proper_mark {m = m} lo hi) ws seen f b ih E q = mark_attribute k p a m lo hi ws seen f ih E q
step Attribute k p a proper_name ws seen f b ih E q =
    absurd (by_test (is_resource k) (λ e. let h : ◌≡◌ {A = ℕ} 62 0 = rw e at f in omega arith)
    (λ e. let h : ◌≡◌ {A = ℕ} 62 0 = rw e at f in omega arith))
step Attribute k p a proper_number ws seen f b ih E q =
    absurd (by_test (is_resource k) (λ e. let h : ◌≡◌ {A = ℕ} 61 0 = rw e at f in omega arith)
    (λ e. let h : ◌≡◌ {A = ℕ} 61 0 = rw e at f in omega arith))
step PriorityEquals k p a (proper_mark {m = m} lo hi) ws seen f b ih E q =
    let r = ih PriorityNumber k p a refl E q in
    before r r.value
    (ap (λ (n : ℕ). mark n ∷ number r.value ∷ mark semicolon_sort ∷ []) (only_that equals_sort m f))
step PriorityEquals k p a proper_name ws seen f b ih E q = absurd (omega arith)
step PriorityEquals k p a proper_number ws seen f b ih E q = absurd (omega arith)
step PriorityNumber k p a (proper_mark {m = m} lo hi) ws seen f b ih E q =
    absurd (let e = only_that number_sort m f in omega arith)
step PriorityNumber k p a proper_name ws seen f b ih E q = absurd (omega arith)
step PriorityNumber k p a (proper_number {n = n}) ws seen f b ih E q = before (ih AttributeEnd k p a refl E q) n refl
step AutostartEquals k p a (proper_mark {m = m} lo hi) ws seen f b ih E q =
    let r = ih AutostartValue k p a refl E q in
    before r r.value
    (ap (λ (n : ℕ). mark n ∷ bool_token r.value ∷ mark semicolon_sort ∷ []) (only_that equals_sort m f))
step AutostartEquals k p a proper_name ws seen f b ih E q = absurd (omega arith)
step AutostartEquals k p a proper_number ws seen f b ih E q = absurd (omega arith)
step AutostartValue k p a (proper_mark {m = m} lo hi) ws seen f b ih E q =
    let v = value_mark m f in
    before (ih AttributeEnd k p a refl E q) v.0 (ap (λ (n : ℕ). mark n ∷ mark semicolon_sort ∷ []) v.1)
step AutostartValue k p a proper_name ws seen f b ih E q = absurd (omega arith)
step AutostartValue k p a proper_number ws seen f b ih E q = absurd (omega arith)
step UseEquals k p a (proper_mark {m = m} lo hi) ws seen f b ih E q =
    let r = ih Use k p a refl E q in
    before r r.value (ap (λ (n : ℕ). mark n ∷ name r.value ∷ mark semicolon_sort ∷ []) (only_that equals_sort m f))
step UseEquals k p a proper_name ws seen f b ih E q = absurd (omega arith)
step UseEquals k p a proper_number ws seen f b ih E q = absurd (omega arith)
step Use k p a (proper_mark {m = m} lo hi) ws seen f b ih E q = absurd (let e = only_that name_sort m f in omega arith)
step Use k p a (proper_name {x = x}) ws seen f b ih E q = before (ih AttributeEnd k p a refl E q) x refl
step Use k p a proper_number ws seen f b ih E q = absurd (omega arith)
step AttributeEnd k p a (proper_mark {m = m} lo hi) ws seen f b ih E q =
    record {
      value = tt;
      rest = ws;
      is = ap (λ (n : ℕ). mark n ∷ ws) (only_that semicolon_sort m f);
      follows = ih Attribute k p a refl E q;
    }
step AttributeEnd k p a proper_name ws seen f b ih E q = absurd (omega arith)
step AttributeEnd k p a proper_number ws seen f b ih E q = absurd (omega arith)
step ObjectEnd k p a (proper_mark {m = m} lo hi) ws seen f b ih E q =
    record {
      value = tt;
      rest = ws;
      is = ap (λ (n : ℕ). mark n ∷ ws) (only_that semicolon_sort m f);
      follows = ih Object k p a refl E q;
    }
step ObjectEnd k p a proper_name ws seen f b ih E q = absurd (omega arith)
step ObjectEnd k p a proper_number ws seen f b ih E q = absurd (omega arith)

-- the end
last : (v : Want) (k : ℕ) (p a : Bool) (E : List (List ℕ)) → fault_at v (at v k p a) end_sort ≡ 0 → Rest v k p a E []
unfolding fault_at only unexpected object_fault attribute_fault body_fault value_fault unknown written
last Object k p a E f = record { objects = []; is = refl; fit = fit_nil; new = fresh_nil }
last Name k p a E f = absurd (omega arith)
last Open k p a E f = absurd (omega arith)
last Attribute k p a E f =
    absurd (by_test (is_resource k) (λ e. let h : ◌≡◌ {A = ℕ} 61 0 = rw e at f in omega arith)
    (λ e. let h : ◌≡◌ {A = ℕ} 61 0 = rw e at f in omega arith))
last PriorityEquals k p a E f = absurd (omega arith)
last PriorityNumber k p a E f = absurd (omega arith)
last AutostartEquals k p a E f = absurd (omega arith)
last AutostartValue k p a E f = absurd (omega arith)
last UseEquals k p a E f = absurd (omega arith)
last Use k p a E f = absurd (omega arith)
last AttributeEnd k p a E f = absurd (omega arith)
last ObjectEnd k p a E f = absurd (omega arith)

back : {s : Progress} {seen : List ℕ → Bool} {ws : List W.Token} → Accepts s seen ws → Further s seen ws
back (stops {s = s} f) v k p a e E q = last v k p a E (rw e at f)
back (goes {s = s} {seen = seen} {w = w} {ws = ws} pr f b r) v k p a e E q =
    step v k p a pr ws seen (rw e at f) (rw e at b) (λ v' k' p' a' e' E' q'. back r v' k' p' a' (rw e e') E' (rw e q'))
    E q

-- from the start
pub as_objects : {ws : List W.Token} → Accepts fresh (λ x. false) ws → AsObjects [] ws
unfolding among_names
as_objects acc = back acc Object 0 false false refl [] (λ x. refl)
