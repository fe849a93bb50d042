-- Which object is which body and resource of a text's configuration, and what is said of it: `body_meant`, `users_meant`
-- and `user_bit`, at the end of the file.
--
-- In order: one object's step; a field of the configuration that the objects of a sort fill in their order (`Field`), and
-- what is in it after all of them; kinds, priorities, autostarts and users as such fields; the attributes; the bits.
use Prim.Native.Nat.{ℕ, zero, suc, ◌+◌, ◌≤◌, ◌<◌, min}
use mathlib.Core.Path.{◌≡◌, refl, sym, ap, ◌∙◌}
use mathlib.Core.Bool.{Bool, true, false, cond, ◌||◌, or-true, or-false}
use mathlib.Core.List.{List, [], ◌∷◌, ◌++◌}
use mathlib.Core.Logic.{◌≢◌, ◌⊎◌, inl, inr}
use native.Mathlib.Nat.{add-zero, zero-add}
use native.Mathlib.Omega.{arith}
use borrow.Author.Tests.{not-true, not-false}
use lib.ListN.{length, get_or, set, replicate, length-set, get_or-replicate}
use lib.Seq.{get_or-set_same, get_or-set_other, set-set, set-get_or}
use Rattle.number.proofs.Cases.{by_test}
use Rattle.config.specs.declared.Config.{Config}
use Rattle.config.specs.Value.{with_bodies, with_kind, with_resources, with_users}
use Rattle.word.specs.Word.{has, with}
use Rattle.word.proofs.Theorems as Bits
use Rattle.oil_grammar.specs.Token.{same}
use Rattle.oil_grammar.specs.Object.{Attribute, priority, autostart, uses, Object, priorities, autostarts, Fits, task, isr, resource, among_names, attribute_uses}
use Rattle.oil_grammar.specs.Meaning.{held, counted, kind_of, start_of, users_with, users_from, users_of, attributed, attributed_all, begun, ended, placed, empty, config_of}
use Rattle.oil_grammar.specs.Grammar.{AllFit, fit_cons}
use Rattle.oil_grammar.specs.Numbering.{members, is_declared, is_body, bodies, declared, nth, Says, BodyMeant}
use Rattle.oil_grammar.proofs.Spelling.{false_true}

-- what one object makes of a configuration; u: a resource's users by its name
abbrev step : (List ℕ → ℕ) → Config → Object → Config
step u c o = ended o.kind (attributed_all (begun u c o) o.attributes)

-- a field that the objects of which p holds fill, at the place that `count` says
record Field (u : List ℕ → ℕ) (p : Object → Bool) (count : Config → ℕ) (get : Config → List ℕ)
    (value : ℕ → Object → ℕ) : Type 0 where
  count_in : (c : Config) (o : Object) → Fits o → p o ≡ true → count (step u c o) ≡ counted (count c)
  count_out : (c : Config) (o : Object) → Fits o → p o ≡ false → count (step u c o) ≡ count c
  get_in : (c : Config) (o : Object) → Fits o → p o ≡ true → count c < length (get c)
      → get (step u c o) ≡ set (get c) (count c) (value (get_or (get c) (count c) 0) o)
  get_out : (c : Config) (o : Object) → Fits o → p o ≡ false → get (step u c o) ≡ get c

module _ {u : List ℕ → ℕ} {p : Object → Bool} {count : Config → ℕ} {get : Config → List ℕ} {value : ℕ → Object → ℕ}
    (F : Field u p count get value) where
  -- how many there are
  count_placed : (os : List Object) (c : Config) → AllFit os → count c + length (members p os) ≤ 255
      → count (placed u c os) ≡ count c + length (members p os)
  unfolding placed members
  count_placed [] c f few = omega arith
  count_placed (o ∷ os) c (fit_cons g f) few =
      by_test (p o)
      (λ e.
      let more : count (step u c o) ≡ counted (count c) = F.count_in c o g e in
      let room : count c + suc (length (members p os)) ≤ 255 = rw e at few in
      let rest = count_placed os (step u c o) f (omega arith) in
      rw e (omega arith))
      (λ e.
      let kept : count (step u c o) ≡ count c = F.count_out c o g e in
      let room : count c + length (members p os) ≤ 255 = rw e at few in
      let rest = count_placed os (step u c o) f (omega arith) in
      rw e (omega arith))

  -- what was there before the first place stays, and the i-th object's is its own
  record Filled (c : Config) (os : List Object) : Type 0 where
    before : (j : ℕ) → j < count c → get_or (get (placed u c os)) j 0 ≡ get_or (get c) j 0
    own : (i : ℕ) → i < length (members p os)
        → get_or (get (placed u c os)) (count c + i) 0 ≡ value (get_or (get c) (count c + i) 0) (nth (members p os) i)

  filled : (os : List Object) (c : Config) → AllFit os → count c + length (members p os) ≤ 255
      → count c + length (members p os) ≤ length (get c)
      → Filled c os
  unfolding placed members
  filled [] c f few room = record { before = λ j h. refl; own = λ i h. absurd (omega arith) }
  filled (o ∷ os) c (fit_cons g f) few room =
      by_test (p o)
      (λ e.
      let more : count (step u c o) ≡ counted (count c) = F.count_in c o g e in
      let few' : count c + suc (length (members p os)) ≤ 255 = rw e at few in
      let room' : count c + suc (length (members p os)) ≤ length (get c) = rw e at room in
      let now = F.get_in c o g e (omega arith) in
      let same_length : length (get (step u c o)) ≡ length (get c) = ap length now ∙ length-set (get c) (count c) _ in
      let rest = filled os (step u c o) f (omega arith) (omega arith) in
      taken e (count c) refl now (omega arith) (omega arith) rest.before rest.own)
      (λ e.
      let kept : count (step u c o) ≡ count c = F.count_out c o g e in
      let few' : count c + length (members p os) ≤ 255 = rw e at few in
      let room' : count c + length (members p os) ≤ length (get c) = rw e at room in
      let now = F.get_out c o g e in
      let same_length : length (get (step u c o)) ≡ length (get c) = ap length now in
      let rest = filled os (step u c o) f (omega arith) (omega arith) in
      passed e kept now rest.before rest.own)
    where
      passed : p o ≡ false → count (step u c o) ≡ count c → get (step u c o) ≡ get c
          → ((j : ℕ) → j < count (step u c o) → get_or (get (placed u (step u c o) os)) j 0 ≡ get_or (get (step u c o)) j 0)
          → ((i : ℕ) → i < length (members p os)
          → get_or (get (placed u (step u c o) os)) (count (step u c o) + i) 0
          ≡ value (get_or (get (step u c o)) (count (step u c o) + i) 0) (nth (members p os) i))
          → Filled c (o ∷ os)
      passed e kept now before own =
          record {
            before = λ j h. before j (omega arith) ∙ ap (λ l. get_or l j 0) now;
            own = λ i h. rw e (rw (kept, now) at (own i (rw e at h)));
          }

      taken : p o ≡ true → (n : ℕ) → n ≡ count c → get (step u c o) ≡ set (get c) (count c) (value (get_or (get c) (count c) 0) o)
          → count (step u c o) ≡ suc n → n < length (get c)
          → ((j : ℕ) → j < count (step u c o) → get_or (get (placed u (step u c o) os)) j 0 ≡ get_or (get (step u c o)) j 0)
          → ((i : ℕ) → i < length (members p os)
          → get_or (get (placed u (step u c o) os)) (count (step u c o) + i) 0
          ≡ value (get_or (get (step u c o)) (count (step u c o) + i) 0) (nth (members p os) i))
          → Filled c (o ∷ os)
      taken e n is now more inside before own =
          record {
            before = λ j h.
                before j (omega arith) ∙ ap (λ l. get_or l j 0) now
                ∙ get_or-set_other (get c) (count c) j _ 0 (λ q. absurd (omega arith));
            own = λ i h. rw e (at_place i (rw e at h));
          }
        where
          at_place : (i : ℕ) → i < suc (length (members p os))
              → get_or (get (placed u (step u c o) os)) (count c + i) 0
              ≡ value (get_or (get c) (count c + i) 0) (nth (o ∷ members p os) i)
          at_place zero h =
              rw (add-zero (count c))
              (before (count c) (omega arith) ∙ ap (λ l. get_or l (count c) 0) now
              ∙ get_or-set_same (get c) (count c) _ 0 (omega arith))
          at_place (suc i) h =
              let there : count c + suc i ≡ count (step u c o) + i = omega arith in
              rw there
              (own i (omega arith)
              ∙ ap (λ x. value x (nth (members p os) i))
              (ap (λ l. get_or l (count (step u c o) + i) 0) now
              ∙ get_or-set_other (get c) (count c) (count (step u c o) + i) _ 0 (λ q. absurd (omega arith))))

-- what an attribute list makes of a value
priority_from : ℕ → List Attribute → ℕ
priority_from v [] = v
priority_from v (priority w ∷ rest) = priority_from (held w) rest
priority_from v (autostart b ∷ rest) = priority_from v rest
priority_from v (uses x ∷ rest) = priority_from v rest

autostart_from : ℕ → List Attribute → ℕ
autostart_from v [] = v
autostart_from v (priority w ∷ rest) = autostart_from v rest
autostart_from v (autostart b ∷ rest) = autostart_from (start_of b) rest
autostart_from v (uses x ∷ rest) = autostart_from v rest

-- attributes keep counts, kinds and users
record Kept (c d : Config) : Type 0 where
  bodies_kept : d.bodies ≡ c.bodies
  resources_kept : d.resources ≡ c.resources
  kinds_kept : d.kind ≡ c.kind
  users_kept : d.users ≡ c.users

attributes_kept : (al : List Attribute) (c : Config) → Kept c (attributed_all c al)
unfolding attributed_all attributed
attributes_kept [] c = record { bodies_kept = refl; resources_kept = refl; kinds_kept = refl; users_kept = refl }
attributes_kept (priority v ∷ al) c = again (attributes_kept al (attributed c (priority v)))
  where
    again : {d : Config} → Kept (attributed c (priority v)) d → Kept c d
    again k =
        record {
          bodies_kept = k.bodies_kept;
          resources_kept = k.resources_kept;
          kinds_kept = k.kinds_kept;
          users_kept = k.users_kept;
        }
attributes_kept (autostart b ∷ al) c = again (attributes_kept al (attributed c (autostart b)))
  where
    again : {d : Config} → Kept (attributed c (autostart b)) d → Kept c d
    again k =
        record {
          bodies_kept = k.bodies_kept;
          resources_kept = k.resources_kept;
          kinds_kept = k.kinds_kept;
          users_kept = k.users_kept;
        }
attributes_kept (uses x ∷ al) c = attributes_kept al c

priorities_set : (al : List Attribute) (c : Config) → c.bodies < length c.priority
    → (attributed_all c al).priority
    ≡ set c.priority c.bodies (priority_from (get_or c.priority c.bodies 0) al)
unfolding attributed_all attributed priority_from
priorities_set [] c h = sym (set-get_or c.priority c.bodies 0)
priorities_set (priority v ∷ al) c h =
    priorities_set al (attributed c (priority v)) (rw (length-set c.priority c.bodies (held v)) h)
    ∙ set-set c.priority c.bodies (held v) _
    ∙ ap (λ x. set c.priority c.bodies (priority_from x al)) (get_or-set_same c.priority c.bodies (held v) 0 h)
priorities_set (autostart b ∷ al) c h = priorities_set al (attributed c (autostart b)) h
priorities_set (uses x ∷ al) c h = priorities_set al c h

autostarts_set : (al : List Attribute) (c : Config) → c.bodies < length c.autostart
    → (attributed_all c al).autostart
    ≡ set c.autostart c.bodies (autostart_from (get_or c.autostart c.bodies 0) al)
unfolding attributed_all attributed autostart_from
autostarts_set [] c h = sym (set-get_or c.autostart c.bodies 0)
autostarts_set (priority v ∷ al) c h = autostarts_set al (attributed c (priority v)) h
autostarts_set (autostart b ∷ al) c h =
    autostarts_set al (attributed c (autostart b)) (rw (length-set c.autostart c.bodies (start_of b)) h)
    ∙ set-set c.autostart c.bodies (start_of b) _
    ∙ ap (λ x. set c.autostart c.bodies (autostart_from x al))
    (get_or-set_same c.autostart c.bodies (start_of b) 0 h)
autostarts_set (uses x ∷ al) c h = autostarts_set al c h

resource_bare : (o : Object) → Fits o → is_declared o ≡ true → o.attributes ≡ []
resource_bare o (task p a) e = absurd (false_true e)
resource_bare o (isr p a) e = absurd (false_true e)
resource_bare o resource e = refl

module _ (u : List ℕ → ℕ) (c : Config) (o : Object) where
  -- a body's attributes are of the configuration with its kind
  abbrev kinded : Config
  kinded = with_kind c c.bodies (kind_of o.kind)

  step_body : is_declared o ≡ false
      → step u c o
      ≡ with_bodies (attributed_all kinded o.attributes) (counted (attributed_all kinded o.attributes).bodies)
  unfolding begun ended
  step_body e = rw e

  step_resource : is_declared o ≡ true → o.attributes ≡ []
      → step u c o ≡ with_resources (with_users c c.resources (u o.called)) (counted c.resources)
  unfolding begun ended attributed_all
  step_resource e bare = rw (e, bare)

  kept_body : Kept kinded (attributed_all kinded o.attributes)
  kept_body = attributes_kept o.attributes kinded

module _ (u : List ℕ → ℕ) where
  body_count_in : (c : Config) (o : Object) → Fits o → is_body o ≡ true → (step u c o).bodies ≡ counted c.bodies
  body_count_in c o g e =
      ap (λ (d : Config). d.bodies) (step_body u c o (not-true (is_declared o) e))
      ∙ ap counted (kept_body u c o).bodies_kept

  body_count_out : (c : Config) (o : Object) → Fits o → is_body o ≡ false → (step u c o).bodies ≡ c.bodies
  body_count_out c o g e =
      let is = not-false (is_declared o) e in
      ap (λ (d : Config). d.bodies) (step_resource u c o is (resource_bare o g is))

  kinds : Field u is_body (λ c. c.bodies) (λ c. c.kind) (λ v o. kind_of o.kind)
  kinds =
      record {
        count_in = body_count_in;
        count_out = body_count_out;
        get_in = λ c o g e h.
            ap (λ (d : Config). d.kind) (step_body u c o (not-true (is_declared o) e)) ∙ (kept_body u c o).kinds_kept;
        get_out = λ c o g e.
            let is = not-false (is_declared o) e in
            ap (λ (d : Config). d.kind) (step_resource u c o is (resource_bare o g is));
      }

  priorities_field : Field u is_body (λ c. c.bodies) (λ c. c.priority) (λ v o. priority_from v o.attributes)
  priorities_field =
      record {
        count_in = body_count_in;
        count_out = body_count_out;
        get_in = λ c o g e h.
            ap (λ (d : Config). d.priority) (step_body u c o (not-true (is_declared o) e))
            ∙ priorities_set o.attributes (kinded u c o) h;
        get_out = λ c o g e.
            let is = not-false (is_declared o) e in
            ap (λ (d : Config). d.priority) (step_resource u c o is (resource_bare o g is));
      }

  autostarts_field : Field u is_body (λ c. c.bodies) (λ c. c.autostart) (λ v o. autostart_from v o.attributes)
  autostarts_field =
      record {
        count_in = body_count_in;
        count_out = body_count_out;
        get_in = λ c o g e h.
            ap (λ (d : Config). d.autostart) (step_body u c o (not-true (is_declared o) e))
            ∙ autostarts_set o.attributes (kinded u c o) h;
        get_out = λ c o g e.
            let is = not-false (is_declared o) e in
            ap (λ (d : Config). d.autostart) (step_resource u c o is (resource_bare o g is));
      }

  users_field : Field u is_declared (λ c. c.resources) (λ c. c.users) (λ v o. u o.called)
  users_field =
      record {
        count_in = λ c o g e.
            ap (λ (d : Config). d.resources) (step_resource u c o e (resource_bare o g e));
        count_out = λ c o g e. ap (λ (d : Config). d.resources) (step_body u c o e) ∙ (kept_body u c o).resources_kept;
        get_in = λ c o g e h. ap (λ (d : Config). d.users) (step_resource u c o e (resource_bare o g e));
        get_out = λ c o g e. ap (λ (d : Config). d.users) (step_body u c o e) ∙ (kept_body u c o).users_kept;
      }

-- the attributes of one object
module _ where
  priorities_append : (xs ys : List Attribute) → priorities (xs ++ ys) ≡ priorities xs + priorities ys
  unfolding priorities
  priorities_append [] ys = sym (zero-add (priorities ys))
  priorities_append (priority v ∷ xs) ys = ap suc (priorities_append xs ys) ∙ omega arith
  priorities_append (autostart b ∷ xs) ys = priorities_append xs ys
  priorities_append (uses x ∷ xs) ys = priorities_append xs ys

  autostarts_append : (xs ys : List Attribute) → autostarts (xs ++ ys) ≡ autostarts xs + autostarts ys
  unfolding autostarts
  autostarts_append [] ys = sym (zero-add (autostarts ys))
  autostarts_append (priority v ∷ xs) ys = autostarts_append xs ys
  autostarts_append (autostart b ∷ xs) ys = ap suc (autostarts_append xs ys) ∙ omega arith
  autostarts_append (uses x ∷ xs) ys = autostarts_append xs ys

  priority_none : (v : ℕ) (al : List Attribute) → priorities al ≡ 0 → priority_from v al ≡ v
  unfolding priorities priority_from
  priority_none v [] e = refl
  priority_none v (priority w ∷ al) e = absurd (omega arith)
  priority_none v (autostart b ∷ al) e = priority_none v al e
  priority_none v (uses x ∷ al) e = priority_none v al e

  autostart_none : (v : ℕ) (al : List Attribute) → autostarts al ≡ 0 → autostart_from v al ≡ v
  unfolding autostarts autostart_from
  autostart_none v [] e = refl
  autostart_none v (priority w ∷ al) e = autostart_none v al e
  autostart_none v (autostart b ∷ al) e = absurd (omega arith)
  autostart_none v (uses x ∷ al) e = autostart_none v al e

  priority_past : (v w : ℕ) (xs ys : List Attribute) → priority_from v (xs ++ priority w ∷ ys) ≡ priority_from (held w) ys
  unfolding priority_from
  priority_past v w [] ys = refl
  priority_past v w (priority z ∷ xs) ys = priority_past (held z) w xs ys
  priority_past v w (autostart b ∷ xs) ys = priority_past v w xs ys
  priority_past v w (uses x ∷ xs) ys = priority_past v w xs ys

  autostart_past : (v : ℕ) (b : Bool) (xs ys : List Attribute)
      → autostart_from v (xs ++ autostart b ∷ ys) ≡ autostart_from (start_of b) ys
  unfolding autostart_from
  autostart_past v b [] ys = refl
  autostart_past v b (priority z ∷ xs) ys = autostart_past v b xs ys
  autostart_past v b (autostart a ∷ xs) ys = autostart_past (start_of a) b xs ys
  autostart_past v b (uses x ∷ xs) ys = autostart_past v b xs ys

-- AUTOSTART = TRUE stands in the list
abbrev SaysTrue : List Attribute → Type 0
SaysTrue al = (before : List Attribute) × (rest : List Attribute) × (al ≡ before ++ autostart true ∷ rest)

says_later : {P : Type 0} (a : Attribute) {al : List Attribute} → P ⊎ SaysTrue al → P ⊎ SaysTrue (a ∷ al)
says_later a (inl p) = inl p
says_later a (inr (xs, ys, q)) = inr (a ∷ xs, ys, ap (λ l. a ∷ l) q)

-- a 1 comes from TRUE alone
autostart_found : (v : ℕ) (al : List Attribute) → autostart_from v al ≡ 1 → (v ≡ 1) ⊎ SaysTrue al
unfolding autostart_from
autostart_found v [] e = inl e
autostart_found v (priority w ∷ al) e = says_later (priority w) (autostart_found v al e)
autostart_found v (autostart true ∷ al) e = inr ([], al, refl)
autostart_found v (autostart false ∷ al) e = says_later (autostart false) (not_zero (autostart_found 0 al e))
  where
    not_zero : (◌≡◌ {A = ℕ} 0 1) ⊎ SaysTrue al → (v ≡ 1) ⊎ SaysTrue al
    not_zero (inl q) = absurd (omega arith)
    not_zero (inr q) = inr q
autostart_found v (uses x ∷ al) e = says_later (uses x) (autostart_found v al e)

-- a body has one PRIORITY, and AUTOSTART once at most
one_priority : (o : Object) → Fits o → is_declared o ≡ false → priorities o.attributes ≡ 1
one_priority o (task p a) e = p
one_priority o (isr p a) e = p
one_priority o resource e = absurd (false_true (sym e))

few_autostarts : (o : Object) → Fits o → autostarts o.attributes ≤ 1
unfolding autostarts
few_autostarts o (task p a) = a
few_autostarts o (isr p a) = omega arith
few_autostarts o resource = omega arith

-- the i-th of the bodies is one of the objects
nth_fits : (p : Object → Bool) (os : List Object) → AllFit os → (i : ℕ) → i < length (members p os)
    → Fits (nth (members p os) i) × (p (nth (members p os) i) ≡ true)
unfolding members
nth_fits p [] f i h = absurd (omega arith)
nth_fits p (o ∷ os) (fit_cons g f) i h =
    by_test (p o)
    (λ e. rw e (here i e (rw e at h) (nth_fits p os f)))
    (λ e. rw e (nth_fits p os f i (rw e at h)))
  where
    here : (i : ℕ) → p o ≡ true → i < suc (length (members p os))
        → ((i : ℕ) → i < length (members p os) → Fits (nth (members p os) i) × (p (nth (members p os) i) ≡ true))
        → Fits (nth (o ∷ members p os) i) × (p (nth (o ∷ members p os) i) ≡ true)
    here zero e h rest = (g, e)
    here (suc i) e h rest = rest i (omega arith)

module _ (os : List Object) (f : AllFit os) where
  users : List ℕ → ℕ
  users x = users_of x os

  pub bodies_counted : length (bodies os) ≤ 255 → (config_of os).bodies ≡ length (bodies os)
  unfolding config_of users
  bodies_counted few = count_placed (kinds users) os empty f (omega arith) ∙ zero-add (length (bodies os))

  pub resources_counted : length (declared os) ≤ 255 → (config_of os).resources ≡ length (declared os)
  unfolding config_of users
  resources_counted few = count_placed (users_field users) os empty f (omega arith) ∙ zero-add (length (declared os))

  module _ (few : length (bodies os) ≤ 32) (i : ℕ) (there : i < length (bodies os)) where
    it : Object
    it = nth (bodies os) i

    kind_at : get_or (config_of os).kind i 0 ≡ kind_of it.kind
    unfolding config_of users it
    kind_at = rw (zero-add i) at ((filled (kinds users) os empty f (omega arith) (omega arith)).own i there)

    priority_at_lem : get_or (config_of os).priority i 0 ≡ priority_from (get_or (replicate 32 0) i 0) it.attributes
    unfolding config_of users it
    priority_at_lem = rw (zero-add i) at ((filled (priorities_field users) os empty f (omega arith) (omega arith)).own i there)

    autostart_at : get_or (config_of os).autostart i 0 ≡ autostart_from (get_or (replicate 32 0) i 0) it.attributes
    unfolding config_of users it
    autostart_at = rw (zero-add i) at ((filled (autostarts_field users) os empty f (omega arith) (omega arith)).own i there)

    fits_it : Fits it
    unfolding it
    fits_it = (nth_fits is_body os f i there).0

    is_body_lem : is_declared it ≡ false
    unfolding it
    is_body_lem = not-true (is_declared (nth (bodies os) i)) (nth_fits is_body os f i there).1

    -- its one PRIORITY, as a byte holds it
    priority_said : (v : ℕ) → Says (priority v) it → get_or (config_of os).priority i 0 ≡ held v
    unfolding priorities
    priority_said v (xs, ys, q) =
        let one : priorities it.attributes ≡ 1 = one_priority it fits_it is_body_lem in
        let sum : priorities (xs ++ priority v ∷ ys) ≡ priorities xs + suc (priorities ys) =
        priorities_append xs (priority v ∷ ys) in
        let same_list : priorities it.attributes ≡ priorities (xs ++ priority v ∷ ys) = ap priorities q in
        priority_at_lem ∙ ap (priority_from (get_or (replicate 32 0) i 0)) q
        ∙ priority_past (get_or (replicate 32 0) i 0) v xs ys
        ∙ priority_none (held v) ys (omega arith)

    autostart_said : Says (autostart true) it → get_or (config_of os).autostart i 0 ≡ 1
    unfolding autostarts
    autostart_said (xs, ys, q) =
        let few_said : autostarts it.attributes ≤ 1 = few_autostarts it fits_it in
        let sum : autostarts (xs ++ autostart true ∷ ys) ≡ autostarts xs + suc (autostarts ys) =
        autostarts_append xs (autostart true ∷ ys) in
        let same_list : autostarts it.attributes ≡ autostarts (xs ++ autostart true ∷ ys) = ap autostarts q in
        autostart_at ∙ ap (autostart_from (get_or (replicate 32 0) i 0)) q
        ∙ autostart_past (get_or (replicate 32 0) i 0) true xs ys
        ∙ autostart_none 1 ys (omega arith)

    said_autostart : get_or (config_of os).autostart i 0 ≡ 1 → Says (autostart true) it
    said_autostart e = go (autostart_found (get_or (replicate 32 0) i 0) it.attributes (sym autostart_at ∙ e))
      where
        go : (◌≡◌ {A = ℕ} (get_or (replicate 32 0) i 0) 1) ⊎ SaysTrue it.attributes → Says (autostart true) it
        go (inl q) = absurd (omega (arith, get_or-replicate {A = ℕ} 32 i 0 0 (omega arith)))
        go (inr q) = q

    pub body_meant : BodyMeant (config_of os) i (nth (bodies os) i)
    unfolding it
    body_meant =
        record {
          kind_task = λ e. kind_at ∙ ap kind_of e;
          kind_isr = λ e. kind_at ∙ ap kind_of e;
          priority_is = λ v says small. priority_said v says ∙ in_byte v small;
          autostart_is = (said_autostart, autostart_said);
        }
      where
        in_byte : (v : ℕ) → v ≤ 200 → min v 255 ≡ v
        in_byte v h = omega arith

  -- the r-th RESOURCE has the users of its name
  pub users_meant : length (declared os) ≤ 16 → (r : ℕ) → r < length (declared os)
      → get_or (config_of os).users r 0 ≡ users_of (nth (declared os) r).called os
  unfolding config_of users
  users_meant few r there =
      rw (zero-add r) at ((filled (users_field users) os empty f (omega arith) (omega arith)).own r there)

-- the bits of a resource's users
module _ (x : List ℕ) where
  with_same : (n : ℕ) → n < 32 → (al : List Attribute) (m : ℕ)
      → has (users_with x n m al) n ≡ has m n || among_names x (attribute_uses al)
  unfolding users_with attribute_uses among_names
  with_same n h [] m = sym (or-false (has m n))
  with_same n h (priority v ∷ al) m = with_same n h al m
  with_same n h (autostart b ∷ al) m = with_same n h al m
  with_same n h (uses y ∷ al) m =
      with_same n h al (cond (same y x) (with m n) m)
      ∙ by_test (same y x)
      (λ e. rw e (ap (λ b. b || among_names x (attribute_uses al)) (Bits.has_with_same m n h) ∙ sym (or-true (has m n))))
      (λ e. rw e)

  with_other : (n j : ℕ) → j ≢ n → (al : List Attribute) (m : ℕ) → has (users_with x n m al) j ≡ has m j
  unfolding users_with
  with_other n j d [] m = refl
  with_other n j d (priority v ∷ al) m = with_other n j d al m
  with_other n j d (autostart b ∷ al) m = with_other n j d al m
  with_other n j d (uses y ∷ al) m =
      with_other n j d al (cond (same y x) (with m n) m)
      ∙ by_test (same y x)
      (λ e. rw e (Bits.has_with_other m n j d))
      (λ e. rw e)

  -- the bit of the i-th body from the number n on
  record Told (os : List Object) (n m : ℕ) : Type 0 where
    before : (j : ℕ) → j < n → has (users_from x n m os) j ≡ has m j
    own : (i : ℕ) → i < length (bodies os)
        → has (users_from x n m os) (n + i)
        ≡ has m (n + i) || among_names x (attribute_uses (nth (bodies os) i).attributes)

  told : (os : List Object) → AllFit os → (n m : ℕ) → n + length (bodies os) ≤ 32 → Told os n m
  unfolding users_from users_with members
  told [] f n m few = record { before = λ j h. refl; own = λ i h. absurd (omega arith) }
  told (o ∷ os) (fit_cons g f) n m few =
      by_test (is_declared o)
      (λ e.
      let bare : users_with x n m o.attributes ≡ m = none_used (resource_bare o g e) in
      let rest = told os f n m (rw e at few) in
      record {
        before = λ j h. rw (e, bare) (rest.before j h);
        own = λ i h. rw (e, bare) (rest.own i (rw e at h));
      })
      (λ e.
      let room : n + suc (length (bodies os)) ≤ 32 = rw e at few in
      let next : counted n ≡ suc n = omega arith in
      let rest = told os f (suc n) (users_with x n m o.attributes) (omega arith) in
      record {
        before = λ j h. rw (e, next) (earlier rest j h);
        own = λ i h. rw (e, next) (placed_bit (omega arith) rest i (rw e at h));
      })
    where
      none_used : o.attributes ≡ [] → users_with x n m o.attributes ≡ m
      none_used q = ap (users_with x n m) q ∙ nothing
        where
          nothing : users_with x n m [] ≡ m
          nothing = refl

      earlier : Told os (suc n) (users_with x n m o.attributes) → (j : ℕ) → j < n
          → has (users_from x (suc n) (users_with x n m o.attributes) os) j ≡ has m j
      earlier rest j h =
          rest.before j (omega arith) ∙ with_other n j (λ q. absurd (omega arith)) o.attributes m

      placed_bit : n < 32 → Told os (suc n) (users_with x n m o.attributes) → (i : ℕ)
          → i < suc (length (bodies os))
          → has (users_from x (suc n) (users_with x n m o.attributes) os) (n + i)
          ≡ has m (n + i) || among_names x (attribute_uses (nth (o ∷ bodies os) i).attributes)
      placed_bit low rest zero h =
          rw (add-zero n) (rest.before n (omega arith) ∙ with_same n low o.attributes m)
      placed_bit low rest (suc i) h =
          let later : n + suc i ≡ suc n + i = omega arith in
          rw later
          (rest.own i (omega arith)
          ∙ ap (λ b. b || among_names x (attribute_uses (nth (bodies os) i).attributes))
          (with_other n (suc n + i) (λ q. absurd (omega arith)) o.attributes m))

  -- the i-th body is a user exactly if it names the resource
  pub user_bit : (os : List Object) → AllFit os → length (bodies os) ≤ 32 → (i : ℕ) → i < length (bodies os)
      → has (users_of x os) i ≡ among_names x (attribute_uses (nth (bodies os) i).attributes)
  user_bit os f few i there =
      rw (zero-add i) at ((told os f 0 0 (omega arith)).own i there)
      ∙ ap (λ b. b || among_names x (attribute_uses (nth (bodies os) i).attributes)) (Bits.empty i)
