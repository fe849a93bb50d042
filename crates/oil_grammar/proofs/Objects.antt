-- The tokens of objects are in order, and tokens that are in order are those of objects.
use Prim.Native.Nat.{ℕ, ◌+◌, ◌≤◌}
use mathlib.Core.Path.{◌≡◌, refl, ap, ◌∙◌}
use mathlib.Core.Bool.{Bool, true, false, cond, ◌||◌}
use mathlib.Core.List.{List, [], ◌∷◌, ◌++◌, append_assoc}
use native.Mathlib.Omega.{arith}
use borrow.Author.Tests.{eq-eqb, ne_eqb}
use Rattle.number.proofs.Cases.{by_eq}
use Rattle.oil_grammar.specs.Records.{Progress}
use Rattle.oil_grammar.specs.declared.Want.{Want}
use Rattle.oil_grammar.specs.declared.Want.TheVariants.{Object, Attribute, PriorityEquals, AutostartEquals, UseEquals, AttributeEnd, ObjectEnd}
use Rattle.oil_grammar.specs.Token as W
use Rattle.oil_grammar.specs.Token.{mark, name, number, sort_of, same, task_sort, isr_sort, resource_sort, priority_sort, autostart_sort, true_sort, false_sort, open_sort, close_sort, equals_sort, semicolon_sort}
use Rattle.oil_grammar.specs.Object as O
use Rattle.oil_grammar.specs.Object.{priority, autostart, uses, attribute_tokens, attributes_tokens, object_tokens, written, priorities, autostarts, Fits, task, isr, resource, among_names}
use Rattle.oil_grammar.specs.Grammar.{AllFit, fit_nil, fit_cons, Fresh, fresh_nil, fresh_cons}
use Rattle.oil_grammar.specs.Automaton.{fault, fault_at, only, object_fault, body_fault, attribute_fault, value_fault, after, after_at, attribute_begun, names_at, names_object}
use Rattle.oil_grammar.proofs.Accepting.{proper_mark, proper_name, proper_number, Accepts, stops, goes}

-- how far a text has come, by its parts
abbrev pub at : Want → ℕ → Bool → Bool → Progress
at v k p a = record { want = v; kind = k; priority = p; autostart = a }

-- a mark that is in order and no name
marked : (m : ℕ) → 1 ≤ m → m ≤ semicolon_sort → {s : Progress} {seen : List ℕ → Bool} {ws : List W.Token} → fault s m ≡ 0
    → names_object s ≡ false → Accepts (after s m) seen ws → Accepts s seen (mark m ∷ ws)
unfolding sort_of
marked m lo hi {s} {seen} {ws} f n a =
    goes {s = s} {seen = seen} {w = mark m} {ws = ws} (proper_mark lo hi) f (rw n) (rw n a)

-- a flag that is given counts as one
abbrev pub once : Bool → ℕ
once b = cond b 1 0

-- the attributes that a body still has, where these flags are given already
pub record Left (k : ℕ) (p a : Bool) (al : List O.Attribute) : Type 0 where
  pub one_priority : priorities al + once p ≡ 1
  pub few_autostarts : autostarts al + once a ≤ 1
  pub of_task : (k ≡ task_sort → ⊥) → autostarts al ≡ 0

module _ (seen : List ℕ → Bool) (k : ℕ) where
  -- `= 2;`, `= TRUE;`, `= r;`, from the token that begins the attribute on
  module _ (p a : Bool) (ws : List W.Token) (rest : Accepts (at Attribute k p a) seen ws) where
    semicolon : Accepts (at AttributeEnd k p a) seen (mark semicolon_sort ∷ ws)
    unfolding fault_at after_at only names_at
    semicolon = marked semicolon_sort (omega arith) (omega arith) refl refl rest

    number_value : (n : ℕ)
        → Accepts (at PriorityEquals k p a) seen (mark equals_sort ∷ number n ∷ mark semicolon_sort ∷ ws)
    unfolding fault_at after_at only names_at sort_of
    number_value n = marked equals_sort (omega arith) (omega arith) refl refl (goes proper_number refl refl semicolon)

    bool_value : (b : Bool)
        → Accepts (at AutostartEquals k p a) seen
        (mark equals_sort ∷ mark (cond b true_sort false_sort) ∷ mark semicolon_sort ∷ ws)
    unfolding fault_at after_at only value_fault names_at
    bool_value true =
        marked equals_sort (omega arith) (omega arith) refl refl
        (marked true_sort (omega arith) (omega arith) refl refl semicolon)
    bool_value false =
        marked equals_sort (omega arith) (omega arith) refl refl
        (marked false_sort (omega arith) (omega arith) refl refl semicolon)

    name_value : (x : List ℕ) → Accepts (at UseEquals k p a) seen (mark equals_sort ∷ name x ∷ mark semicolon_sort ∷ ws)
    unfolding fault_at after_at only names_at sort_of
    name_value x = marked equals_sort (omega arith) (omega arith) refl refl (goes proper_name refl refl semicolon)

  attributes : (k ≡ resource_sort → ⊥) → (al : List O.Attribute) (p a : Bool) (ws : List W.Token) → Left k p a al
      → ((a : Bool) → Accepts (at ObjectEnd k true a) seen ws)
      → Accepts (at Attribute k p a) seen (attributes_tokens al ++ (mark close_sort ∷ ws))
  unfolding attributes_tokens attribute_tokens priorities autostarts fault_at after_at attribute_fault body_fault attribute_begun
      names_at
  attributes body [] true a ws l rest =
      marked close_sort (omega arith) (omega arith) (rw (ne_eqb k resource_sort body)) refl (rest a)
  attributes body [] false a ws l rest = absurd (let h = l.one_priority in omega arith)
  attributes body (priority n ∷ al) true a ws l rest = absurd (let h = l.one_priority in omega arith)
  attributes body (priority n ∷ al) false a ws l rest =
      marked priority_sort (omega arith) (omega arith) (rw (ne_eqb k resource_sort body)) refl
      (number_value true a (attributes_tokens al ++ (mark close_sort ∷ ws))
      (attributes body al true a ws
      (record {
        one_priority = (let h = l.one_priority in omega arith);
        few_autostarts = l.few_autostarts;
        of_task = l.of_task;
      }) rest) n)
  attributes body (autostart b ∷ al) p true ws l rest = absurd (let h = l.few_autostarts in omega arith)
  attributes body (autostart b ∷ al) p false ws l rest =
      by_eq k task_sort
      (λ e. marked autostart_sort (omega arith) (omega arith) (rw (ne_eqb k resource_sort body, eq-eqb k task_sort e)) refl
      (bool_value p true (attributes_tokens al ++ (mark close_sort ∷ ws))
      (attributes body al p true ws
      (record {
        one_priority = l.one_priority;
        few_autostarts = (let h = l.few_autostarts in omega arith);
        of_task = λ d. absurd (d e);
      }) rest) b))
      (λ d. absurd (let h = l.of_task d in omega arith))
  attributes body (uses x ∷ al) p a ws l rest =
      marked resource_sort (omega arith) (omega arith) (rw (ne_eqb k resource_sort body)) refl
      (name_value p a (attributes_tokens al ++ (mark close_sort ∷ ws))
      (attributes body al p a ws (record {
        one_priority = l.one_priority;
        few_autostarts = l.few_autostarts;
        of_task = l.of_task;
      }) rest) x)

or_comm : (a b : Bool) → (a || b) ≡ (b || a)
or_comm true true = refl
or_comm true false = refl
or_comm false true = refl
or_comm false false = refl

-- the names that are seen are the earlier ones
abbrev pub Sees : (List ℕ → Bool) → List (List ℕ) → Type 0
Sees seen earlier = (x : List ℕ) → seen x ≡ among_names x earlier

pub sees_name : (seen : List ℕ → Bool) (earlier : List (List ℕ)) (x : List ℕ) → Sees seen earlier
    → Sees (λ y. seen y || same x y) (x ∷ earlier)
unfolding among_names
sees_name seen earlier x q y = rw (q y) (or_comm (among_names y earlier) (same x y))

-- `TASK name { .. };` and what follows
module _ (seen : List ℕ → Bool) (x : List ℕ) (new : seen x ≡ false) (k : ℕ) (lo : 1 ≤ k) (hi : k ≤ 3)
    (ws : List W.Token) where
  opening : (p a : Bool) → object_fault k ≡ 0 → Accepts (at Attribute k false false) (λ y. seen y || same x y) ws
      → (k₀ : ℕ) → Accepts (at Object k₀ p a) seen (mark k ∷ name x ∷ mark open_sort ∷ ws)
  unfolding fault_at after_at only names_at sort_of
  opening p a f rest k₀ =
      marked k lo (omega arith) f refl
      (goes proper_name refl new (marked open_sort (omega arith) (omega arith) refl refl rest))

closing : (seen : List ℕ → Bool) (k : ℕ) (p a : Bool) (ws : List W.Token)
    → ((k : ℕ) (p a : Bool) → Accepts (at Object k p a) seen ws)
    → Accepts (at ObjectEnd k p a) seen (mark semicolon_sort ∷ ws)
unfolding fault_at after_at only names_at
closing seen k p a ws rest = marked semicolon_sort (omega arith) (omega arith) refl refl (rest k p a)

-- an object that fits, with its tokens bracketed as the walk meets them
pub object_tokens_lem : (o : O.Object) (os : List O.Object)
    → written (o ∷ os) ≡ mark o.kind ∷ name o.called ∷ mark open_sort ∷ (attributes_tokens o.attributes ++
    (mark close_sort ∷ mark semicolon_sort ∷ written os))
unfolding written object_tokens
object_tokens_lem o os =
    ap (λ (l : List W.Token). mark o.kind ∷ name o.called ∷ mark open_sort ∷ l)
    (append_assoc (attributes_tokens o.attributes) (mark close_sort ∷ mark semicolon_sort ∷ []) (written os))

object_accepted : (seen : List ℕ → Bool) (o : O.Object) (os : List O.Object) → Fits o → seen o.called ≡ false
    → ((k : ℕ) (p a : Bool) → Accepts (at Object k p a) (λ y. seen y || same o.called y) (written os))
    → (k : ℕ) (p a : Bool) → Accepts (at Object k p a) seen (written (o ∷ os))
unfolding object_fault attribute_fault attributes_tokens fault_at after_at attribute_begun names_at
object_accepted seen o os (task {x = x} {rest = al} one few) new rest k p a =
    rw (object_tokens_lem o os)
    (opening seen x new task_sort (omega arith) (omega arith) _ p a refl
    (attributes (λ y. seen y || same x y) task_sort (λ e. omega arith) al false false (mark semicolon_sort ∷ written os)
    (record { one_priority = omega arith; few_autostarts = omega arith; of_task = λ d. absurd (d refl) })
    (λ b. closing (λ y. seen y || same x y) task_sort true b (written os) rest)) k)
object_accepted seen o os (isr {x = x} {rest = al} one zero_of) new rest k p a =
    rw (object_tokens_lem o os)
    (opening seen x new isr_sort (omega arith) (omega arith) _ p a refl
    (attributes (λ y. seen y || same x y) isr_sort (λ e. omega arith) al false false (mark semicolon_sort ∷ written os)
    (record { one_priority = omega arith; few_autostarts = omega arith; of_task = λ d. zero_of })
    (λ b. closing (λ y. seen y || same x y) isr_sort true b (written os) rest)) k)
object_accepted seen o os (resource {x = x}) new rest k p a =
    rw (object_tokens_lem o os)
    (opening seen x new resource_sort (omega arith) (omega arith) _ p a refl
    (marked close_sort (omega arith) (omega arith) refl refl
    (closing (λ y. seen y || same x y) resource_sort false false (written os) rest)) k)

pub objects_accepted : (seen : List ℕ → Bool) (earlier : List (List ℕ)) (os : List O.Object) → AllFit os
    → Fresh earlier os → Sees seen earlier → (k : ℕ) (p a : Bool) → Accepts (at Object k p a) seen (written os)
unfolding written object_fault fault_at
objects_accepted seen earlier [] fit_nil fresh_nil q k p a = stops refl
objects_accepted seen earlier (o ∷ os) (fit_cons f fs) (fresh_cons n ns) q k p a =
    object_accepted seen o os f (q o.called ∙ n)
    (objects_accepted (λ y. seen y || same o.called y) (o.called ∷ earlier) os fs ns
    (sees_name seen earlier o.called q)) k p a
