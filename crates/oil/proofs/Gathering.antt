-- The names that are kept stay those of the class that objects bear: a token more.
use Rattle.std.proofs.Common.{ℕ, ◌+◌, ◌≤◌, ◌<◌, ◌≡◌, Bool, true, false, ◌&&◌, List, [], ◌∷◌, ◌++◌, length, get_or, take, eqb, refl, sym, ap, ◌∙◌, arith, ⊎_elim}
use Rattle.std.specs.List.{list_any, All, Any}
use Rattle.std.specs.Str.{bytes_eq}
use Rattle.std.proofs.lemmas.Bool.{true≢false}
use Rattle.std.proofs.lemmas.List.Folds.{Any-from_list_any, list_any-from_Any}
use Rattle.std.proofs.lemmas.List.Elements.{All-push}
use Rattle.std.proofs.lemmas.List.{length_push, get_or_push}
use Rattle.std.proofs.Math.ListN.{get_or-append}
use Rattle.std.proofs.lemmas.Slice.Eq.{bytes_eq-Decides}
use borrow.Author.Tests.{eq-eqb}
use Rattle.number.proofs.Cases.{and_true, refuted}
use Rattle.oil_grammar.specs.Records.{Progress}
use Rattle.oil_grammar.specs.Automaton.{fresh}
use Rattle.oil_grammar.specs.Walk.{bears, borne}
use Rattle.oil_grammar.proofs.Spelling.{same_refl}
use Rattle.oil.specs.declared.hashing.Class.{Class}
use Rattle.oil.specs.declared.names.Name.{Name}
use Rattle.oil.specs.declared.names.Names.{Names}
use Rattle.oil.specs.Tokens.{progress_after}
use Rattle.oil.specs.Hash.{hashed}
use Rattle.oil.specs.Names.{in_class, spelled, repeated_at, twice_at}
use Rattle.oil.specs.Gathered.{kept, Among, Gathered}
use Rattle.oil.proofs.TokenNumbers.{borne_next, borne_more, borne_last}

pub none_gathered : (n : Names) → n.count ≡ 0 → Gathered n 0
unfolding borne
none_gathered n z =
    let e : length (kept n) ≡ 0 = ap (λ k. length (take k n.room.now)) z in
    record {
      hash = λ k d h. absurd (omega arith);
      known = λ k d h. absurd (omega arith);
      whole = λ h x q b. absurd (true≢false (sym b));
    }

module _ (n : Names) (x : List ℕ) (h : ℕ) where
  -- the name of this hash and these bytes
  abbrev found_here : Name → Bool
  found_here m = eqb m.hash h && bytes_eq m.bytes.now x

  pub among_found : list_any found_here (kept n) ≡ true → Among n x
  among_found e =
      let a = Any-from_list_any found_here (kept n) e in
      let b = and_true (eqb a.1.hash h) (bytes_eq a.1.bytes.now x) a.4 in
      (a.0, a.1, a.2, a.3, (bytes_eq-Decides a.1.bytes.now x).0 b.1)

  pub not_among : All (λ (m : Name). m.hash ≡ hashed n.class.key 0 m.bytes.now) (kept n) → h ≡ hashed n.class.key 0 x
      → list_any found_here (kept n) ≡ false → Among n x → ⊥
  not_among a k e m =
      let l : m.1.hash ≡ h = rw m.3 at (a m.0 m.1 m.2) ∙ ap (hashed n.class.key 0) m.4 ∙ sym k in
      let q : found_here m.1 ≡ true = rw (eq-eqb m.1.hash h l, (bytes_eq-Decides m.1.bytes.now x).1 m.4) in
      true≢false (sym (list_any-from_Any found_here (kept n) (m.0, m.1, m.2, m.3, q)) ∙ e)

module _ {n : Names} {i : ℕ} (g : Gathered n i) where
  pub among_borne : {x : List ℕ} → Among n x → true ≡ borne i n.text.now 0 fresh n.resource x
  among_borne m = sym (rw (ap (λ (y : Name). y.bytes.now) m.3 ∙ m.4) at (g.known m.0 m.1 m.2))

  pub not_borne : n.count < length n.room.now → {x : List ℕ} → in_class n.class x ≡ true → (Among n x → ⊥)
      → borne i n.text.now 0 fresh n.resource x ≡ false
  not_borne l {x} q d = refuted (borne i n.text.now 0 fresh n.resource x) (λ e. d (g.whole l x q e))

  -- a token more that is kept by none of the names
  stays : (n.count < length n.room.now → (x : List ℕ) → in_class n.class x ≡ true → borne (i + 1) n.text.now 0 fresh n.resource x ≡ true
      → borne i n.text.now 0 fresh n.resource x ≡ true) → Gathered n (i + 1)
  stays f =
      record {
        hash = g.hash;
        known = λ k d h. borne_more n.text.now n.resource (get_or (kept n) k d).bytes.now i (g.known k d h);
        whole = λ l x q e. g.whole l x q (f l x q e);
      }

  pub no_name : bears n.resource (progress_after n.text.now i) ≡ false → Gathered n (i + 1)
  no_name e =
      stays
      (λ l x q b. ⊎_elim (λ a. a) (λ a. absurd (true≢false (sym a.0 ∙ e))) (borne_last n.text.now n.resource x i b))

  pub other_class : in_class n.class (spelled n.text.now i) ≡ false → Gathered n (i + 1)
  other_class e =
      stays
      (λ l x q b. ⊎_elim (λ a. a) (λ a. absurd (true≢false (sym q ∙ rw a.1 at e)))
      (borne_last n.text.now n.resource x i b))

  pub known_before : borne i n.text.now 0 fresh n.resource (spelled n.text.now i) ≡ true → Gathered n (i + 1)
  known_before e =
      stays (λ l x q b. ⊎_elim (λ a. a) (λ a. rw a.1 at e) (borne_last n.text.now n.resource x i b))

  pub no_room_left : length n.room.now ≤ n.count → Gathered n (i + 1)
  no_room_left h = stays (λ l. absurd (omega arith))

-- the name m is kept beside those of n
pub record OneMore (n n' : Names) (m : Name) : Type 0 where
  pub text_same : n'.text.now ≡ n.text.now
  pub resource_same : n'.resource ≡ n.resource
  pub class_same : n'.class ≡ n.class
  pub kept_more : kept n' ≡ kept n ++ m ∷ []

module _ {n n' : Names} {i : ℕ} {m : Name} (g : Gathered n i) (o : OneMore n n' m) (some : n.count < length n.room.now)
    (named : bears n.resource (progress_after n.text.now i) ≡ true) (hash_is : m.hash ≡ hashed n.class.key 0 (spelled n.text.now i))
    (bytes_is : m.bytes.now ≡ spelled n.text.now i) where
  -- the token itself is borne
  itself : borne (i + 1) n.text.now 0 fresh n.resource (spelled n.text.now i) ≡ true
  itself = borne_next n.text.now n.resource (spelled n.text.now i) i ∙ rw (named, same_refl (spelled n.text.now i))

  among_more : {x : List ℕ} → in_class n.class x ≡ true → borne (i + 1) n.text.now 0 fresh n.resource x ≡ true
      → Any (λ (y : Name). y.bytes.now ≡ x) (kept n ++ m ∷ [])
  among_more {x} q b =
      ⊎_elim
      (λ a. let f = g.whole some x q a in let l = length_push (kept n) m in
      (f.0, f.1, omega arith, get_or-append (kept n) (m ∷ []) f.1 f.0 f.2 ∙ f.3, f.4))
      (λ a. let l = length_push (kept n) m in
      (length (kept n), m, omega arith, get_or_push (kept n) m m (length (kept n)) refl, bytes_is ∙ a.1))
      (borne_last n.text.now n.resource x i b)

  pub one_more : Gathered n' (i + 1)
  one_more =
      record {
        hash = rw (o.class_same, o.kept_more) (All-push (λ (y : Name). y.hash ≡ hashed n.class.key 0 y.bytes.now) (kept n) m g.hash (hash_is ∙ ap (hashed n.class.key 0) (sym bytes_is)));
        known =
            rw (o.text_same, o.resource_same, o.kept_more)
            (All-push (λ (y : Name). borne (i + 1) n.text.now 0 fresh n.resource y.bytes.now ≡ true) (kept n) m
            (λ k d h. borne_more n.text.now n.resource (get_or (kept n) k d).bytes.now i (g.known k d h))
            (rw bytes_is itself));
        whole = λ l x. rw (o.class_same, o.text_same, o.resource_same, o.kept_more) (λ q b. among_more q b);
      }

-- the class of a token by what its hash says
module _ (t : List ℕ) (r : Bool) (c : Class) (i : ℕ) where
  pub twice_unnamed : bears r (progress_after t i) ≡ false → false ≡ twice_at t r c i
  unfolding twice_at repeated_at
  twice_unnamed e = rw e (sym (and_false (in_class c (spelled t i))))
    where
      and_false : (b : Bool) → (b && false) ≡ false
      and_false true = refl
      and_false false = refl

  pub twice_other : in_class c (spelled t i) ≡ false → false ≡ twice_at t r c i
  unfolding twice_at
  twice_other e = rw e

  -- .. of a name of the class, which is known before or not
  pub twice_is : {s : Progress} {x : List ℕ} → (s ≡ progress_after t i) × (x ≡ spelled t i) → bears r s ≡ true
      → in_class c x ≡ true → {b : Bool} → b ≡ borne i t 0 fresh r x → {d : Bool} → b ≡ d → d ≡ twice_at t r c i
  unfolding twice_at repeated_at
  twice_is p named member e f = rw (← p.0, ← p.1, named, member) (sym f ∙ e)
