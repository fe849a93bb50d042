-- The reading of a text that is OIL of objects, and the objects of a text that is read.
use Prim.Native.Nat.{ℕ, zero, suc}
use mathlib.Core.Path.{◌≡◌, refl, sym, ap, ◌∙◌}
use mathlib.Core.Bool.{true, false}
use mathlib.Core.List.{List, [], ◌∷◌}
use mathlib.Core.Logic.{◌≢◌, ◌↔◌, ⊎_elim}
use native.Mathlib.Omega.{arith}
use lib.ListN.{length}
use borrow.Author.Tests.{eq-eqb, ne_eqb}
use Rattle.number.specs.Refusal.{none}
use Rattle.number.proofs.Cases.{by_test, by_eq}
use Rattle.config.specs.declared.Config.{Config}
use Rattle.config.specs.Writer.{first_fault}
use Rattle.config.proofs.Theorems as Config
use Rattle.oil_grammar.specs.Object as O
use Rattle.oil_grammar.specs.Object.{written, resources, object_uses, among_names}
use Rattle.oil_grammar.specs.Records.{Progress}
use Rattle.oil_grammar.specs.Records.{OilRead}
use Rattle.oil_grammar.specs.Refusal.{no_resource}
use Rattle.oil_grammar.specs.Text.{Spells}
use Rattle.oil_grammar.specs.Next.{next_token}
use Rattle.oil_grammar.specs.Grammar.{AllFit, Fresh, Oil, Borne, Describes}
use Rattle.oil_grammar.specs.Meaning.{users_of, attributed_all, begun, ended, empty, config_of, placed}
use Rattle.oil_grammar.specs.Automaton.{after, fresh}
use Rattle.oil_grammar.specs.Walk.{borne, found, unborne_at, unborne, mask}
use Rattle.oil_grammar.specs.Reader.{walked, filled, ranged, read_oil}
use Rattle.oil_grammar.proofs.Lexing.{Reads, reads_spells, spells_reads}
use Rattle.oil_grammar.proofs.Accepting.{Accepts, AcceptedTokens, none_seen, walked_accepts, accepts_walked, reads_few}
use Rattle.oil_grammar.proofs.Objects.{objects_accepted}
use Rattle.oil_grammar.proofs.Recognition.{AsObjects, as_objects}
use Rattle.oil_grammar.proofs.Folds.{borne_resources, mask_tokens, fill_tokens, unborne_none, none_unborne, resources_written, uses_written, mask_written, fill_written}

-- functions of a name that agree at each give the same configuration
placed_same : (u v : List ℕ → ℕ) → ((x : List ℕ) → u x ≡ v x) → (os : List O.Object) (c : Config)
    → placed u c os ≡ placed v c os
unfolding placed begun
placed_same u v h [] c = refl
placed_same u v h (o ∷ os) c =
    let b : begun u c o ≡ begun v c o = rw (h o.called) in
    ap (λ (d : Config). placed u (ended o.kind (attributed_all d o.attributes)) os) b
    ∙ placed_same u v h os (ended o.kind (attributed_all (begun v c o) o.attributes))

module _ (t : List ℕ) (os : List O.Object) (r : Reads t 0 (written os)) (acc : Accepts fresh (none_seen t) (written os))
  where
    -- the walks over the text's tokens are those over the objects
    counted : walked t ≡ found (length (written os))
    counted = accepts_walked t (suc (length t)) r acc (let h = reads_few t r (omega arith) in omega arith)

    bears : (x : List ℕ) → borne (length (written os)) t 0 fresh true x ≡ among_names x (resources os)
    bears x = borne_resources t r fresh (none_seen t) acc x ∙ ap (among_names x) (resources_written os 0 false false)

    users : (x : List ℕ) → mask (length (written os)) t 0 fresh x 0 0 ≡ users_of x os
    users x = mask_tokens t r fresh (none_seen t) acc x 0 0 ∙ mask_written os x 0 0 0 false false

    filled_config : filled t (length (written os)) ≡ config_of os
    unfolding config_of
    filled_config =
        fill_tokens t r fresh (none_seen t) acc (λ x. mask (length (written os)) t 0 fresh x 0 0) empty
        ∙ fill_written os (λ x. mask (length (written os)) t 0 fresh x 0 0) empty 0 false false
        ∙ placed_same (λ x. mask (length (written os)) t 0 fresh x 0 0) (λ x. users_of x os) users os empty

    uses_borne : (unborne (length (written os)) t 0 fresh (length (written os))).refusal ≡ none
        → Borne (resources os) (object_uses os)
    uses_borne e =
        rw (uses_written os 0 false false) at
        (unborne_none t (length (written os)) (resources os) bears r fresh (none_seen t) acc e)

    borne_uses : Borne (resources os) (object_uses os) → unborne (length (written os)) t 0 fresh (length (written os))
        ≡ found (length (written os))
    borne_uses b =
        none_unborne t (length (written os)) (resources os) bears r fresh (none_seen t) acc
        (rw (uses_written os 0 false false) b)

none_among : (x : List ℕ) → false ≡ among_names x []
unfolding among_names
none_among x = refl

-- a text that is OIL of objects is read as their configuration, or refused by its ranges
pub oil_read : (t : List ℕ) (os : List O.Object) → Oil t os → read_oil t ≡ ranged (config_of os)
unfolding read_oil
oil_read t os o =
    let r = spells_reads t o.spells 0 (omega arith) refl in
    let acc = objects_accepted (none_seen t) [] os o.fits o.fresh none_among 0 false false in
    rw (counted t os r acc) (rw (borne_uses t os r acc o.borne) (ap ranged (filled_config t os r acc)))

-- the objects of a text whose tokens and uses are in order
module _ (t : List ℕ) (e : (walked t).refusal ≡ none) where
  pub acc : AcceptedTokens t 0 fresh (none_seen t) 0 (walked t).tokens
  acc = walked_accepts t (suc (length t)) e

  pub objs : AsObjects [] acc.tokens
  objs = as_objects acc.accepts

  -- with the tokens written as those of the objects
  same_tokens : acc.tokens ≡ written objs.objects
  same_tokens = objs.is

  read : Reads t 0 (written objs.objects)
  read = rw same_tokens at acc.read

  accepts : Accepts fresh (none_seen t) (written objs.objects)
  accepts = rw same_tokens at acc.accepts

  count : (walked t).tokens ≡ length (written objs.objects)
  count = let z = acc.count in let k : (walked t).tokens ≡ length acc.tokens = omega arith in k ∙ ap length same_tokens

  walked_oil : (unborne (walked t).tokens t 0 fresh (walked t).tokens).refusal ≡ none → Oil t objs.objects
  walked_oil u =
      record {
        spells = reads_spells t read (omega arith);
        fits = objs.fit;
        fresh = objs.new;
        borne = uses_borne t objs.objects read accepts (rw count at u);
      }

-- which step refused
pub read_described : (t : List ℕ) → (read_oil t).refusal ≡ none → Describes t (read_oil t).config
unfolding read_oil
read_described t z =
    by_eq (walked t).refusal none
    (λ e.
    let n = (walked t).tokens in
    by_eq (unborne (walked t).tokens t 0 fresh (walked t).tokens).refusal none
    (λ u.
    let w = eq-eqb (walked t).refusal none e in
    let v = eq-eqb (unborne (walked t).tokens t 0 fresh (walked t).tokens).refusal none u in
    let c : filled t (walked t).tokens ≡ config_of (objs t e).objects =
    ap (filled t) (count t e) ∙ filled_config t (objs t e).objects (read t e) (accepts t e) in
    by_eq (first_fault (filled t (walked t).tokens)) none
    (λ f. rw (w, v, eq-eqb (first_fault (filled t (walked t).tokens)) none f)
    (record { objects = (objs t e).objects; oil = walked_oil t e u; meant = c; in_range = f }))
    (λ d. absurd (d (rw (w, v, ne_eqb (first_fault (filled t (walked t).tokens)) none d) at z))))
    (λ d. absurd (d (rw (
      eq-eqb (walked t).refusal none e,
      ne_eqb (unborne (walked t).tokens t 0 fresh (walked t).tokens).refusal none d,
    ) at z))))
    (λ d. absurd (d (rw (ne_eqb (walked t).refusal none d) at z)))

-- a use without its RESOURCE is refused with 64
unborne_refusal : (k : ℕ) (t : List ℕ) (at : ℕ) (s : Progress) (n : ℕ) → (unborne k t at s n).refusal ≢ none
    → (unborne k t at s n).refusal ≡ no_resource
unfolding unborne
unborne_refusal zero t at s n d = absurd (d refl)
unborne_refusal (suc k) t at s n d =
    let w = next_token t at in
    by_test (unborne_at t s n w)
    (λ e. rw e)
    (λ e. rw e (unborne_refusal k t w.end (after s w.sort) n (rw e at d)))

-- and nothing else is: of objects that are OIL but for their uses
pub no_resource_exactly : (t : List ℕ) (os : List O.Object) → Spells t (written os) → AllFit os → Fresh [] os
    → ((read_oil t).refusal ≡ no_resource) ↔ (Borne (resources os) (object_uses os) → ⊥)
unfolding read_oil
no_resource_exactly t os sp fi fr = (
  (λ e b. let o : Oil t os = record { spells = sp; fits = fi; fresh = fr; borne = b } in
      unranged (config_of os) (sym (ap (λ (x : OilRead). x.refusal) (oil_read t os o)) ∙ e)),
  λ n. let d = unborne_refusal k t 0 fresh k (λ z. n (uses_borne t os r acc z)) in
      rw (counted t os r acc) (rw (ne_eqb (unborne k t 0 fresh k).refusal none (λ z. omega arith)) d),
)
  where
    r : Reads t 0 (written os)
    r = spells_reads t sp 0 (omega arith) refl

    acc : Accepts fresh (none_seen t) (written os)
    acc = objects_accepted (none_seen t) [] os fi fr none_among 0 false false

    k : ℕ
    k = length (written os)

    -- no range is refused with 64
    unranged : (c : Config) → (ranged c).refusal ≢ no_resource
    unranged c e =
        by_eq (first_fault c) none
        (λ z. let y : ◌≡◌ {A = ℕ} none no_resource = rw (eq-eqb (first_fault c) none z) at e in omega arith)
        (λ z. let y : first_fault c ≡ no_resource = rw (ne_eqb (first_fault c) none z) at e in
        ⊎_elim (λ h. omega arith) (⊎_elim (λ h. omega arith) (λ h. omega arith)) (Config.writer_refusals c z))
