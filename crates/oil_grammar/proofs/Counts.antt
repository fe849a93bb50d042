-- Texts with as many bodies and resources as a configuration holds, and with one more: accepted, and refused with 4 at
-- line 0, column 0.
--
--   version_one            the configuration of objects has version 1
--   tokens_from k t at     up to k tokens of t from a place on, and whether its end comes after them
--   oil_of                 a text is OIL of objects where its tokens are theirs and they pass the tests
--   bodies n, resources n  the texts: n ISRs, and a task that uses n resources
--
-- The checker computes tokens and objects, and `oil_read` gives the reading: computed whole, its walks look every name
-- up again and take far longer.
use Prim.Native.Nat.{ℕ, zero, suc, ◌+◌, ◌/◌, ◌%◌}
use mathlib.Core.Path.{◌≡◌, refl, ap, ◌∙◌}
use mathlib.Core.Bool.{Bool, true, false, cond}
use mathlib.Core.List.{List, [], ◌∷◌, ◌++◌}
use native.Mathlib.Omega.{arith}
use lib.Dec.{leb, eqb}
use borrow.Author.Tests.{eqb-true}
use Rattle.number.proofs.Cases.{by_test}
use Rattle.word.specs.Word.{has, with}
use Rattle.config.specs.declared.Config.{Config}
use Rattle.config.specs.Among.{among}
use Rattle.config.specs.Draft.{timed_in, fault_at, put_at, asked_at, ended as numbers_ended}
use Rattle.config.specs.Writer.{fault_from}
use Rattle.oil_grammar.specs.Records.{OilRead}
use Rattle.oil_grammar.specs.Byte.{is_space, is_digit, is_letter, is_name_byte, is_line_byte, span}
use Rattle.oil_grammar.specs.Token as W
use Rattle.oil_grammar.specs.Token.{same, spelled_sort, sign_of, decimal, task_sort, isr_sort, resource_sort, end_sort}
use Rattle.oil_grammar.specs.Object as O
use Rattle.oil_grammar.specs.Object.{Object, Attribute, priority, autostart, uses, is_resource, attribute_tokens, attributes_tokens, object_tokens, written, priorities, autostarts, Fits, task, isr, resource, among_names, attribute_uses, object_uses}
use Rattle.oil_grammar.specs.Meaning.{empty, users_of, users_with, users_from, attributed, attributed_all, begun, ended, placed, config_of}
use Rattle.oil_grammar.specs.Grammar.{AllFit, fit_nil, fit_cons, Fresh, fresh_nil, fresh_cons, Borne, borne_nil, borne_cons, Oil}
use Rattle.oil_grammar.specs.Next.{closing, comment, blank, blanks, token_at, next_token, token_of_bytes, token_in}
use Rattle.oil_grammar.specs.Reader.{read_oil, ranged}
use Rattle.oil_grammar.proofs.Ascii.{ascii}
use Rattle.oil_grammar.proofs.Spelling.{false_true}
use Rattle.oil_grammar.proofs.Lexing.{Reads, ended as stops, reads, reads_spells}
use Rattle.oil_grammar.proofs.Whole.{oil_read}

-- the version of a configuration is not an object's to change
placed_version : (u : List ℕ → ℕ) (os : List Object) (c : Config) → (placed u c os).version ≡ c.version
unfolding placed begun ended attributed_all attributed
placed_version u [] c = refl
placed_version u (o ∷ os) c =
    placed_version u os (ended o.kind (attributed_all (begun u c o) o.attributes))
    ∙ ended_version o.kind (attributed_all (begun u c o) o.attributes) ∙ attributes_version o.attributes
    (begun u c o) ∙ begun_version c o
  where
    ended_version : (k : ℕ) (d : Config) → (ended k d).version ≡ d.version
    ended_version k d = by_test (is_resource k) (λ e. rw e refl) (λ e. rw e refl)

    begun_version : (d : Config) (o : Object) → (begun u d o).version ≡ d.version
    begun_version d o = by_test (is_resource o.kind) (λ e. rw e refl) (λ e. rw e refl)

    attributes_version : (al : List Attribute) (d : Config) → (attributed_all d al).version ≡ d.version
    attributes_version [] d = refl
    attributes_version (priority v ∷ al) d = attributes_version al (attributed d (priority v))
    attributes_version (autostart b ∷ al) d = attributes_version al (attributed d (autostart b))
    attributes_version (uses x ∷ al) d = attributes_version al d

pub version_one : (os : List Object) → (config_of os).version ≡ 1
unfolding config_of
version_one os = placed_version (λ x. users_of x os) os empty

unfoldable tokens_from : ℕ → List ℕ → ℕ → Bool × List W.Token
tokens_from zero t at = (false, [])
tokens_from (suc k) t at =
    let w = next_token t at in
    let rest = tokens_from k t w.end in
    cond (leb end_sort w.sort) (eqb w.sort end_sort, []) (rest.0, token_in t w ∷ rest.1)

tokens_read : (t : List ℕ) (k at : ℕ) → (tokens_from k t at).0 ≡ true → Reads t at (tokens_from k t at).1
unfolding tokens_from
tokens_read t zero at e = absurd (false_true e)
tokens_read t (suc k) at e =
    by_test (leb end_sort (next_token t at).sort)
    (λ f. rw f (stops (eqb-true (next_token t at).sort end_sort (rw f at e))))
    (λ f. rw f (reads f (tokens_read t k (next_token t at).end (rw f at e))))

-- no object has the name of an earlier one, as a test
unfoldable new : List (List ℕ) → List Object → Bool
new earlier [] = true
new earlier (o ∷ os) = cond (among_names o.called earlier) false (new (o.called ∷ earlier) os)

is_fresh : (earlier : List (List ℕ)) (os : List Object) → new earlier os ≡ true → Fresh earlier os
unfolding new
is_fresh earlier [] e = fresh_nil
is_fresh earlier (o ∷ os) e =
    by_test (among_names o.called earlier)
    (λ f. absurd (false_true (rw f at e)))
    (λ f. fresh_cons f (is_fresh (o.called ∷ earlier) os (rw f at e)))

-- each of the names is one of the others, as a test
unfoldable all_among : List (List ℕ) → List (List ℕ) → Bool
all_among rs [] = true
all_among rs (x ∷ xs) = cond (among_names x rs) (all_among rs xs) false

is_borne : (rs xs : List (List ℕ)) → all_among rs xs ≡ true → Borne rs xs
unfolding all_among
is_borne rs [] e = borne_nil
is_borne rs (x ∷ xs) e =
    by_test (among_names x rs)
    (λ f. borne_cons f (is_borne rs xs (rw f at e)))
    (λ f. absurd (false_true (rw f at e)))

oil_of : (t : List ℕ) (os : List Object) (k : ℕ) → tokens_from k t 0 ≡ (true, written os) → AllFit os → new [] os ≡ true
    → all_among (O.resources os) (object_uses os) ≡ true → Oil t os
oil_of t os k w f n b =
    record {
      spells =
          reads_spells t (rw (ap (λ (r : Bool × List W.Token). r.1) w) at
          (tokens_read t k 0 (ap (λ (r : Bool × List W.Token). r.0) w))) (omega arith);
      fits = f;
      fresh = is_fresh [] os n;
      borne = is_borne (O.resources os) (object_uses os) b;
    }

-- a number below 100, in two digits
unfoldable pub digits : ℕ → List ℕ
digits i = (48 + i / 10) ∷ (48 + i % 10) ∷ []

-- `ISR b07{PRIORITY=07;};`, from n down to 1
unfoldable pub bodies : ℕ → List ℕ
bodies zero = []
bodies (suc i) =
    ascii "ISR b" ++ (digits (suc i) ++ (ascii "{PRIORITY=" ++ (digits (suc i) ++ (ascii ";};" ++ bodies i))))

unfoldable isrs : ℕ → List Object
isrs zero = []
isrs (suc i) = record { kind = isr_sort; called = 98 ∷ digits (suc i); attributes = priority (suc i) ∷ [] } ∷ isrs i

isrs_fit : (n : ℕ) → AllFit (isrs n)
unfolding isrs priorities autostarts
isrs_fit zero = fit_nil
isrs_fit (suc i) = fit_cons (isr refl refl) (isrs_fit i)

-- `RESOURCE=r07;` and `RESOURCE r07{};`, from n down to 1
unfoldable pub attributes : ℕ → List ℕ
attributes zero = []
attributes (suc i) = ascii "RESOURCE=r" ++ (digits (suc i) ++ (ascii ";" ++ attributes i))

unfoldable pub objects : ℕ → List ℕ
objects zero = []
objects (suc i) = ascii "RESOURCE r" ++ (digits (suc i) ++ (ascii "{};" ++ objects i))

-- a task that uses n resources
unfoldable pub resources : ℕ → List ℕ
resources n = ascii "TASK t{PRIORITY=1;" ++ (attributes n ++ (ascii "};" ++ objects n))

unfoldable uses_of : ℕ → List Attribute
uses_of zero = []
uses_of (suc i) = uses (114 ∷ digits (suc i)) ∷ uses_of i

unfoldable used : ℕ → List Object
used zero = []
used (suc i) = record { kind = resource_sort; called = 114 ∷ digits (suc i); attributes = [] } ∷ used i

unfoldable task_and_used : ℕ → List Object
task_and_used n = record { kind = task_sort; called = 116 ∷ []; attributes = priority 1 ∷ uses_of n } ∷ used n

used_fit : (n : ℕ) → AllFit (used n)
unfolding used
used_fit zero = fit_nil
used_fit (suc i) = fit_cons resource (used_fit i)

-- the refusal of a text, its line and its column; it unfolds what the checker computes
pub answer : OilRead → List ℕ
unfolding digits bodies isrs attributes objects resources uses_of used task_and_used new all_among tokens_from priorities
    autostarts ascii is_space is_digit is_letter is_name_byte is_line_byte span same spelled_sort sign_of decimal closing comment
    blank blanks token_at next_token token_of_bytes attribute_tokens attributes_tokens object_tokens written among_names attribute_uses
    object_uses O.resources has with users_with users_from attributed attributed_all begun ended placed config_of among
    timed_in fault_at put_at asked_at numbers_ended fault_from
answer r = r.refusal ∷ r.line ∷ r.column ∷ []

-- 32 bodies are accepted, and 33 are too many
pub bodies_limit : (answer (read_oil (bodies 32)) ≡ 0 ∷ 0 ∷ 0 ∷ []) × (answer (read_oil (bodies 33)) ≡ 4 ∷ 0 ∷ 0 ∷ [])
unfolding answer
bodies_limit = (ap answer (read 32 refl refl refl) ∙ refl, ap answer (read 33 refl refl refl) ∙ refl)
  where
    read : (n : ℕ) → tokens_from 300 (bodies n) 0 ≡ (true, written (isrs n)) → new [] (isrs n) ≡ true
        → all_among (O.resources (isrs n)) (object_uses (isrs n)) ≡ true → read_oil (bodies n) ≡ ranged (config_of (isrs n))
    read n w f b = oil_read (bodies n) (isrs n) (oil_of (bodies n) (isrs n) 300 w (isrs_fit n) f b)

-- 16 resources are accepted, and 17 are too many
pub resources_limit : (answer (read_oil (resources 16)) ≡ 0 ∷ 0 ∷ 0 ∷ [])
    × (answer (read_oil (resources 17)) ≡ 4 ∷ 0 ∷ 0 ∷ [])
unfolding answer
resources_limit = (
  ap answer (read 16 refl (task refl (omega arith)) refl refl)
      ∙ refl,
  ap answer (read 17 refl (task refl (omega arith)) refl refl) ∙ refl,
)
  where
    read : (n : ℕ) → tokens_from 300 (resources n) 0 ≡ (true, written (task_and_used n))
        → Fits (record { kind = task_sort; called = 116 ∷ []; attributes = priority 1 ∷ uses_of n })
        → new [] (task_and_used n) ≡ true → all_among (O.resources (task_and_used n)) (object_uses (task_and_used n)) ≡ true
        → read_oil (resources n) ≡ ranged (config_of (task_and_used n))
    read n w t f b =
        oil_read (resources n) (task_and_used n)
        (oil_of (resources n) (task_and_used n) 300 w (fit_cons t (used_fit n)) f b)
