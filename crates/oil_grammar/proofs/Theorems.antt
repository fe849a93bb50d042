-- What the crate shows: the reading and the grammar accept the same texts, with the same configurations; which word
-- decides a refusal; and which object is which body and resource. Each law stands here in full, over specs/ alone; the
-- modules it cites prove it.
use Prim.Native.Nat.{ℕ, ◌+◌, ◌*◌, ◌-◌, ◌≤◌, ◌<◌}
use mathlib.Core.Path.{◌≡◌, refl, sym, ap, ◌∙◌}
use mathlib.Core.List.{List, [], ◌∷◌, ◌++◌}
use mathlib.Core.Logic.{◌↔◌, ◌≢◌}
use native.Mathlib.Omega.{arith}
use borrow.Author.Tests.{eq-eqb, ne_eqb}
use lib.ListN.{length, get_or, take}
use Rattle.number.specs.Refusal.{none}
use Rattle.config.specs.declared.Config.{Config}
use Rattle.config.specs.Value.{no_config, with_resources}
use Rattle.config.specs.Writer.{first_fault}
use Rattle.config.proofs.Theorems as Config
use Rattle.word.specs.Word.{has}
use Rattle.oil_grammar.specs.Records.{OilRead}
use Rattle.oil_grammar.specs.Refusal.{no_resource}
use Rattle.oil_grammar.specs.Byte.{slash}
use Rattle.oil_grammar.specs.Text.{Spells}
use Rattle.oil_grammar.specs.Token.{decimal}
use Rattle.oil_grammar.specs.Object.{Object, among_names, attribute_uses, object_uses, resources, written}
use Rattle.oil_grammar.specs.Meaning.{config_of}
use Rattle.oil_grammar.specs.Numbering.{bodies, declared, nth, BodyMeant}
use Rattle.oil_grammar.specs.Grammar.{AllFit, Fresh, Borne, Oil, Describes}
use Rattle.oil_grammar.specs.Reader.{ranged, walked, decisive, read_oil}
use Rattle.oil_grammar.proofs.Numbering as Numbering
use Rattle.oil_grammar.proofs.Whole as Whole
use Rattle.oil_grammar.proofs.FirstFault as FirstFault
use Rattle.oil_grammar.proofs.Counts.{version_one}

abbrev accepted : Config → OilRead
accepted c = record { config = c; refusal = none; line = 0; column = 0 }

-- refused by the ranges
abbrev unranged : ℕ → OilRead
unranged r = record { config = no_config; refusal = r; line = 0; column = 0 }

-- a text that is OIL of objects is read as their configuration, unless its ranges refuse it
pub oil_read : (t : List ℕ) (os : List Object) → Oil t os → read_oil t ≡ ranged (config_of os)
oil_read = Whole.oil_read

-- whatever the grammar relates to a configuration is read as that one
pub described_read : (t : List ℕ) (c : Config) → Describes t c → read_oil t ≡ accepted c
described_read t c d =
    let e : first_fault (config_of d.objects) ≡ none = rw d.meant at d.in_range in
    oil_read t d.objects d.oil ∙ rw (eq-eqb (first_fault (config_of d.objects)) none e)
    (ap accepted (sym d.meant))

-- whatever is accepted is related by the grammar to what it is read as
pub read_described : (t : List ℕ) → (read_oil t).refusal ≡ none → Describes t (read_oil t).config
read_described = Whole.read_described

-- "The accepted grammar .. accepts exactly the same texts"
pub accepted_exactly : (t : List ℕ) (c : Config) → Describes t c ↔ (read_oil t ≡ accepted c)
accepted_exactly t c = (
  described_read t c,
  λ e. rw (ap (λ (r : OilRead). r.config) e) at (read_described t (ap (λ (r : OilRead). r.refusal) e)),
)

-- a text describes at most one configuration
pub one_meaning : (t : List ℕ) (b c : Config) → Describes t b → Describes t c → b ≡ c
one_meaning t b c d e = ap (λ (r : OilRead). r.config) (sym (described_read t b d) ∙ described_read t c e)

-- a text is refused exactly if it describes none
pub refused_exactly : (t : List ℕ) → ((read_oil t).refusal ≡ none → ⊥) ↔ ((c : Config) → Describes t c → ⊥)
refused_exactly t = (
  (λ n c d. n (ap (λ (r : OilRead). r.refusal) (described_read t c d))),
  λ f e. f (read_oil t).config
      (read_described t e),
)

-- whatever is accepted has a configuration that the writer takes
pub writer_takes : (t : List ℕ) → (read_oil t).refusal ≡ none → first_fault (read_oil t).config ≡ none
writer_takes t e = (read_described t e).in_range

-- OIL whose fields are out of their ranges gets "4 to 6 in the reader's order, at line 0, column 0"
pub out_of_range : (t : List ℕ) (os : List Object) → Oil t os → (first_fault (config_of os) ≡ none → ⊥)
    → read_oil t ≡ unranged (first_fault (config_of os))
out_of_range t os o d = oil_read t os o ∙ rw (ne_eqb (first_fault (config_of os)) none d)

-- "60 .. 63 .. in reading order": the first word at fault decides. Texts that agree up to the byte after it get the same
-- refusal, line and column. A slash can begin a comment, and the text's end is no word: more bytes can change what is
-- refused there
pub fault_decided : (t u : List ℕ) → (walked t).refusal ≢ none → (walked t).place < length t
    → get_or t (walked t).place 0 ≢ slash → take (decisive t) u ≡ take (decisive t) t → read_oil u ≡ read_oil t
fault_decided = FirstFault.fault_decided

-- "after the whole text 64 .. name no RESOURCE bears": exactly what would be OIL with another RESOURCE
pub no_resource_exactly : (t : List ℕ) (os : List Object) → Spells t (written os) → AllFit os → Fresh [] os
    → ((read_oil t).refusal ≡ no_resource) ↔ (Borne (resources os) (object_uses os) → ⊥)
no_resource_exactly = Whole.no_resource_exactly

counted : (t : List ℕ) (os : List Object) → Oil t os → first_fault (config_of os) ≡ 4 → read_oil t ≡ unranged 4
counted t os o e = out_of_range t os o (λ f. omega arith) ∙ ap unranged e

-- "There are 1 to 32" bodies: with more, a text gets 4
pub too_many_bodies : (t : List ℕ) (os : List Object) → Oil t os → 32 < (config_of os).bodies → read_oil t ≡ unranged 4
too_many_bodies t os o h = counted t os o (Config.too_many_bodies (config_of os) (version_one os) h)

-- "resource count 0 to 16": with more, where the bodies are in order, a text gets 4
pub too_many_resources : (t : List ℕ) (os : List Object) → Oil t os → first_fault (with_resources (config_of os) 0) ≡ none
    → 16 < (config_of os).resources → read_oil t ≡ unranged 4
too_many_resources t os o e h = counted t os o (Config.too_many_resources (config_of os) h e)

-- "Bodies and resources are numbered as they stand": of objects whose attributes are those of their kinds, as many as a
-- configuration holds, body i is the i-th TASK or ISR, with its kind, its PRIORITY where that is at most 200, and
-- autostart exactly if it says AUTOSTART = TRUE
pub bodies_counted : (os : List Object) → AllFit os → length (bodies os) ≤ 255 → (config_of os).bodies ≡ length (bodies os)
bodies_counted = Numbering.bodies_counted

pub body_meant : (os : List Object) → AllFit os → length (bodies os) ≤ 32 → (i : ℕ) → i < length (bodies os)
    → BodyMeant (config_of os) i (nth (bodies os) i)
body_meant = Numbering.body_meant

-- resource r is the r-th RESOURCE, and bit i of its mask is set exactly if body i names it
pub resources_counted : (os : List Object) → AllFit os → length (declared os) ≤ 255
    → (config_of os).resources ≡ length (declared os)
resources_counted = Numbering.resources_counted

pub users_meant : (os : List Object) → AllFit os → length (bodies os) ≤ 32 → length (declared os) ≤ 16 → (r i : ℕ)
    → r < length (declared os) → i < length (bodies os)
    → has (get_or (config_of os).users r 0) i
    ≡ among_names (nth (declared os) r).called (attribute_uses (nth (bodies os) i).attributes)
users_meant os f few_bodies few r i r< i< =
    ap (λ m. has m i) (Numbering.users_meant os f few r r<)
    ∙ Numbering.user_bit (nth (declared os) r).called os f few_bodies i i<

-- "numbers of decimal digits alone (any length, leading zeros too)": each digit counts ten times what the next one does
pub decimal_last : (ds : List ℕ) (n d : ℕ) → decimal n (ds ++ d ∷ []) ≡ 10 * decimal n ds + (d - 48)
unfolding decimal
decimal_last [] n d = refl
decimal_last (e ∷ ds) n d = decimal_last ds (10 * n + (e - 48)) d
