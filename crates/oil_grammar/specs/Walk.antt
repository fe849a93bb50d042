-- The walks over a text's tokens, each from a place on and over at most k tokens.
--
--   borne k t at s r x   one of the tokens is x as an object's name; with r, as a RESOURCE's
--   walk k t at s n      the first refusal of 60 to 63, or how many tokens the text has; n tokens stand before
--   unborne k t at s n   the first use that no RESOURCE among the first n tokens bears
--   mask k t at s x b m  the users of the resource x, added to the mask m; b is the number of the next body
--   fill k t at s u c    the configuration c with what the tokens say; u gives a resource's users by its name
--
-- As many tokens as there are bytes, and the end, are enough.
use Rattle.std.specs.Prelude.{ℕ, zero, suc, Bool, true, false, cond, not, ◌&&◌, List, eqb}
use Rattle.number.specs.Refusal.{none}
use Rattle.word.specs.Word.{with}
use Rattle.config.specs.declared.Config.{Config}
use Rattle.config.specs.Value.{with_kind, with_priority, with_autostart, with_users}
use Rattle.oil_grammar.specs.Records.{Token}
use Rattle.oil_grammar.specs.Records.{Progress}
use Rattle.oil_grammar.specs.Records.{Found}
use Rattle.oil_grammar.specs.declared.Want.{Want}
use Rattle.oil_grammar.specs.declared.Want.TheVariants.{Object, Name, Open, Attribute, PriorityEquals, PriorityNumber, AutostartEquals, AutostartValue, UseEquals, Use, AttributeEnd, ObjectEnd}
use Rattle.oil_grammar.specs.Refusal.{unexpected_token, given_twice, no_resource}
use Rattle.oil_grammar.specs.Token.{same, true_sort, end_sort, decimal}
use Rattle.oil_grammar.specs.Object.{is_resource}
use Rattle.oil_grammar.specs.Meaning.{held, number_after, kind_of, start_of, ended}
use Rattle.oil_grammar.specs.Next.{next_token, spelling}
use Rattle.oil_grammar.specs.Automaton.{fault, after, fresh, names_object, names_resource, uses_resource}

-- a name is wanted that an object, or a RESOURCE, will bear
unfoldable pub bears : Bool → Progress → Bool
bears r s = cond r (names_resource s) (names_object s)

unfoldable pub borne : ℕ → List ℕ → ℕ → Progress → Bool → List ℕ → Bool
borne zero t at s r x = false
borne (suc k) t at s r x =
    let w = next_token t at in
    let rest = borne k t w.end (after s w.sort) r x in
    cond (bears r s && same (spelling t w) x) true rest

-- the refusal r at the place p
abbrev pub refused_at : ℕ → ℕ → Found
refused_at r p = record { refusal = r; place = p; tokens = 0 }

-- no refusal, and n tokens
abbrev pub found : ℕ → Found
found n = record { refusal = none; place = 0; tokens = n }

-- "63 an earlier object's name, of whatever kind": one of the n tokens before
unfoldable pub name_fault : List ℕ → Progress → ℕ → Token → ℕ
name_fault t s n w = cond (names_object s && borne n t 0 fresh false (spelling t w)) given_twice none

-- by the token's sort, and then by its name
unfoldable pub fault_in : List ℕ → Progress → ℕ → Token → ℕ
fault_in t s n w = cond (eqb (fault s w.sort) none) (name_fault t s n w) (fault s w.sort)

unfoldable pub walk : ℕ → List ℕ → ℕ → Progress → ℕ → Found
walk zero t at s n = refused_at unexpected_token at
walk (suc k) t at s n =
    let w = next_token t at in
    let rest = walk k t w.end (after s w.sort) (suc n) in
    cond (eqb (fault_in t s n w) none) (cond (eqb w.sort end_sort) (found n) rest)
    (refused_at (fault_in t s n w) w.start)

-- "64, the first name no RESOURCE bears"
unfoldable pub unborne_at : List ℕ → Progress → ℕ → Token → Bool
unborne_at t s n w = uses_resource s && not (borne n t 0 fresh true (spelling t w))

unfoldable pub unborne : ℕ → List ℕ → ℕ → Progress → ℕ → Found
unborne zero t at s n = found n
unborne (suc k) t at s n =
    let w = next_token t at in
    let rest = unborne k t w.end (after s w.sort) n in
    cond (unborne_at t s n w) (refused_at no_resource w.start) rest

-- the number of the next body after a token
unfoldable pub numbered_at : Want → Progress → ℕ → ℕ
numbered_at Object s b = b
numbered_at Name s b = b
numbered_at Open s b = b
numbered_at Attribute s b = b
numbered_at PriorityEquals s b = b
numbered_at PriorityNumber s b = b
numbered_at AutostartEquals s b = b
numbered_at AutostartValue s b = b
numbered_at UseEquals s b = b
numbered_at Use s b = b
numbered_at AttributeEnd s b = b
numbered_at ObjectEnd s b = number_after s.kind b

-- by how far the text has come
abbrev pub numbered : Progress → ℕ → ℕ
numbered s b = numbered_at s.want s b

-- the mask m with body b in it, if y is the name x in a RESOURCE attribute
unfoldable pub marked : Progress → List ℕ → List ℕ → ℕ → ℕ → ℕ
marked s y x b m = cond (uses_resource s && same y x) (with m b) m

unfoldable pub mask : ℕ → List ℕ → ℕ → Progress → List ℕ → ℕ → ℕ → ℕ
mask zero t at s x b m = m
mask (suc k) t at s x b m =
    let w = next_token t at in
    mask k t w.end (after s w.sort) x (numbered s b) (marked s (spelling t w) x b m)

-- c with what a token of the sort w says, whose bytes are x
unfoldable pub put_at : Want → (List ℕ → ℕ) → Progress → Config → ℕ → List ℕ → Config
put_at Object u s c w x = cond (is_resource w) c (with_kind c c.bodies (kind_of w))
put_at Name u s c w x = cond (is_resource s.kind) (with_users c c.resources (u x)) c
put_at Open u s c w x = c
put_at Attribute u s c w x = c
put_at PriorityEquals u s c w x = c
put_at PriorityNumber u s c w x = with_priority c c.bodies (held (decimal 0 x))
put_at AutostartEquals u s c w x = c
put_at AutostartValue u s c w x = with_autostart c c.bodies (start_of (eqb w true_sort))
put_at UseEquals u s c w x = c
put_at Use u s c w x = c
put_at AttributeEnd u s c w x = c
put_at ObjectEnd u s c w x = ended s.kind c

-- by how far the text has come
abbrev pub put : (List ℕ → ℕ) → Progress → Config → ℕ → List ℕ → Config
put u s c w x = put_at s.want u s c w x

unfoldable pub fill : ℕ → List ℕ → ℕ → Progress → (List ℕ → ℕ) → Config → Config
fill zero t at s u c = c
fill (suc k) t at s u c =
    let w = next_token t at in
    fill k t w.end (after s w.sort) u (put u s c w.sort (spelling t w))
