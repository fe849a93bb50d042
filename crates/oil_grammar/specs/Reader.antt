-- The whole reading of a text: its configuration, or the one refusal with its line and column.
--
--   read_oil t                      what the reading gives
--   decisive t                      how many bytes of t decide a refusal of the first walk, of 60 to 63
--   oil_result t n, oil_output t d  what the call from C answers, and what it leaves in its output
--   oil_place t n                   what it tells of the place
use Rattle.std.specs.Prelude.{ℕ, suc, ◌+◌, cond, List, [], ◌∷◌, eqb, length, take, drop}
use Rattle.number.specs.Refusal.{none}
use Rattle.number.specs.Output.{packed}
use Rattle.config.specs.declared.Config.{Config}
use Rattle.config.specs.Value.{no_config}
use Rattle.config.specs.Writer.{first_fault, write_config, wrote_config}
use Rattle.oil_grammar.specs.Records.{Found}
use Rattle.oil_grammar.specs.Records.{OilRead}
use Rattle.oil_grammar.specs.Byte.{line_feed}
use Rattle.oil_grammar.specs.Meaning.{empty}
use Rattle.oil_grammar.specs.Next.{token_at}
use Rattle.oil_grammar.specs.Automaton.{fresh}
use Rattle.oil_grammar.specs.Walk.{walk, unborne, mask, fill}

-- "lines and columns count bytes from 1, a line ending after its LF": the place after the bytes that stand before it
unfoldable pub line_after : ℕ → List ℕ → ℕ
line_after l [] = l
line_after l (b ∷ bs) = line_after (cond (eqb b line_feed) (l + 1) l) bs

-- the column after the bytes that stand before it
unfoldable pub column_after : ℕ → List ℕ → ℕ
column_after c [] = c
column_after c (b ∷ bs) = column_after (cond (eqb b line_feed) 1 (c + 1)) bs

-- the line of a place
abbrev pub line_of : List ℕ → ℕ → ℕ
line_of t at = line_after 1 (take at t)

-- the column of a place
abbrev pub column_of : List ℕ → ℕ → ℕ
column_of t at = column_after 1 (take at t)

-- "with line and column"
abbrev pub refused_in : List ℕ → ℕ → ℕ → OilRead
refused_in t r at = record { config = no_config; refusal = r; line = line_of t at; column = column_of t at }

-- "then 4 to 6 in the reader's order, at line 0, column 0"
abbrev pub ranged : Config → OilRead
ranged c =
    cond (eqb (first_fault c) none) (record { config = c; refusal = none; line = 0; column = 0 })
    (record { config = no_config; refusal = first_fault c; line = 0; column = 0 })

-- the configuration of a text of n tokens
abbrev pub filled : List ℕ → ℕ → Config
filled t n = fill n t 0 fresh (λ x. mask n t 0 fresh x 0 0) empty

-- "60 .. 63 .. after the whole text 64 .. then 4 to 6"
abbrev pub after_uses : List ℕ → ℕ → Found → OilRead
after_uses t n u = cond (eqb u.refusal none) (ranged (filled t n)) (refused_in t u.refusal u.place)

-- a refusal of the first walk, or what the others give
abbrev pub after_walk : List ℕ → Found → OilRead
after_walk t v =
    cond (eqb v.refusal none) (after_uses t v.tokens (unborne v.tokens t 0 fresh v.tokens))
    (refused_in t v.refusal v.place)

-- the first walk over the whole text
abbrev pub walked : List ℕ → Found
walked t = walk (suc (length t)) t 0 fresh 0

-- "each word as long as it goes": those of the word at the refusal's place, and the byte after it
abbrev pub decisive : List ℕ → ℕ
decisive t = (token_at (walked t).place (drop (walked t).place t)).end + 1

unfoldable pub read_oil : List ℕ → OilRead
read_oil t = after_walk t (walked t)

-- what a writer answered, or the refusal of the text: "refusal × 4,294,967,296 + place", where only 30 has a place, the
-- bytes needed
abbrev pub answered : OilRead → ℕ → ℕ
answered r n =
    let w = write_config r.config n in
    cond (eqb r.refusal none) (packed w.refusal w.place) (packed r.refusal 0)

unfoldable pub oil_result : List ℕ → ℕ → ℕ
oil_result t n = answered (read_oil t) n

unfoldable pub oil_output : List ℕ → List ℕ → List ℕ
oil_output t d = cond (eqb (read_oil t).refusal none) (wrote_config (read_oil t).config d) d

unfoldable pub oil_place : List ℕ → List ℕ
oil_place t = (read_oil t).line ∷ (read_oil t).column ∷ []
