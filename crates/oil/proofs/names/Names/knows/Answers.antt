-- `knows` meets its contract: by the names that are kept, and without room by the text.
use Rattle.std.proofs.Common.{length, sym, ◌∙◌, arith}
use borrow.Author.Tests.{ne_eqb}
use Rattle.oil.proofs.Gathering.{among_found, not_among, among_borne, not_borne}
use Rattle.oil.proofs.names.Names.knows.Goals as goal

pub returns-then-keeps : goal.returns-then-keeps
returns-then-keeps c = let a = c.args in
    among_borne c.requires.gathered
    (among_found a.self.now a.name.now a.hash (sym c.keeps.ensures ∙ c.if-keeps.true))

pub returns-else-self : goal.returns-else-self
returns-else-self c = let a = c.args in
    let g = c.requires.gathered in
    let few = a.self.now.few in
    let d = c.if-self.false in
    ne_eqb a.self.now.count (length a.self.now.room.now) d
    ∙ sym (not_borne g (omega arith) c.requires.hash_told.0
    (not_among a.self.now a.name.now a.hash g.hash c.requires.hash_told.1 (sym c.keeps.ensures ∙ c.if-keeps.false)))
