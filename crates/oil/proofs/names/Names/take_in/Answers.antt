-- `take_in` meets its contract: by what the token is, whether it is kept, and the room.
use Rattle.std.proofs.Common.{◌≡◌, false, refl, sym, ◌∙◌, add-one}
use Rattle.std.proofs.Math.Seq.{take-suc-set}
use Rattle.oil_grammar.specs.Walk.{bears}
use Rattle.oil.specs.declared.names.Name.{Name}
use Rattle.oil.specs.Tokens.{progress_after}
use Rattle.oil.specs.Names.{in_class, spelled}
use Rattle.oil.proofs.Gathering.{twice_unnamed, twice_other, twice_is, no_name, other_class, known_before, no_room_left, one_more}
use Rattle.oil.proofs.names.Names.take_in.Goals as goal
use Rattle.oil.proofs.names.Names.take_in.Goals.{Then-not-bears, In_default}

unnamed : (c : Then-not-bears) → bears c.args.self.now.resource (progress_after c.args.self.now.text.now c.args.i) ≡ false
unnamed c = rw c.requires.reached.0 at (sym c.bears.ensures ∙ c.if-not-bears.true)

pub returns-then-not-bears-clause-gathered : goal.returns-then-not-bears-clause-gathered
returns-then-not-bears-clause-gathered c = no_name c.requires.gathered (unnamed c)

pub returns-then-not-bears-clause-twice : goal.returns-then-not-bears-clause-twice
returns-then-not-bears-clause-twice c = let n = c.args.self.now in
    twice_unnamed n.text.now n.resource n.class c.args.i (unnamed c)

other : (c : In_default) → in_class c.args.self.now.class (spelled c.args.self.now.text.now c.args.i) ≡ false
other c = rw c.requires.reached.1 at c.in_default.ensures

pub returns-in_default-clause-gathered : goal.returns-in_default-clause-gathered
returns-in_default-clause-gathered c = other_class c.requires.gathered (other c)

pub returns-in_default-clause-twice : goal.returns-in_default-clause-twice
returns-in_default-clause-twice c = let n = c.args.self.now in
    twice_other n.text.now n.resource n.class c.args.i (other c)

pub returns-then-knows-clause-gathered : goal.returns-then-knows-clause-gathered
returns-then-knows-clause-gathered c =
    known_before c.requires.gathered (rw c.requires.reached.1 at (sym c.knows.ensures ∙ c.if-knows.true))

pub returns-then-knows-clause-twice : goal.returns-then-knows-clause-twice
returns-then-knows-clause-twice c = let n = c.args.self.now in
    twice_is n.text.now n.resource n.class c.args.i c.requires.reached (sym c.bears.ensures ∙ c.if-not-bears.false)
    c.in-Some.ensures.0 c.knows.ensures c.if-knows.true

pub returns-then-self-clause-twice : goal.returns-then-self-clause-twice
returns-then-self-clause-twice c = let n = c.args.self.now in
    twice_is n.text.now n.resource n.class c.args.i c.requires.reached (sym c.bears.ensures ∙ c.if-not-bears.false)
    c.in-Some.ensures.0 c.knows.ensures c.if-knows.false

pub returns-else-self-clause-twice : goal.returns-else-self-clause-twice
returns-else-self-clause-twice c = let n = c.args.self.now in
    twice_is n.text.now n.resource n.class c.args.i c.requires.reached (sym c.bears.ensures ∙ c.if-not-bears.false)
    c.in-Some.ensures.0 c.knows.ensures c.if-knows.false

pub returns-else-self-clause-gathered : goal.returns-else-self-clause-gathered
returns-else-self-clause-gathered c = no_room_left c.requires.gathered c.if-self.false

pub returns-then-self-clause-gathered : goal.returns-then-self-clause-gathered
returns-then-self-clause-gathered c = let n = c.args.self.now in
    let m : Name = record { hash = c.in-Some.hash; bytes = c.args.step.spelling } in
    one_more {m = m} c.requires.gathered
    (record {
      text_same = refl;
      resource_same = refl;
      class_same = refl;
      kept_more = rw add-one (take-suc-set n.room.now n.count m c.if-self.true);
    })
    c.if-self.true (rw c.requires.reached.0 at (sym c.bears.ensures ∙ c.if-not-bears.false))
    (rw c.requires.reached.1 at c.in-Some.ensures.1) c.requires.reached.1
