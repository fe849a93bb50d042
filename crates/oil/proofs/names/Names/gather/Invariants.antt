-- `gather` meets its contract: a token at a time.
use Rattle.std.proofs.Common.{length}
use Rattle.oil.specs.Tokens.{First}
use Rattle.oil.specs.Names.{twice_at}
use Rattle.oil.specs.Gathered.{Gathered, IsOf}
use Rattle.oil.proofs.names.Names.gather.Given as goal

abbrev pub invariant-loop-i : goal.invariant-loop-i
invariant-loop-i l =
    record {
      may_go_on : (goal.iterator-loop-i).can_next l.i-iterator × (goal.iterator-loop-i).is_finite l.i-iterator;
      of : IsOf l.self l.fn.self.text.now l.fn.self.resource l.fn.self.class;
      gathered : Gathered l.self (length l.yielded);
      twice : First (length l.yielded) (twice_at l.fn.self.text.now l.fn.self.resource l.fn.self.class) l.first;
    }
