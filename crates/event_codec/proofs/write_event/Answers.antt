-- `write_event` meets its contract: an arm for each code, which fixes how many arguments are written.
use mathlib.Core.Path.{refl}
use Rattle.event.specs.Event.{known}
use Rattle.event.specs.Refusal.{unknown_event}
use Rattle.event.proofs.Writing.{writes_unknown}
use Rattle.number.specs.Output.{unwritten}
use Rattle.event_codec.proofs.Arms.{NoneUpTo, known_no_arm}
use Rattle.event_codec.proofs.write_event.Goals as goal

pub returns-in-0 : goal.returns-in-0
unfolding known
returns-in-0 c = let both = writes_unknown c.args.event c.args.out.now (unwritten unknown_event 0) (rw c.in-0.in-0-own.keys13) refl in
    record { result = both.0; output = both.1 }

pub returns-in-0-2 : goal.returns-in-0-2
unfolding NoneUpTo
returns-in-0-2 c = let both = writes_unknown c.args.event c.args.out.now (unwritten unknown_event 0) (known_no_arm c.args.event.code c.in-0.in-0-own.rest) refl in
    record { result = both.0; output = both.1 }
