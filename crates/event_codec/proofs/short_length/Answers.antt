-- `short_length` meets its contract: the two bits of each code below 32 are computed.
use mathlib.Core.Path.{refl}
use Rattle.event.specs.Event.{known, arguments}
use Rattle.event_codec.proofs.Arms.{all_below, short_lengths}
use Rattle.event_codec.proofs.short_length.Goals as goal

pub returns : goal.returns
unfolding all_below known arguments
returns c = short_lengths _ refl c.args.code c.requires
