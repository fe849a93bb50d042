-- An accepted event covers a byte, so that the bytes after the place grow fewer.
use Rattle.std.proofs.Common.{◌≡◌, ℕ, ◌-◌, ◌<◌, List, length, refl, arith}
use Rattle.event.specs.declared.Event.{Event}
use Rattle.event.specs.Event.{accepted, read_event}
use Rattle.event.proofs.Theorems.{event_reading}
use Rattle.event_vectors.proofs.read_all.Goals as goal

fewer : (bs : List ℕ) (at p : ℕ) (e : Event) → accepted e p ≡ read_event bs at → at < length bs
    → length bs - p < length bs - at
fewer bs at p e h lt = let later = rw (← h) at (event_reading bs at).after in let k = later refl in omega arith

pub loop-at-smaller : goal.loop-at-smaller
loop-at-smaller g c = let r = c.in-Ok.event in
    fewer c.args.trace.now c.loop-at.at r.place r.value c.in-Ok.ensures c.loop-at-test.true
