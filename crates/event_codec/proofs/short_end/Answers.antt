-- `short_end` meets its contract: an event whose numbers have one byte each is accepted as a law of `Ends` says.
use Rattle.std.proofs.Common.{◌≡◌, rules}
use Prim.Native.Nat.{◌+◌, ◌≤◌}
use lib.ListN.{length}
use native.Mathlib.Omega.{arith}
use Rattle.event_codec.proofs.Ends.{short_word, some_length, word_bytes, word_accepted, ends_there}
use Rattle.event_codec.proofs.short_end.Goals as goal

pub overflow_add-result : goal.overflow_add-result
overflow_add-result c =
    let some : c.short_length.result ≡ 0 → ⊥ = search rules in
    let n = some_length _ c.short_length.ensures some in
    omega (arith, n.2, c.in_ok-get.ensures.lookup.0)

pub returns-in_default : goal.returns-in_default
returns-in_default c = let bs = c.args.trace.now in let at = c.args.at in
    let some : c.short_length.result ≡ 0 → ⊥ = search rules in
    let g = c.in_ok-get.ensures.lookup.0 in
    let f = c.in_ok-first_chunk.ensures.cases in
    let inside : at + 4 ≤ length bs = omega (arith, g.3, f.enough) in
    ends_there (word_accepted bs at _ _ inside
    (word_bytes bs c.in_ok-get.field-0.now c.in_ok-first_chunk.field-0.now at _ g.2 f.same inside
    (λ i. omega (arith, c.type_inv.trace i)) c.from_le_bytes-word.ensures)
    (short_word c.is_short.ensures (rw c.if-not-is_short.false)) c.short_length.ensures some)
