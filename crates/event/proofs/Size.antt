-- How long an event's bytes are, and that they are bytes.
use Prim.Native.Nat.{ℕ, zero, suc, ◌≤◌}
use native.Mathlib.Omega.{arith}
use lib.ListN.{length, length-append}
use Rattle.number.proofs.Theorems.{length_number_bytes}
use Rattle.event.specs.declared.Event.{Event}
use Rattle.event.specs.Event.{arguments, argument_bytes, event_bytes}

length_argument_bytes : (n : ℕ) (e : Event) → length (argument_bytes n e) ≤ 10
unfolding argument_bytes
length_argument_bytes zero e = omega arith
length_argument_bytes (suc zero) e = let f = length_number_bytes e.first in omega arith
length_argument_bytes (suc (suc n)) e =
    let f = length_number_bytes e.first in let s = length_number_bytes e.second in simp length-append (omega arith)

pub length_event_bytes : (e : Event) → (1 ≤ length (event_bytes e)) × (length (event_bytes e) ≤ 15)
unfolding event_bytes
length_event_bytes e =
    let c = length_number_bytes e.code in
    let a = length_argument_bytes (arguments e.code) e in
    simp length-append (omega arith)
