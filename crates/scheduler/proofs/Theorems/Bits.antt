-- Event bits, and who waits for them: each bit by itself; what Clear, Set, Wait and an activation make of a body's bits;
-- who waits, and who is resumed. Each law stands here in full, over specs/ alone; the modules it cites prove it.
use Prim.Native.Nat.{ℕ, suc, ◌<◌}
use mathlib.Core.Path.{◌≡◌, ap, ◌∙◌}
use mathlib.Core.Bool.{true, false, not, ◌&&◌, ◌||◌}
use mathlib.Core.List.{List}
use mathlib.Core.Logic.{◌≢◌, ◌↔◌}
use lib.ListN.{length}
use Rattle.config.specs.declared.Config.{Config}
use Rattle.config.specs.Meaning.{is_timed}
use Rattle.scheduler.specs.Body.{Body, suspended, waiting, resumed, become, started}
use Rattle.scheduler.specs.Bits.{bit_set, any_set, with_bits, without_bits}
use Rattle.scheduler.specs.State.{State, body_of}
use Rattle.scheduler.specs.Event.{Event, Activate, Chain, Tick, Wait, Set, Clear}
use Rattle.scheduler.specs.Tick.{due_for}
use Rattle.scheduler.specs.Call.{caller, calling}
use Rattle.scheduler.specs.Scheduler.{fresh, after, leaves}
use Rattle.scheduler.specs.History.{AcceptedIn, Ends, next}
use Rattle.scheduler.proofs.Event.Masks as Masks
use Rattle.scheduler.proofs.Event.Bits as Bits
use Rattle.scheduler.proofs.Event.Losses as Losses

-- event bits, each bit by itself: a Set sets those of its mask, a Clear clears them,
-- and one waited bit that is set suffices
pub with_bit : (bits w i : ℕ) → bit_set (with_bits bits w) i ≡ bit_set bits i || bit_set w i
with_bit = Masks.with_bit

pub without_bit : (bits w i : ℕ) → bit_set (without_bits bits w) i ≡ bit_set bits i && not (bit_set w i)
without_bit = Masks.without_bit

pub any_set_lem : (bits w : ℕ) → (any_set bits w ≡ false) ↔ ((i : ℕ) → bit_set bits i && bit_set w i ≡ false)
any_set_lem = Masks.any_set_lem

-- An accepted Clear leaves each bit of the runner that was set and is not in its mask, an accepted Set each bit of its
-- task that was set or is in its mask; nobody else's bits change, and a Wait changes none
pub clear_bit : (c : Config) (s : State) (w : ℕ) → AcceptedIn c s (Clear w) → (i : ℕ)
    → bit_set (body_of (next c s (Clear w)) (caller c s)).bits i ≡ bit_set (calling c s).bits i && not (bit_set w i)
clear_bit = Bits.clear_bit

pub clear_others : (c : Config) (s : State) (w b : ℕ) → b ≢ caller c s
    → (body_of (next c s (Clear w)) b).bits ≡ (body_of s b).bits
clear_others = Bits.clear_others

pub set_bit : (c : Config) (s : State) (t w : ℕ) → AcceptedIn c s (Set t w) → (i : ℕ)
    → bit_set (body_of (next c s (Set t w)) t).bits i ≡ bit_set (body_of s t).bits i || bit_set w i
set_bit = Bits.set_bit

pub set_others : (c : Config) (s : State) (t w b : ℕ) → b ≢ t → (body_of (next c s (Set t w)) b).bits ≡ (body_of s b).bits
set_others = Bits.set_others

pub wait_bits : (c : Config) (s : State) (w b : ℕ) → (body_of (next c s (Wait w)) b).bits ≡ (body_of s b).bits
wait_bits = Bits.wait_bits

-- "cleared when it is activated from suspended": all bits, by Activate, Chain and a due entry; at the fresh start none
-- is set
pub activate_bits : (c : Config) (s : State) (t : ℕ) → AcceptedIn c s (Activate t)
    → (body_of (next c s (Activate t)) t).bits ≡ 0
activate_bits = Bits.activate_bits

pub chain_bits : (c : Config) (s : State) (t : ℕ) → AcceptedIn c s (Chain t) → (body_of (next c s (Chain t)) t).bits ≡ 0
chain_bits = Bits.chain_bits

pub entry_bits : (c : Config) (es : List Event) (t k : ℕ) → t < length (after c (fresh c) es).bodies
    → is_timed c t ≡ false
    → (body_of (after c (fresh c) es) t).phase ≡ suspended
    → due_for c (after c (fresh c) es) t ≡ suc k
    → (body_of (next c (after c (fresh c) es) Tick) t).bits ≡ 0
entry_bits c es t k fits untimed still due =
    Bits.tick_bits c (after c (fresh c) es) t
    ∙ ap (λ (b : Body). b.bits) (Losses.tick_suspended c es t fits k untimed still due)

pub fresh_bits : (c : Config) (b : ℕ) → (body_of (fresh c) b).bits ≡ 0
fresh_bits = Bits.fresh_bits

-- and they are kept else: of a body that isn't suspended only its own Clear, a Set that names it and its own end change
-- them
pub bits_kept : (c : Config) (s : State) (b : ℕ) → (body_of s b).phase ≢ suspended → (e : Event)
    → (Ends e → caller c s ≢ b)
    → ((w : ℕ) → e ≢ Set b w)
    → ((w : ℕ) → e ≡ Clear w → caller c s ≢ b)
    → (body_of (next c s e) b).bits ≡ (body_of s b).bits
bits_kept = Bits.bits_kept

-- "Wait on a bit already set goes on at once", be it one of several, and changes nothing; else the runner waits for the
-- bits of its mask, and nobody else changes. `leaves` is the state before the dispatch.
pub wait_goes_on : (c : Config) (s : State) (w : ℕ) → AcceptedIn c s (Wait w) → (i : ℕ)
    → bit_set (calling c s).bits i && bit_set w i ≡ true
    → leaves c s (Wait w) ≡ s
wait_goes_on = Bits.wait_goes_on

pub wait_waits : (c : Config) (s : State) (w : ℕ) → AcceptedIn c s (Wait w)
    → ((i : ℕ) → bit_set (calling c s).bits i && bit_set w i ≡ false)
    → body_of (leaves c s (Wait w)) (caller c s) ≡ become (waiting w) (calling c s)
wait_waits = Bits.wait_waits

pub wait_alone : (c : Config) (s : State) (w b : ℕ) → b ≢ caller c s → body_of (leaves c s (Wait w)) b ≡ body_of s b
wait_alone = Bits.wait_alone

-- "resumes .. once a waited bit is set": the task that a Set names goes on exactly if one of its waited bits is set then,
-- and nobody else changes
pub set_resumes : (c : Config) (s : State) (t w : ℕ) → AcceptedIn c s (Set t w) → (v i : ℕ)
    → (body_of s t).phase ≡ waiting v
    → (bit_set (body_of s t).bits i || bit_set w i) && bit_set v i ≡ true
    → (body_of (leaves c s (Set t w)) t).phase ≡ started
set_resumes = Bits.set_resumes

pub set_waits_on : (c : Config) (s : State) (t w : ℕ) → AcceptedIn c s (Set t w) → (v : ℕ)
    → (body_of s t).phase ≡ waiting v
    → ((i : ℕ) → (bit_set (body_of s t).bits i || bit_set w i) && bit_set v i ≡ false)
    → (body_of (leaves c s (Set t w)) t).phase ≡ waiting v
set_waits_on = Bits.set_waits_on

pub set_alone : (c : Config) (s : State) (t w b : ℕ) → b ≢ t → body_of (leaves c s (Set t w)) b ≡ body_of s b
set_alone = Bits.set_alone

-- "Wait on mask 0 is never resumed"
pub mask_zero_waits : (bits : ℕ) → resumed bits (waiting 0) ≡ waiting 0
mask_zero_waits = Masks.mask_zero_waits
