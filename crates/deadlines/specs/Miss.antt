-- What a miss is, over the list of events alone: no cell, and no count that goes along with the events.
--
--   ReadySince c b es j      of the events es, one made b ready with j Ticks so far, its own included, and none ended
--                            it since
--   MissedDeadline c D b es  b, with the deadline D, misses it at a Tick that follows the events es from the fresh start
--   missed c D b es          the same, computed
--   misses c ds es           all misses in order of time, then of body; IsMiss c ds es m: m is one of them; InOrder
--
-- Main laws: `missed_exactly`, `cells_tell_misses`, `machine_tells_misses` (proofs/Theorems.antt).
use Rattle.std.specs.Prelude.{ℕ, zero, suc, ◌+◌, ◌≤◌, ◌<◌, ◌≡◌, Bool, true, false, cond, not, ◌&&◌, ◌||◌, ◌⊎◌, eqb, get_or}
use mathlib.Core.List.{List, [], ◌∷◌, ◌++◌, Memᴰ}
use Rattle.config.specs.declared.Config.{Config}
use Rattle.scheduler.specs.State.{State}
use Rattle.scheduler.specs.Event.{Event, Tick, is_tick}
use Rattle.scheduler.specs.Call.{active}
use Rattle.scheduler.specs.Scheduler.{fresh, after}
use Rattle.scheduler.specs.History.{next, tick_count}
use Rattle.deadlines.specs.Activation.{ends_at, ready_at}

-- "the task has not ended since": none of the events es from the state s on ends b
abbrev pub NoEnd : Config → ℕ → State → List Event → Type 0
NoEnd c b s es =
    (e : Event) (before rest : List Event) → es ≡ before ++ e ∷ rest → ends_at c (after c s before) e b ≡ false

-- an autostart task is ready at the fresh start, before any Tick; "A task made ready at one tick counts from the next"
pub data ReadySince (c : Config) (b : ℕ) (es : List Event) : ℕ → Type 0 where
  since_fresh : active (fresh c) b ≡ true → NoEnd c b (fresh c) es → ReadySince c b es 0
  since_event : (e : Event) (before rest : List Event) → es ≡ before ++ e ∷ rest
      → ready_at c (after c (fresh c) before) e b ≡ true
      → NoEnd c b (next c (after c (fresh c) before) e) rest
      → ReadySince c b es (tick_count (before ++ e ∷ []))

-- "a deadline of 1 to 65,535 ticks from its becoming ready": the Tick that follows is the due one
pub record MissedDeadline (c : Config) (D b : ℕ) (es : List Event) : Type 0 where
  pub some : 1 ≤ D
  pub j : ℕ
  pub since : ReadySince c b es j
  pub due : suc (tick_count es) ≡ j + D

-- of the events es from the state s on, none ends b
unfoldable pub no_end : Config → ℕ → State → List Event → Bool
no_end c b s [] = true
no_end c b s (e ∷ es) = not (ends_at c s e b) && no_end c b (next c s e) es

-- by an activation that led to the state s: then es follow, none of which ends b, and the Tick after them is the D-th;
-- never for the deadline 0, which is none
unfoldable pub missed_since : Config → ℕ → ℕ → State → List Event → Bool
missed_since c D b s es = no_end c b s es && eqb (suc (tick_count es)) D

-- by an activation in one of the events es from the state s on
unfoldable pub missed_from : Config → ℕ → ℕ → State → List Event → Bool
missed_from c D b s [] = false
missed_from c D b s (e ∷ es) =
    (ready_at c s e b && missed_since c D b (next c s e) es) || missed_from c D b (next c s e) es

unfoldable pub missed : Config → ℕ → ℕ → List Event → Bool
missed c D b es = (active (fresh c) b && missed_since c D b (fresh c) es) || missed_from c D b (fresh c) es

-- one of the list: the Tick's number, from 1 on, and the body
pub record Miss : Type 0 where
  pub tick : ℕ
  pub body : ℕ

-- those of n bodies from b on of which p holds, at the k-th Tick
unfoldable pub misses_where : (ℕ → Bool) → ℕ → ℕ → ℕ → List Miss
misses_where p k b zero = []
misses_where p k b (suc n) =
    cond (p b) (record { tick = k; body = b } ∷ misses_where p k (suc b) n) (misses_where p k (suc b) n)

-- the deadlines by body, "0 for none"
abbrev pub deadlines_of : Config → List ℕ
deadlines_of c = c.deadline

-- that of body b
abbrev pub deadline_in : List ℕ → ℕ → ℕ
deadline_in ds b = get_or ds b 0

-- at a Tick that follows the events es
abbrev pub misses_at : Config → List ℕ → List Event → List Miss
misses_at c ds es = misses_where (λ b. missed c (deadline_in ds b) b es) (suc (tick_count es)) 0 c.bodies

-- at the Ticks of rest, which follows the events es
unfoldable pub misses_after : Config → List ℕ → List Event → List Event → List Miss
misses_after c ds es [] = []
misses_after c ds es (e ∷ rest) = cond (is_tick e) (misses_at c ds es) [] ++ misses_after c ds (es ++ e ∷ []) rest

abbrev pub misses : Config → List ℕ → List Event → List Miss
misses c ds es = misses_after c ds [] es

-- at a Tick of the events es, with its number, a body misses its deadline
pub record IsMiss (c : Config) (ds : List ℕ) (es : List Event) (m : Miss) : Type 0 where
  pub before : List Event
  pub rest : List Event
  pub split : es ≡ before ++ Tick ∷ rest
  pub number : m.tick ≡ suc (tick_count before)
  pub body_there : m.body < c.bodies
  pub missed_it : MissedDeadline c (deadline_in ds m.body) m.body before

-- one stands before the other in the list: "in order of time, then of body"
abbrev pub Before : Miss → Miss → Type 0
Before m n = (m.tick < n.tick) ⊎ ((m.tick ≡ n.tick) × (m.body < n.body))

-- every one stands before all that follow it
abbrev pub InOrder : List Miss → Type 0
InOrder [] = Unit {0}
InOrder (m ∷ ms) = ((n : Miss) → Memᴰ n ms → Before m n) × InOrder ms

-- of the events es from the state s on, none makes b ready
unfoldable pub none_ready : Config → ℕ → State → List Event → Bool
none_ready c b s [] = true
none_ready c b s (e ∷ es) = not (ready_at c s e b) && none_ready c b (next c s e) es
