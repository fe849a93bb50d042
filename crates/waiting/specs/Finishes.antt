-- "the number of accepted Finish events until the named waiting body begins, if only Finish events
-- follow", by steps of the plain scheduler.
--
--   begins_in b x            the body b began in the event of which x was seen
--   finishes_within n c s b  how many of the next n Finish events are accepted, as far as the one in
--                            which b begins
--   finishes_until c s b     the same of as many as it takes
--   BeginsAt c s b n         b begins in the n-th Finish
--
-- Main law: `begins_at` (proofs/Theorems.antt), by which no greater bound gives another number.
use Rattle.std.specs.Prelude.{ℕ, zero, suc, ◌+◌, ◌-◌, ◌≤◌, ◌≡◌, Bool, true, false, cond, ◌&&◌, [], ◌∷◌, ◌++◌, map, eqb, replicate}
use Rattle.config.specs.declared.Config.{Config}
use Rattle.scheduler.specs.Status.{done}
use Rattle.scheduler.specs.State.{State}
use Rattle.scheduler.specs.Event.{Finish}
use Rattle.scheduler.specs.Scheduler.{Seen, mark_of, step, seen}

abbrev pub begins_in : ℕ → Seen → Bool
begins_in b x = eqb x.begun 1 && eqb x.runner b

abbrev pub is_accepted : Seen → Bool
is_accepted x = eqb x.status done

-- the Finish in which b begins is counted
unfoldable pub finishes_within : ℕ → Config → State → ℕ → ℕ
finishes_within zero c s b = 0
finishes_within (suc n) c s b =
    let x = step c s Finish in
    mark_of (is_accepted x.seen) + cond (begins_in b x.seen) 0 (finishes_within n c x.state b)

-- two ends of each of 31 other bodies and one of its own: no body waits for more
abbrev pub most_finishes : ℕ
most_finishes = 63

abbrev pub finishes_until : Config → State → ℕ → ℕ
finishes_until c s b = finishes_within most_finishes c s b

-- from the state s on, the body b begins in the n-th Finish
pub record BeginsAt (c : Config) (s : State) (b n : ℕ) : Type 0 where
  pub some : 1 ≤ n
  pub few : n ≤ most_finishes
  -- none of those Finish events is refused
  pub accepted : map (λ (x : Seen). x.status) (seen c s (replicate n Finish)) ≡ replicate n done
  -- it begins in the last of them, and in none before
  pub begins : map (begins_in b) (seen c s (replicate n Finish)) ≡ replicate (n - 1) false ++ true ∷ []
  -- whoever looks at n of them or at more counts n
  pub enough : (k : ℕ) → n ≤ k → finishes_within k c s b ≡ n
