-- The call's result can be split again into refusal and place or count, and a refused call writes nothing.
use Prim.Native.Nat.{ℕ, zero, suc, ◌≤◌, ◌<◌}
use mathlib.Core.Path.{◌≡◌, refl}
use mathlib.Core.Logic.{◌≢◌, ⊎_elim}
use mathlib.Core.List.Memᴰ
use mathlib.Core.List.{List, [], ◌∷◌, Memᴰ}
use native.Mathlib.Nat.{mul-le-mul_right}
use native.Mathlib.Omega.{arith}
use borrow.Author.Tests.{le-leb, lt-leb}
use lib.ListN.{length, get_or, take}
use Rattle.number.specs.Output.{written}
use Rattle.number.proofs.Cases.{by_lt, cond_either}
use Rattle.config.specs.declared.Config.{Config}
use Rattle.scheduler.specs.Event.{Event, is_tick}
use Rattle.scheduler.specs.History.{tick_count}
use Rattle.run.specs.Run.{Input, refused, played, read_run}
use Rattle.run.proofs.Theorems.{Bounded, input_bounded, high_half, low_half}
use Rattle.deadlines.specs.Miss.{Miss, deadlines_of}
use Rattle.deadlines.specs.Report.{first_misses, miss_bytes, bytes_needed}
use Rattle.deadlines.specs.Result.{misses_in, misses_after_reading, list_after_reading, misses_result, misses_output}
use Rattle.deadlines.proofs.Size.{misses_le, miss_bounds, miss_byte}
use Rattle.deadlines.proofs.Input.{played_accepted}
use Rattle.deadlines.proofs.Report.{bytes_needed_lem}

ticks_le : (es : List Event) → tick_count es ≤ length es
unfolding tick_count
ticks_le [] = omega arith
ticks_le (e ∷ es) =
    let below = ticks_le es in
    cond_either (λ (n : ℕ). n ≤ length (e ∷ es)) (is_tick e) _ _ (omega arith) (omega arith)

take_member : (n : ℕ) (ms : List Miss) (m : Miss) → Memᴰ m (take n ms) → Memᴰ m ms
take_member zero ms m h = absurd (Memᴰ.not-nil h)
take_member (suc n) [] m h = h
take_member (suc n) (x ∷ ms) m h =
    ⊎_elim (λ e. Memᴰ.head e) (λ t. Memᴰ.tail (take_member n ms m t)) (Memᴰ.cases_cons h)

pub refused_split : (cs ts : List ℕ) (n r p : ℕ) → read_run cs ts ≡ refused r p
    → (high_half (misses_result cs ts n) ≡ r) × (low_half (misses_result cs ts n) ≡ p)
unfolding Bounded misses_after_reading
refused_split cs ts n r p e =
    let small = rw e at (input_bounded cs ts) in
    rw e (omega arith, omega arith)

module _ (cs ts : List ℕ) (c : Config) (es : List Event) (e : read_run cs ts ≡ played c es) where
  few_ticks : tick_count es ≤ 8192
  unfolding Bounded
  few_ticks = omega (arith, ticks_le es, (rw e at (input_bounded cs ts)).0)

  few_bodies : c.bodies ≤ 32
  few_bodies = (played_accepted cs ts c es e).0.few_bodies

  -- at most 32 at each of 8,192 Ticks
  pub count_le : length (misses_in c es) ≤ 262144
  count_le =
      omega (arith, misses_le c (deadlines_of c) es, mul-le-mul_right c.bodies few_ticks, few_bodies)

  -- so three bytes are enough for each
  pub list_byte : (i : ℕ) → get_or (miss_bytes (first_misses (misses_in c es))) i 0 < 256
  list_byte =
      miss_byte (first_misses (misses_in c es))
      (λ m h. let b = miss_bounds c (deadlines_of c) es m (take_member 64 (misses_in c es) m h) in
      (omega (arith, few_ticks), omega (arith, few_bodies)))

  pub short_split : (n : ℕ) → n < bytes_needed (misses_in c es)
      → (high_half (misses_result cs ts n) ≡ 30) × (low_half (misses_result cs ts n) ≡ bytes_needed (misses_in c es))
  unfolding misses_after_reading
  short_split n less = rw (e, lt-leb (bytes_needed (misses_in c es)) n less) (omega arith, omega arith)

  pub played_split : (n : ℕ) → bytes_needed (misses_in c es) ≤ n
      → (high_half (misses_result cs ts n) ≡ 0) × (low_half (misses_result cs ts n) ≡ length (misses_in c es))
  unfolding misses_after_reading
  played_split n room =
      let few = count_le in
      rw (e, le-leb (bytes_needed (misses_in c es)) n room) (omega arith, omega arith)

pub short_output : (cs ts d : List ℕ) (c : Config) (es : List Event) → read_run cs ts ≡ played c es
    → length d < bytes_needed (misses_in c es)
    → misses_output cs ts d ≡ d
unfolding list_after_reading written
short_output cs ts d c es e short =
    rw (e, bytes_needed_lem (misses_in c es), lt-leb (bytes_needed (misses_in c es)) (length d) short)

pub refused_same : (cs ts d : List ℕ) → high_half (misses_result cs ts (length d)) ≢ 0 → misses_output cs ts d ≡ d
unfolding list_after_reading
refused_same cs ts d refusal = go (read_run cs ts) refl
  where
    go : (x : Input) → read_run cs ts ≡ x → misses_output cs ts d ≡ d
    go (refused r p) e = rw e
    go (played c es) e =
        by_lt (length d) (bytes_needed (misses_in c es))
        (λ short. short_output cs ts d c es e short)
        (λ room. absurd (refusal (played_split cs ts c es e (length d) room).0))
