-- How many misses there are (`misses_le`, and `row_le` of the run on the machine), and how great a Tick's number and a
-- body's are (`miss_bounds`, `miss_byte`).
use Prim.Native.Nat.{ℕ, zero, suc, ◌*◌, ◌≤◌, ◌<◌}
use mathlib.Core.Path.{◌≡◌, refl, ap, ◌∙◌}
use mathlib.Core.Bool.{Bool, true, false, cond}
use mathlib.Core.List.{List, [], ◌∷◌, ◌++◌, Memᴰ}
use native.Mathlib.Omega.{arith}
use lib.ListN.{length, get_or, length-append}
use Rattle.number.proofs.Cases.{cond_either}
use Rattle.config.specs.declared.Config.{Config}
use Rattle.cell.specs.declared.Cell.{Cell}
use Rattle.cell.specs.Cell.{tick_cell}
use Rattle.plan.specs.declared.Plan.{Plan}
use Rattle.scheduler.specs.Event.{Event, Tick, is_tick}
use Rattle.scheduler.specs.History.{tick_count}
use Rattle.machine.specs.Model.{Model, Outcome}
use Rattle.machine.specs.Machine.{machine_step}
use Rattle.deadlines.specs.Miss.{Miss, misses_where, misses_at, misses_after, misses}
use Rattle.deadlines.specs.Report.{miss_bytes}
use Rattle.deadlines.specs.DeadlineCells.{matches_of}
use Rattle.deadlines.specs.Words.{step_row_by, machine_row}
use Rattle.deadlines.proofs.Meaning.{count_append}
use Rattle.deadlines.proofs.Members.{misses_members}

where_le : (p : ℕ → Bool) (k b n : ℕ) → length (misses_where p k b n) ≤ n
unfolding misses_where
where_le p k b zero = omega arith
where_le p k b (suc n) =
    let below = where_le p k (suc b) n in
    cond_either (λ (ms : List Miss). length ms ≤ suc n) (p b) _ _ (omega arith) (omega arith)

-- l: those of one event, at most n at a Tick; ls: those of the events that follow
more_le : (t : Bool) (k n : ℕ) (l ls : List Miss) → length l ≤ n → length ls ≤ k * n
    → length (cond t l [] ++ ls) ≤ cond t (suc k) k * n
more_le true k n l ls few rest = omega (arith, length-append l ls)
more_le false k n l ls few rest = rest

module _ (c : Config) (ds : List ℕ) where
  after_le : (rest es : List Event) → length (misses_after c ds es rest) ≤ tick_count rest * c.bodies
  unfolding misses_after tick_count
  after_le [] es = omega arith
  after_le (e ∷ rest) es =
      more_le (is_tick e) (tick_count rest) c.bodies (misses_at c ds es) _
      (where_le _ (suc (tick_count es)) 0 c.bodies)
      (after_le rest (es ++ e ∷ []))

  pub misses_le : (es : List Event) → length (misses c ds es) ≤ tick_count es * c.bodies
  misses_le es = after_le es []

  pub miss_bounds : (es : List Event) (m : Miss) → Memᴰ m (misses c ds es)
      → (1 ≤ m.tick) × (m.tick ≤ tick_count es) × (m.body < c.bodies)
  unfolding tick_count
  miss_bounds es m h =
      let x = (misses_members c ds es m).0 h in
      let parts = ap tick_count x.split ∙ count_append x.before (Tick ∷ x.rest) in
      (omega (arith, x.number), omega (arith, x.number, parts), x.body_there)

-- the same of the run on the machine
matches_le : (k b : ℕ) (xs : List Cell) → length (matches_of k b xs) ≤ length xs
unfolding matches_of
matches_le k b [] = omega arith
matches_le k b (x ∷ xs) =
    let below = matches_le k (suc b) xs in
    cond_either (λ (ms : List Miss). length ms ≤ suc (length xs)) (tick_cell x).matched _ _ (omega arith) (omega arith)

module _ (p : Plan) (ds : List ℕ) where
  pub length_step : (m : Model) (e : Event) (o : Outcome) (b : ℕ) (xs : List Cell)
      → length (step_row_by p ds m e o b xs) ≡ length xs
  unfolding step_row_by
  length_step m e o b [] = refl
  length_step m e o b (x ∷ xs) = ap suc (length_step m e o (suc b) xs)

  pub row_le : (c : Config) (k : ℕ) (m : Model) (xs : List Cell) (es : List Event)
      → length (machine_row c p ds k m xs es) ≤ tick_count es * length xs
  unfolding machine_row tick_count
  row_le c k m xs [] = omega arith
  row_le c k m xs (e ∷ es) =
      more_le (is_tick e) (tick_count es) (length xs) (matches_of (suc k) 0 xs) _
      (matches_le (suc k) 0 xs)
      (rw (length_step m e (machine_step c p m e) 0 xs) at
      (row_le c (cond (is_tick e) (suc k) k) (machine_step c p m e).model
      (step_row_by p ds m e (machine_step c p m e) 0 xs) es))

-- each byte of a list of such misses is one
pub miss_byte : (ms : List Miss) → ((m : Miss) → Memᴰ m ms → (m.tick < 65536) × (m.body < 256))
    → (i : ℕ) → get_or (miss_bytes ms) i 0 < 256
unfolding miss_bytes
miss_byte [] small i = omega arith
miss_byte (m ∷ ms) small zero = omega arith
miss_byte (m ∷ ms) small (suc zero) = let h = small m (Memᴰ.head refl) in omega arith
miss_byte (m ∷ ms) small (suc (suc zero)) = (small m (Memᴰ.head refl)).1
miss_byte (m ∷ ms) small (suc (suc (suc i))) = miss_byte ms (λ n h. small n (Memᴰ.tail h)) i
