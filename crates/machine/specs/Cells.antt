-- The cells of the entries, as parallel arrays: counters and switches in the model, compare values in the plan.
--
--   counters_ticked k e w ks on ns  the counters ns after a tick of the k cells from e on, with compare values ks and
--                                   switches on
--   switches_ticked k e ks ns on    the switches on after it, where a turn may have passed
--   marks k e w ks on ns            which of those cells match at that tick
--   requests_due w ms rs x          the requests and losses x after the matches ms of entries whose tasks have the
--                                   ranks rs; w: who has begun
--   in_row k e                      how many of the k entries from e on have a cell in the row
--   spread f k e l                  the list l with f i at each of the k indices i from e on
use Rattle.std.specs.Prelude.{ℕ, zero, suc, ◌+◌, ◌-◌, min, Bool, true, false, cond, not, ◌&&◌, ◌||◌, List, [], ◌∷◌, eqb, get_or, set}
use Rattle.config.specs.Value.{max_entries}
use Rattle.cell.specs.declared.Cell.{Cell}
use Rattle.cell.specs.Cell.{unmarked, long, start_cell, tick_cell}
use Rattle.word.specs.Word.{has, with}
use Rattle.scheduler.specs.Body.{most_losses}

-- A switch is a number as wide as a counter, so that cells are ticked several at once: off, on, or on with a turn of
-- the counter that must pass unmatched. A cell that is off has no turn to pass, since Stop clears it.
abbrev pub switch_off : ℕ
switch_off = 0

abbrev pub switch_on : ℕ
switch_on = 1

abbrev pub switch_turn : ℕ
switch_turn = 2

-- the cell is on; a turn must pass
abbrev pub is_on : ℕ → Bool
is_on x = not (eqb x switch_off)

abbrev pub has_turn : ℕ → Bool
has_turn x = eqb x switch_turn

-- the switch of a cell
abbrev pub switch_for : Bool → Bool → ℕ
switch_for on turn = cond turn switch_turn (cond on switch_on switch_off)

-- the cell of entry e; w: whether any cell has a turn to pass
abbrev pub cell_at : Bool → List ℕ → List ℕ → List ℕ → ℕ → Cell
cell_at w ks on ns e = unmarked (get_or ns e 0) (get_or ks e 0) (is_on (get_or on e 0)) (w && has_turn (get_or on e 0))

unfoldable pub counters_ticked : ℕ → ℕ → Bool → List ℕ → List ℕ → List ℕ → List ℕ
counters_ticked zero e w ks on ns = ns
counters_ticked (suc k) e w ks on ns =
    counters_ticked k (suc e) w ks on (set ns e (tick_cell (cell_at w ks on ns e)).counter)

unfoldable pub marks : ℕ → ℕ → Bool → List ℕ → List ℕ → List ℕ → List Bool
marks zero e w ks on ns = []
marks (suc k) e w ks on ns = (tick_cell (cell_at w ks on ns e)).matched ∷ marks k (suc e) w ks on ns

-- the switch of entry e after a tick
abbrev pub switch_ticked : List ℕ → List ℕ → List ℕ → ℕ → ℕ
switch_ticked ks ns on e = switch_for (is_on (get_or on e 0)) (tick_cell (cell_at true ks on ns e)).turn

unfoldable pub switches_ticked : ℕ → ℕ → List ℕ → List ℕ → List ℕ → List ℕ
switches_ticked zero e ks ns on = on
switches_ticked (suc k) e ks ns on = switches_ticked k (suc e) ks ns (set on e (switch_ticked ks ns on e))

-- f holds of one of the k numbers from e on
unfoldable pub some : (ℕ → Bool) → ℕ → ℕ → Bool
some f zero e = false
some f (suc k) e = f e || some f k (suc e)

-- one of the k cells from e on has a turn to pass
abbrev pub some_turn : ℕ → ℕ → List ℕ → Bool
some_turn k e on = some (λ i. has_turn (get_or on i 0)) k e

-- how many of the k entries from e on have a cell in the row: all of them, for a table of an accepted configuration
abbrev pub in_row : ℕ → ℕ → ℕ
in_row k e = min k (max_entries - e)

-- the list l with f i at each of the k indices i from e on
unfoldable pub spread : (ℕ → ℕ) → ℕ → ℕ → List ℕ → List ℕ
spread f zero e l = l
spread f (suc k) e l = spread f k (suc e) (set l e (f e))

-- the counters of the k entries from e on, started with period P and delay d; os: their offsets
abbrev pub counters_started : ℕ → ℕ → ℕ → ℕ → List ℕ → List ℕ → List ℕ
counters_started k e P d os ns = spread (λ i. (start_cell P (d + get_or os i 0)).counter) k e ns

-- their switches
abbrev pub switches_started : ℕ → ℕ → ℕ → List ℕ → List ℕ → List ℕ
switches_started k e d os on = spread (λ i. switch_for true (long (d + get_or os i 0))) k e on

-- one of them has a turn to pass
abbrev pub some_long : ℕ → ℕ → ℕ → List ℕ → Bool
some_long k e d os = some (λ i. long (d + get_or os i 0)) k e

-- the counters and the switches of the k entries from e on, stopped
abbrev pub counters_stopped : ℕ → ℕ → List ℕ → List ℕ
counters_stopped k e ns = spread (λ _. 0) k e ns

abbrev pub switches_stopped : ℕ → ℕ → List ℕ → List ℕ
switches_stopped k e on = spread (λ _. switch_off) k e on

-- what the matches of a tick add up to: the request word, and the losses by rank
pub record Tally : Type 0 where
  pub request : ℕ
  pub losses : List ℕ

-- "its loss count rises by 1 and stays at 65,535 once there"
abbrev pub one_more : ℕ → ℕ
one_more n = min (n + 1) most_losses

-- the losses ls with one more at rank r
abbrev pub one_lost : ℕ → List ℕ → List ℕ
one_lost r ls = set ls r (one_more (get_or ls r 0))

-- a match of an entry whose task has rank r: a request where the task is suspended, else a loss; w: the bodies that
-- have begun
abbrev pub match_at : ℕ → ℕ → Tally → Tally
match_at w r x =
    cond (has x.request r || has w r)
    (record { request = x.request; losses = one_lost r x.losses })
    (record { request = with x.request r; losses = x.losses })

unfoldable pub requests_due : ℕ → List Bool → List ℕ → Tally → Tally
requests_due w [] rs x = x
requests_due w (true ∷ ms) [] x = x
requests_due w (false ∷ ms) [] x = x
requests_due w (true ∷ ms) (r ∷ rs) x = requests_due w ms rs (match_at w r x)
requests_due w (false ∷ ms) (r ∷ rs) x = requests_due w ms rs x
