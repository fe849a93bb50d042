-- What match marks ask for: in two parts, and nothing where none is set.
--
--   due_marked  the first mark is set
--   due_append  the marks of two rows, one after the other
--   due_quiet   no mark is set
use Prim.Native.Nat.{ℕ, zero, suc}
use mathlib.Core.Path.{◌≡◌, refl, sym}
use mathlib.Core.Bool.{Bool, true, false}
use mathlib.Core.List.{List, [], ◌∷◌, ◌++◌}
use lib.ListN.{length, get_or, drop, replicate}
use Rattle.word.specs.Word.{has, with}
use Rattle.machine.specs.Model.{no_rank}
use Rattle.machine.specs.Cells.{Tally, match_at, requests_due}

module _ (w : ℕ) where
  -- without ranks there is nothing to ask for
  pub due_none : (ms : List Bool) (x : Tally) → requests_due w ms [] x ≡ x
  unfolding requests_due
  due_none [] x = refl
  due_none (true ∷ ms) x = refl
  due_none (false ∷ ms) x = refl

  pub due_marked : (ms : List Bool) (rs : List ℕ) (x : Tally)
      → requests_due w (true ∷ ms) rs x ≡ requests_due w ms (drop 1 rs) (match_at w (get_or rs 0 no_rank) x)
  unfolding requests_due has with
  due_marked ms [] x = sym (due_none ms x)
  due_marked ms (r ∷ rs) x = refl

  pub due_append : (ms ns : List Bool) (rs : List ℕ) (x : Tally)
      → requests_due w (ms ++ ns) rs x ≡ requests_due w ns (drop (length ms) rs) (requests_due w ms rs x)
  unfolding requests_due
  due_append [] ns rs x = refl
  due_append (true ∷ ms) ns [] x = sym (due_none ns x)
  due_append (false ∷ ms) ns [] x = sym (due_none ns x)
  due_append (true ∷ ms) ns (r ∷ rs) x = due_append ms ns rs (match_at w r x)
  due_append (false ∷ ms) ns (r ∷ rs) x = due_append ms ns rs x

  pub due_quiet : (k : ℕ) (rs : List ℕ) (x : Tally) → requests_due w (replicate k false) rs x ≡ x
  unfolding requests_due
  due_quiet zero rs x = refl
  due_quiet (suc k) [] x = refl
  due_quiet (suc k) (r ∷ rs) x = due_quiet k rs x
