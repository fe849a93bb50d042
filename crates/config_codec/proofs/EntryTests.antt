-- The refusals of an entry's task are the draft's.
use Prim.Native.Nat.{ℕ}
use mathlib.Core.Path.{◌≡◌, refl}
use mathlib.Core.List.{List, [], ◌∷◌}
use Rattle.config.specs.declared.Config.{Config}
use Rattle.config.specs.declared.Field.TheVariants.{Task}
use Rattle.config.specs.Draft.{some_timed, tasks_before, fault_at}
use Rattle.config_codec.specs.Entry.{bodies_of, entry_at, entry_fault}
use Rattle.config_codec.specs.Position.{draft_at}
use Rattle.config_codec.specs.declared.position.Position.{Position}

-- only the kinds of the bodies are asked
some_same : (c : Config) (l : List ℕ) → some_timed (bodies_of c.bodies c.kind) l ≡ some_timed c l
unfolding some_timed
some_same c [] = refl
some_same c (b ∷ bs) = rw (some_same c bs)

pub entry_same : (c : Config) (p : Position) (v : ℕ)
    → entry_fault (bodies_of c.bodies c.kind) c.task (entry_at v p c.entries c.offset c.task)
    ≡ fault_at Task (draft_at c p) v
unfolding fault_at
entry_same c p v = rw (some_same c (tasks_before (draft_at c p)))
