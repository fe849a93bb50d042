-- Two models of the machine that are the same but for what waits below a level.
--
--   waiting_with m w ls  the model m where the ranks in the word w wait to begin, and ls are the losses by rank
--   LowRank c L r        the rank r is that of a body that is not above L
--   SameModel c L m m'   m and m' are "the same but for which bodies of priority at most L wait to begin and for those
--                        bodies' losses"
--
-- A request bit says that a body waits to begin, that of a started ISR that its second request waits.
--
-- Main law: `isolation_models` (proofs/Theorems.antt).
use Rattle.std.specs.Prelude.{ℕ, ◌<◌, ◌≡◌, false, List, length, get_or}
use Rattle.config.specs.declared.Config.{Config}
use Rattle.word.specs.Word.{has}
use Rattle.plan.specs.Rank.{rank_of}
use Rattle.machine.specs.Model.{Model, with_core, with_request, with_losses}
use Rattle.isolation.specs.Above.{above}

abbrev pub waiting_with : Model → ℕ → List ℕ → Model
waiting_with m w ls = with_losses (with_core m (with_request m.core w)) ls

pub record LowRank (c : Config) (L r : ℕ) : Type 0 where
  pub body : ℕ
  pub exists : body < c.bodies
  pub low : above c L body ≡ false
  pub rank : rank_of c body ≡ r

-- two words, and two lists of losses, that are the same but at low ranks
abbrev pub SameWord : Config → ℕ → ℕ → ℕ → Type 0
SameWord c L w w' = (r : ℕ) → (LowRank c L r → ⊥) → has w r ≡ has w' r

pub record SameLosses (c : Config) (L : ℕ) (ls ls' : List ℕ) : Type 0 where
  pub long : length ls ≡ length ls'
  pub each : (r : ℕ) → (LowRank c L r → ⊥) → get_or ls r 0 ≡ get_or ls' r 0

pub record SameModel (c : Config) (L : ℕ) (m m' : Model) : Type 0 where
  pub rest : m' ≡ waiting_with m m'.core.request m'.losses
  pub requests : SameWord c L m.core.request m'.core.request
  pub losses : SameLosses c L m.losses m'.losses
