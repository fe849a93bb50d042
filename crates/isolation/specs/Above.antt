-- Who is above a level, which events name nobody else, and which answers a level speaks of.
--
--   above c L i            the body i is above L, and not one of document 02's "bodies of priority at most L"
--   NamesAbove c L e       the body that the event e asks for, if there is one, is above L; AllNameAbove c L es: so of
--                          all of es
--   answer x               the four answers of an event, of which x is seen
--   answers_above L xs ys  the answers in xs up to, and not including, the first event after which the level is below
--                          L in xs or in ys
use Rattle.std.specs.Prelude.{ℕ, ◌<◌, ◌≡◌, Bool, true, cond, ◌&&◌, ◌||◌, List, [], ◌∷◌, ltb, leb}
use Rattle.config.specs.declared.Config.{Config}
use Rattle.config.specs.Meaning.{is_timed, is_extended, priority_of}
use Rattle.scheduler.specs.Event.{Event, Activate, Finish, Chain, Get, Release, Tick, Line, Start, Stop, Wait, Set, Clear}
use Rattle.scheduler.specs.Scheduler.{Seen}

-- its priority is greater; a time-triggered task runs at a level of its own, above every priority
abbrev pub above : Config → ℕ → ℕ → Bool
above c L i = is_timed c i || ltb L (priority_of c i)

-- "no Activate, Chain or Line names a body of priority at most L", whether the event is refused or not. A Set
-- is held back likewise, but only where it names an extended task: it gives 1 (not extended) of every other,
-- and tells nothing.
abbrev pub NamesAbove : Config → ℕ → Event → Type 0
NamesAbove c L (Activate t) = t < c.bodies → above c L t ≡ true
NamesAbove c L Finish = Unit {0}
NamesAbove c L (Chain t) = t < c.bodies → above c L t ≡ true
NamesAbove c L (Get r) = Unit {0}
NamesAbove c L (Release r) = Unit {0}
NamesAbove c L Tick = Unit {0}
NamesAbove c L (Line i) = i < c.bodies → above c L i ≡ true
NamesAbove c L (Start t d) = Unit {0}
NamesAbove c L (Stop t) = Unit {0}
NamesAbove c L (Wait w) = Unit {0}
NamesAbove c L (Set t w) = is_extended c t ≡ true → above c L t ≡ true
NamesAbove c L (Clear w) = Unit {0}

abbrev pub AllNameAbove : Config → ℕ → List Event → Type 0
AllNameAbove c L [] = Unit {0}
AllNameAbove c L (e ∷ es) = NamesAbove c L e × AllNameAbove c L es

-- "all four answers"
pub record Answer : Type 0 where
  pub status : ℕ
  pub runner : ℕ
  pub level : ℕ
  pub begun : ℕ

abbrev pub answer : Seen → Answer
answer x = record { status = x.status; runner = x.runner; level = x.level; begun = x.begun }

-- "Up to, and not including, the first event after which either level is below L"
unfoldable pub answers_above : ℕ → List Seen → List Seen → List Answer
answers_above L [] ys = []
answers_above L (x ∷ xs) [] = []
answers_above L (x ∷ xs) (y ∷ ys) =
    cond (leb L x.level && leb L y.level) (answer x ∷ answers_above L xs ys) []
