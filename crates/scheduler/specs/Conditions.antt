-- When each status is given, in the words of the configuration and of the state, where `Call` has tests: document 01's
-- paragraph on the statuses, event by event, with document 02's.
--
--   n if P          a rule: the status n is given if P
--   Decided st rs   st is the status of the first of the rules rs that applies, and 0 where none does
--   Conditions c s  the rules of the twelve events that meet the state s
--
-- `conditions` (proofs/Theorems/Events.antt) says that they hold of every state.
use Rattle.std.specs.Prelude.{ℕ, ◌+◌, ◌/◌, ◌%◌, ◌^◌, ◌≤◌, ◌<◌, ◌≡◌, ◌≢◌, ◌⊎◌, true, false, List, [], ◌∷◌, ◌++◌, get_or}
use Rattle.config.specs.declared.Config.{Config}
use Rattle.config.specs.Meaning.{smallest_offset}
use Rattle.scheduler.specs.Body.{Body, suspended, ready, started, waiting, triggered}
use Rattle.scheduler.specs.State.{State, stopped, body_of, table_of, runner}
use Rattle.scheduler.specs.Event.{Activate, Finish, Chain, Get, Release, Tick, Line, Start, Stop, Wait, Set, Clear}
use Rattle.scheduler.specs.Call.{caller, calling}
use Rattle.scheduler.specs.Scheduler.{step}

-- a status, and when it is given
pub record Rule : Type 1 where
  pub status : ℕ
  pub applies : Type 0

abbrev pub ◌if◌ : ℕ → Type 0 → Rule
n if P = record { status = n; applies = P }

infix 1 ◌if◌
-- "the first status that applies is given"
abbrev pub Decided : ℕ → List Rule → Type 0
Decided st [] = st ≡ 0
Decided st (r ∷ rs) = (r.applies × (st ≡ r.status)) ⊎ ((¬ r.applies) × Decided st rs)

-- "kind (0 task, 1 ISR)", 2 an extended task, 3 a time-triggered one
abbrev pub kind_of : Config → ℕ → ℕ
kind_of c b = get_or c.kind b 0

-- "an ISR's number is no task"
abbrev pub Task : Config → ℕ → Type 0
Task c t = (t < c.bodies) × (kind_of c t ≢ 1)

-- one that Activate and Chain may name
abbrev pub OsekTask : Config → ℕ → Type 0
OsekTask c t = Task c t × (kind_of c t ≢ 3)

-- an ISR; an extended task
abbrev pub Isr : Config → ℕ → Type 0
Isr c i = (i < c.bodies) × (kind_of c i ≡ 1)

abbrev pub Extended : Config → ℕ → Type 0
Extended c t = (t < c.bodies) × (kind_of c t ≡ 2)

-- the body's bit is set in the resource's mask
abbrev pub User : Config → ℕ → ℕ → Type 0
User c r b = (r < c.resources) × (get_or c.users r 0 / 2 ^ b % 2 ≡ 1)

-- "nobody runs": the level is 0
abbrev pub NobodyRuns : Config → State → Type 0
NobodyRuns c s = (runner c s).level ≡ 0

-- "for other calls by kind 3, in the place of nobody running": while a time-triggered task is started, it runs
abbrev pub NobodyCalls : Config → State → Type 0
NobodyCalls c s = NobodyRuns c s ⊎ (s.order ≢ [])

-- "the runner holds a resource"
abbrev pub Holding : Config → State → Type 0
Holding c s = (calling c s).held ≢ []

-- r is "the runner's most recently taken one still held"
abbrev pub Latest : Config → State → ℕ → Type 0
Latest c s r = (rest : List ℕ) × ((calling c s).held ≡ r ∷ rest)

-- r stands in the list
abbrev pub In : ℕ → List ℕ → Type 0
In r rs = (before : List ℕ) × (rest : List ℕ) × (rs ≡ before ++ r ∷ rest)

-- "r is held by anyone"
abbrev pub Held : State → ℕ → Type 0
Held s r = (b : ℕ) × In r (body_of s b).held

-- "a request already waits (the ISR is ready, or started with one waiting)": begun, it may also be preempted in
-- another way than an ISR can be, waiting or triggered
abbrev pub Requested : Body → Type 0
Requested b =
    (b.phase ≡ ready) ⊎
    ((((b.phase ≡ started) ⊎ ((w : ℕ) × (b.phase ≡ waiting w))) × (b.pending ≡ true)) ⊎ (b.phase ≡ triggered false))

pub record Conditions (c : Config) (s : State) : Type 0 where
  pub one_activate : (t : ℕ) → Decided (step c s (Activate t)).seen.status
      ((2 if NobodyCalls c s) ∷ (3 if ¬ OsekTask c t) ∷ (4 if (body_of s t).phase ≢ suspended) ∷ [])
  pub two_finish : Decided (step c s Finish).seen.status ((2 if NobodyRuns c s) ∷ (6 if Holding c s) ∷ [])
  -- "for Chain also when an ISR runs"; "Chain to the caller itself is allowed"
  pub three_chain : (t : ℕ) → Decided (step c s (Chain t)).seen.status
      ((2 if (NobodyCalls c s ⊎ Isr c (caller c s))) ∷ (3 if ¬ OsekTask c t) ∷ (6 if Holding c s)
      ∷ (4 if ((body_of s t).phase ≢ suspended) × (t ≢ caller c s)) ∷ [])
  pub four_get : (r : ℕ) → Decided (step c s (Get r)).seen.status
      ((2 if NobodyCalls c s) ∷ (3 if c.resources ≤ r) ∷ (33 if ¬ User c r (caller c s)) ∷ (1 if Held s r) ∷ [])
  pub five_release : (r : ℕ) → Decided (step c s (Release r)).seen.status
      ((2 if NobodyCalls c s) ∷ (3 if c.resources ≤ r) ∷ (5 if ¬ Latest c s r) ∷ [])
  pub six_tick : Decided (step c s Tick).seen.status []
  pub seven_line : (i : ℕ) → Decided (step c s (Line i)).seen.status
      ((3 if ¬ Isr c i) ∷ (4 if Requested (body_of s i)) ∷ [])
  pub eight_start : (t d : ℕ) → Decided (step c s (Start t d)).seen.status
      ((2 if NobodyCalls c s) ∷ (3 if c.tables ≤ t) ∷ (8 if ((d ≡ 0) ⊎ (65535 < d + smallest_offset c t)))
      ∷ (7 if table_of s t ≢ stopped) ∷ [])
  pub nine_stop : (t : ℕ) → Decided (step c s (Stop t)).seen.status
      ((2 if NobodyCalls c s) ∷ (3 if c.tables ≤ t) ∷ (5 if table_of s t ≡ stopped) ∷ [])
  pub ten_wait : (w : ℕ) → Decided (step c s (Wait w)).seen.status
      ((2 if NobodyCalls c s) ∷ (1 if ¬ Extended c (caller c s)) ∷ (6 if Holding c s) ∷ [])
  pub eleven_set : (t w : ℕ) → Decided (step c s (Set t w)).seen.status
      ((2 if NobodyCalls c s) ∷ (3 if ¬ Task c t) ∷ (1 if ¬ Extended c t) ∷ (7 if (body_of s t).phase ≡ suspended) ∷ [])
  pub twelve_clear : (w : ℕ) → Decided (step c s (Clear w)).seen.status
      ((2 if NobodyCalls c s) ∷ (1 if ¬ Extended c (caller c s)) ∷ [])
