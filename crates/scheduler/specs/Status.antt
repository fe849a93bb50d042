-- What a call answers: OSEK's status codes, by document 01's numbers.
use Rattle.std.specs.Prelude.{ℕ, ◌≡◌, Bool, false, cond, List, [], ◌∷◌, ◌++◌}

-- E_OK
abbrev pub done : ℕ
done = 0

-- E_OS_ACCESS: "r is held by anyone"; for Wait, Clear and Set "not extended"
abbrev pub access : ℕ
access = 1

-- E_OS_CALLEVEL: "nobody runs; for Chain also when an ISR runs"
abbrev pub call_level : ℕ
call_level = 2

-- E_OS_ID: "no such task, resource, table or, for Line, ISR"
abbrev pub no_such : ℕ
no_such = 3

-- E_OS_LIMIT: "the task isn't suspended"; "for Line, a request already waits"
abbrev pub limit_reached : ℕ
limit_reached = 4

-- E_OS_NOFUNC: "r is not the runner's most recently taken one still held; the table is stopped"
abbrev pub no_function : ℕ
no_function = 5

-- E_OS_RESOURCE: "the runner holds a resource"
abbrev pub holds_resource : ℕ
holds_resource = 6

-- E_OS_STATE: "the table already runs"; for Set "suspended"
abbrev pub wrong_state : ℕ
wrong_state = 7

-- E_OS_VALUE: "d is 0, or d plus the smallest offset is above 65,535"
abbrev pub bad_delay : ℕ
bad_delay = 8

-- "not a declared user": a number of document 02's own, OSEK has none for it
abbrev pub not_user : ℕ
not_user = 33

-- a status with the test that gives it
pub record Check : Type 0 where
  pub fails : Bool
  pub status : ℕ

-- b gives s: the status s is given if b
abbrev pub ◌gives◌ : Bool → ℕ → Check
b gives s = record { fails = b; status = s }

infix 1 ◌gives◌
-- "the first status that applies is given"
unfoldable pub first_given : List Check → ℕ
first_given [] = done
first_given (k ∷ ks) = cond k.fails k.status (first_given ks)

-- none of the checks fails
abbrev pub NoneFails : List Check → Type 0
NoneFails ks = (k : Check) (before rest : List Check) → ks ≡ before ++ k ∷ rest → k.fails ≡ false
