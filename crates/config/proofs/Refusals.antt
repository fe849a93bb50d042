-- Document 01's refusals of a configuration with their places, and document 02's for kind 3 and deadlines, row by row and with the
-- numbers written out: the reader's on both sides of each limit, the order of two faults, then the writer's. Each is
-- computed from the definitions that the contracts cite.
--
-- An input that ends after a number which is in order is refused with 1 at its end,
-- so that (1, n) says: the n bytes are in order.
use Prim.Native.Nat.{ℕ, zero, suc}
use mathlib.Core.Path.{◌≡◌, refl}
use mathlib.Core.List.{List, [], ◌∷◌, ◌++◌, map}
use lib.ListN.{drop, replicate}
use Rattle.number.specs.Number.{read_number, groups, continued, fifth_group, number_bytes, group_bytes}
use Rattle.number.specs.Output.{writing, written}
use Rattle.config.specs.declared.Config.{Config}
use Rattle.config.specs.Value.{with_version, with_bodies, with_kind, with_priority, with_autostart, with_deadline, with_users, with_tables, with_period, with_entries, with_offset, with_task}
use Rattle.config.specs.Among.{among}
use Rattle.config.specs.Draft.{fault_at, put_at, asked_at, ended, timed_in, some_timed}
use Rattle.config.specs.Reader.{read_from, number_at, read_config}
use Rattle.config.specs.Writer.{bytes_at, fault_from, bytes_from, write_config, wrote_config}

-- the reader's refusal and place for each of some bytes that follow others
abbrev answers : List ℕ → List (List ℕ) → List (ℕ × ℕ)
answers before = map (λ (bs : List ℕ). ((read_config (before ++ bs)).refusal, (read_config (before ++ bs)).place))

-- version 1 and a task of priority 5, up to the resource count, and up to the table count
abbrev one_task : List ℕ
one_task = 0x01 ∷ 0x01 ∷ 0x00 ∷ 0x05 ∷ 0x00 ∷ []

abbrev no_resource : List ℕ
no_resource = one_task ++ 0x00 ∷ []

-- so many tasks, each of a priority of its own
abbrev tasks : ℕ → List ℕ
tasks zero = []
tasks (suc n) = 0x00 ∷ suc n ∷ 0x00 ∷ tasks n

-- tasks 0 and 2 and ISR 1, and a table of period 4 up to its entry count
abbrev three_bodies : List ℕ
three_bodies = 0x01 ∷ 0x03 ∷ 0x00 ∷ 0x05 ∷ 0x00 ∷ 0x01 ∷ 0x06 ∷ 0x00 ∷ 0x00 ∷ 0x07 ∷ 0x00 ∷ 0x00 ∷ 0x01 ∷ 0x04 ∷ []

-- tasks 0 and 3 of kind 0, tasks 1 and 2 of kind 3, up to the resource count
abbrev timed_bodies : List ℕ
timed_bodies = 0x01 ∷ 0x04 ∷ 0x00 ∷ 0x05 ∷ 0x00 ∷ 0x03 ∷ 0x06 ∷ 0x00 ∷ 0x03 ∷ 0x07 ∷ 0x00 ∷ 0x00 ∷ 0x08 ∷ 0x00 ∷ []

-- the same with a table of period 4 and two entries, up to the first of them
abbrev two_entries : List ℕ
two_entries = timed_bodies ++ 0x00 ∷ 0x01 ∷ 0x04 ∷ 0x02 ∷ []

-- a table of 16 entries
abbrev sixteen : List ℕ
sixteen =
    0x10 ∷ 0x10 ∷ 0 ∷ 0 ∷ 1 ∷ 0 ∷ 2 ∷ 0 ∷ 3 ∷ 0 ∷ 4 ∷ 0 ∷ 5 ∷ 0 ∷ 6 ∷ 0 ∷ 7 ∷ 0 ∷ 8 ∷ 0 ∷ 9 ∷ 0 ∷ 10 ∷ 0 ∷ 11 ∷ 0 ∷ 12
    ∷ 0 ∷ 13 ∷ 0 ∷ 14 ∷ 0 ∷ 15 ∷ 0 ∷ []

abbrev sixty_four : List ℕ
sixty_four = sixteen ++ (sixteen ++ (sixteen ++ sixteen))

pub record ReaderRows : Type 0 where
  -- an empty input; 4,096 bytes and one more
  pub lengths : answers [] ([] ∷ replicate 4096 0x00 ∷ replicate 4097 0x00 ∷ []) ≡ (1, 0) ∷ (3, 0) ∷ (10, 0) ∷ []
  -- readable before in range; cut at the end, malformed at the byte that decides it
  pub unreadable : answers [] ((0x80 ∷ []) ∷ (0x80 ∷ 0x00 ∷ 0x07 ∷ []) ∷ []) ≡ (1, 1) ∷ (2, 1) ∷ []
  pub version : answers [] ((0x00 ∷ []) ∷ (0x01 ∷ []) ∷ (0x02 ∷ []) ∷ (0x03 ∷ []) ∷ (0x04 ∷ []) ∷ [])
      ≡ (3, 0) ∷ (1, 1) ∷ (1, 1) ∷ (1, 1) ∷ (3, 0) ∷ []
  pub body_count_lem : answers (0x01 ∷ []) ((0x00 ∷ []) ∷ (0x01 ∷ []) ∷ (0x20 ∷ []) ∷ (0x21 ∷ []) ∷ [])
      ≡ (4, 1) ∷ (1, 2) ∷ (1, 2) ∷ (4, 1) ∷ []
  pub kind : answers (0x01 ∷ 0x01 ∷ []) ((0x00 ∷ []) ∷ (0x01 ∷ []) ∷ (0x02 ∷ []) ∷ (0x03 ∷ []) ∷ (0x04 ∷ []) ∷ [])
      ≡ (1, 3) ∷ (1, 3) ∷ (1, 3) ∷ (1, 3) ∷ (5, 2) ∷ []
  pub priority : answers (0x01 ∷ 0x01 ∷ 0x00 ∷ [])
      ((0x00 ∷ []) ∷ (0x01 ∷ []) ∷ (0xC8 ∷ 0x01 ∷ []) ∷ (0xC9 ∷ 0x01 ∷ []) ∷ [])
      ≡ (5, 3) ∷ (1, 4) ∷ (1, 5) ∷ (5, 3) ∷ []
  -- 6 before the autostart is read
  pub priority_used : answers (0x01 ∷ 0x02 ∷ 0x00 ∷ 0x05 ∷ 0x00 ∷ 0x00 ∷ [])
      ((0x04 ∷ []) ∷ (0x05 ∷ []) ∷ (0x05 ∷ 0x02 ∷ []) ∷ [])
      ≡ (1, 7) ∷ (6, 6) ∷ (6, 6) ∷ []
  pub autostart_task : answers (0x01 ∷ 0x01 ∷ 0x00 ∷ 0x05 ∷ []) ((0x00 ∷ []) ∷ (0x01 ∷ []) ∷ (0x02 ∷ []) ∷ [])
      ≡ (1, 5) ∷ (1, 5) ∷ (5, 4) ∷ []
  pub autostart_isr : answers (0x01 ∷ 0x01 ∷ 0x01 ∷ 0x05 ∷ []) ((0x00 ∷ []) ∷ (0x01 ∷ []) ∷ []) ≡ (1, 5) ∷ (5, 4) ∷ []
  -- an extended task may be autostart
  pub autostart_extended : answers (0x01 ∷ 0x01 ∷ 0x02 ∷ 0x05 ∷ []) ((0x00 ∷ []) ∷ (0x01 ∷ []) ∷ (0x02 ∷ []) ∷ [])
      ≡ (1, 5) ∷ (1, 5) ∷ (5, 4) ∷ []
  -- a body of each kind in each version: the deadline, a byte of 0 here, stands in version 3 alone
  pub versions_kinds : map (λ (v : ℕ). answers (v ∷ 0x01 ∷ [])
      (map (λ (k : ℕ). k ∷ 0x05 ∷ 0x00 ∷ 0x00 ∷ 0x00 ∷ []) (0 ∷ 1 ∷ 2 ∷ 3 ∷ []))) (1 ∷ 2 ∷ 3 ∷ [])
      ≡ ((0, 7) ∷ (0, 7) ∷ (0, 7) ∷ (0, 7) ∷ []) ∷ ((0, 7) ∷ (0, 7) ∷ (0, 7) ∷ (0, 7) ∷ [])
      ∷ ((1, 7) ∷ (1, 7) ∷ (1, 7) ∷ (1, 7) ∷ []) ∷ []
  -- "1 to 65,535 ticks", "0 for none": 0, 1, 65,535 and 65,536, and none, of kinds 0, 2 and 3
  pub deadline : map (λ (k : ℕ). answers (0x03 ∷ 0x01 ∷ k ∷ 0x05 ∷ 0x00 ∷ [])
      ((0x00 ∷ []) ∷ (0x01 ∷ []) ∷ (0xFF ∷ 0xFF ∷ 0x03 ∷ []) ∷ (0x80 ∷ 0x80 ∷ 0x04 ∷ []) ∷ [] ∷ [])) (0 ∷ 2 ∷ 3 ∷ [])
      ≡ ((1, 6) ∷ (1, 6) ∷ (1, 8) ∷ (5, 5) ∷ (1, 5) ∷ []) ∷ ((1, 6) ∷ (1, 6) ∷ (1, 8) ∷ (5, 5) ∷ (1, 5) ∷ [])
      ∷ ((1, 6) ∷ (1, 6) ∷ (1, 8) ∷ (5, 5) ∷ (1, 5) ∷ []) ∷ []
  pub deadline_isr : answers (0x03 ∷ 0x01 ∷ 0x01 ∷ 0x05 ∷ 0x00 ∷ [])
      ((0x00 ∷ []) ∷ (0x01 ∷ []) ∷ (0x80 ∷ 0x80 ∷ 0x04 ∷ []) ∷ [])
      ≡ (1, 6) ∷ (5, 5) ∷ (5, 5) ∷ []
  -- each body has its own: of two tasks the second has 2, and no number stands between its deadline and the count
  pub deadline_each : answers (0x03 ∷ 0x02 ∷ 0x00 ∷ 0x05 ∷ 0x00 ∷ 0x01 ∷ 0x00 ∷ 0x06 ∷ 0x00 ∷ 0x02 ∷ [])
      ((0x00 ∷ 0x00 ∷ []) ∷ (0x11 ∷ []) ∷ [])
      ≡ (0, 12) ∷ (4, 10) ∷ []
  pub resource_count_lem : answers one_task ((0x10 ∷ []) ∷ (0x11 ∷ []) ∷ []) ≡ (1, 6) ∷ (4, 5) ∷ []
  -- the masks of one body
  pub users : answers (one_task ++ 0x01 ∷ []) ((0x00 ∷ []) ∷ (0x01 ∷ []) ∷ (0x02 ∷ []) ∷ (0x03 ∷ []) ∷ [])
      ≡ (5, 6) ∷ (1, 7) ∷ (5, 6) ∷ (5, 6) ∷ []
  -- the masks of 31 bodies and of 32: bits 30 and 31 of the first, all bits of the second
  pub users_of_many : (answers (0x01 ∷ 31 ∷ (tasks 31 ++ 0x01 ∷ []))
      ((0x80 ∷ 0x80 ∷ 0x80 ∷ 0x80 ∷ 0x04 ∷ []) ∷ (0x80 ∷ 0x80 ∷ 0x80 ∷ 0x80 ∷ 0x08 ∷ []) ∷ [])
      ≡ (1, 101) ∷ (5, 96) ∷ [])
      × (answers (0x01 ∷ 32 ∷ (tasks 32 ++ 0x01 ∷ [])) ((0xFF ∷ 0xFF ∷ 0xFF ∷ 0xFF ∷ 0x0F ∷ []) ∷ []) ≡ (1, 104) ∷ [])
  pub table_count_lem : answers no_resource ((0x08 ∷ []) ∷ (0x09 ∷ []) ∷ []) ≡ (1, 7) ∷ (4, 6) ∷ []
  pub period : answers (no_resource ++ 0x01 ∷ [])
      ((0x00 ∷ []) ∷ (0x01 ∷ []) ∷ (0xFF ∷ 0xFF ∷ 0x03 ∷ []) ∷ (0x80 ∷ 0x80 ∷ 0x04 ∷ []) ∷ [])
      ≡ (5, 7) ∷ (1, 8) ∷ (1, 10) ∷ (5, 7) ∷ []
  pub entry_count_lem : answers (no_resource ++ 0x01 ∷ 0x04 ∷ [])
      ((0x00 ∷ []) ∷ (0x01 ∷ []) ∷ (0x10 ∷ []) ∷ (0x11 ∷ []) ∷ [])
      ≡ (4, 8) ∷ (1, 9) ∷ (1, 9) ∷ (4, 8) ∷ []
  -- 64 entries and one more; 4 before 8
  pub entry_total : answers no_resource
      ((0x04 ∷ sixty_four) ∷ (0x05 ∷ (sixty_four ++ 0x01 ∷ 0x01 ∷ [])) ∷ (0x05 ∷ (sixty_four ++ 0x01 ∷ 0x11 ∷ [])) ∷ [])
      ≡ (0, 143) ∷ (8, 144) ∷ (4, 144) ∷ []
  pub offset : answers (three_bodies ++ 0x01 ∷ []) ((0x03 ∷ []) ∷ (0x04 ∷ []) ∷ []) ≡ (1, 16) ∷ (5, 15) ∷ []
  -- a task, an ISR, no body
  pub task : answers (three_bodies ++ 0x01 ∷ 0x03 ∷ []) ((0x02 ∷ []) ∷ (0x01 ∷ []) ∷ (0x03 ∷ []) ∷ [])
      ≡ (0, 17) ∷ (5, 16) ∷ (5, 16) ∷ []
  -- an extended one
  pub task_extended : answers (0x01 ∷ 0x01 ∷ 0x02 ∷ 0x05 ∷ 0x00 ∷ 0x00 ∷ 0x01 ∷ 0x04 ∷ 0x01 ∷ 0x03 ∷ [])
      ((0x00 ∷ []) ∷ [])
      ≡ (0, 11) ∷ []
  -- after offset 1 and task 0: the same, an offset that falls, a task that rises; 5 before 7; and task 2 before task 0
  pub entry_order : answers (three_bodies ++ 0x02 ∷ 0x01 ∷ []) (
      (0x00 ∷ 0x01 ∷ 0x00 ∷ []) ∷ (0x00 ∷ 0x00 ∷ 0x02 ∷ []) ∷ (0x00 ∷ 0x01 ∷ 0x02 ∷ []) ∷ (0x00 ∷ 0x00 ∷ 0x01 ∷ [])
      ∷ (0x02 ∷ 0x01 ∷ 0x00 ∷ []) ∷ []
      )
      ≡ (7, 18) ∷ (7, 18) ∷ (0, 19) ∷ (5, 18) ∷ (7, 18) ∷ []
  -- the entries of another table need not come after those of the one before
  pub next_table : answers (no_resource ++ 0x02 ∷ 0x04 ∷ 0x01 ∷ 0x03 ∷ 0x00 ∷ []) ((0x04 ∷ 0x01 ∷ 0x00 ∷ 0x00 ∷ []) ∷ [])
      ≡ (0, 15) ∷ []
  -- a body of kind 3: its priority has the range of the others and is its own, and it may not be autostart
  pub priority_timed : answers (0x01 ∷ 0x02 ∷ 0x03 ∷ 0x05 ∷ 0x00 ∷ 0x03 ∷ [])
      ((0x00 ∷ []) ∷ (0x04 ∷ []) ∷ (0x05 ∷ []) ∷ (0xC9 ∷ 0x01 ∷ []) ∷ [])
      ≡ (5, 6) ∷ (1, 7) ∷ (6, 6) ∷ (5, 6) ∷ []
  -- a body of each kind after one of kind 3, and one of kind 3 after each kind: 6 where the priority is used, both ways
  pub priority_shared : answers (0x01 ∷ 0x02 ∷ []) (
      (0x03 ∷ 0x05 ∷ 0x00 ∷ 0x00 ∷ 0x05 ∷ []) ∷ (0x03 ∷ 0x05 ∷ 0x00 ∷ 0x01 ∷ 0x05 ∷ [])
      ∷ (0x03 ∷ 0x05 ∷ 0x00 ∷ 0x02 ∷ 0x05 ∷ []) ∷ (0x00 ∷ 0x05 ∷ 0x01 ∷ 0x03 ∷ 0x05 ∷ [])
      ∷ (0x01 ∷ 0x05 ∷ 0x00 ∷ 0x03 ∷ 0x05 ∷ []) ∷ (0x02 ∷ 0x05 ∷ 0x01 ∷ 0x03 ∷ 0x05 ∷ [])
      ∷ (0x03 ∷ 0x05 ∷ 0x00 ∷ 0x00 ∷ 0x06 ∷ []) ∷ (0x00 ∷ 0x05 ∷ 0x01 ∷ 0x03 ∷ 0x06 ∷ []) ∷ []
      )
      ≡ (6, 6) ∷ (6, 6) ∷ (6, 6) ∷ (6, 6) ∷ (6, 6) ∷ (6, 6) ∷ (1, 7) ∷ (1, 7) ∷ []
  pub autostart_timed : answers (0x01 ∷ 0x01 ∷ 0x03 ∷ 0x05 ∷ []) ((0x00 ∷ []) ∷ (0x01 ∷ []) ∷ (0x02 ∷ []) ∷ [])
      ≡ (1, 5) ∷ (5, 4) ∷ (5, 4) ∷ []
  -- the masks of bodies 0, 3, both; then those with the bit of body 1, of body 2, or of a body that is not there
  pub users_timed : answers (timed_bodies ++ 0x01 ∷ []) (
      (0x01 ∷ []) ∷ (0x08 ∷ []) ∷ (0x09 ∷ []) ∷ (0x02 ∷ []) ∷ (0x04 ∷ []) ∷ (0x03 ∷ []) ∷ (0x0D ∷ []) ∷ (0x0F ∷ [])
      ∷ (0x12 ∷ []) ∷ []
      )
      ≡ (1, 16) ∷ (1, 16) ∷ (1, 16) ∷ (5, 15) ∷ (5, 15) ∷ (5, 15) ∷ (5, 15) ∷ (5, 15) ∷ (5, 15) ∷ []
  -- no table has it; a table has it alone
  pub task_timed : answers (timed_bodies ++ 0x00 ∷ []) ((0x00 ∷ []) ∷ (0x01 ∷ 0x04 ∷ 0x01 ∷ 0x03 ∷ 0x01 ∷ []) ∷ [])
      ≡ (0, 16) ∷ (0, 20) ∷ []
  -- after offset 1: the same offset where the second is of kind 3, the first, both, none; another offset where both are
  pub offset_shared : answers (two_entries ++ 0x01 ∷ []) (
      (0x00 ∷ 0x01 ∷ 0x01 ∷ []) ∷ (0x01 ∷ 0x01 ∷ 0x03 ∷ []) ∷ (0x01 ∷ 0x01 ∷ 0x02 ∷ []) ∷ (0x00 ∷ 0x01 ∷ 0x03 ∷ [])
      ∷ (0x01 ∷ 0x02 ∷ 0x02 ∷ []) ∷ []
      )
      ≡ (13, 21) ∷ (13, 21) ∷ (13, 21) ∷ (0, 22) ∷ (0, 22) ∷ []
  -- 5 before 13, and 7 before 13: no body 4; tasks 2 and 1, tasks 3 and 1, task 1 twice
  pub shared_later : answers (two_entries ++ 0x01 ∷ []) (
      (0x01 ∷ 0x01 ∷ 0x04 ∷ []) ∷ (0x02 ∷ 0x01 ∷ 0x01 ∷ []) ∷ (0x03 ∷ 0x01 ∷ 0x01 ∷ []) ∷ (0x01 ∷ 0x01 ∷ 0x01 ∷ []) ∷ []
      )
      ≡ (5, 21) ∷ (7, 21) ∷ (7, 21) ∷ (7, 21) ∷ []
  -- kind 3 after kind 0, and kind 0 after kind 3; 7 before 14
  pub table_mixed : answers (two_entries ++ 0x01 ∷ [])
      ((0x00 ∷ 0x02 ∷ 0x01 ∷ []) ∷ (0x01 ∷ 0x02 ∷ 0x00 ∷ []) ∷ (0x01 ∷ 0x00 ∷ 0x00 ∷ []) ∷ [])
      ≡ (14, 21) ∷ (14, 21) ∷ (7, 21) ∷ []
  -- the same at the third of three entries
  pub mixed_later : answers (timed_bodies ++ 0x00 ∷ 0x01 ∷ 0x04 ∷ 0x03 ∷ []) (
      (0x00 ∷ 0x00 ∷ 0x01 ∷ 0x03 ∷ 0x02 ∷ 0x01 ∷ []) ∷ (0x00 ∷ 0x01 ∷ 0x01 ∷ 0x02 ∷ 0x02 ∷ 0x00 ∷ [])
      ∷ (0x00 ∷ 0x01 ∷ 0x01 ∷ 0x02 ∷ 0x02 ∷ 0x01 ∷ []) ∷ []
      )
      ≡ (14, 23) ∷ (14, 23) ∷ (0, 24) ∷ []
  -- after a table with offset 1 and task 1: tasks 0, 1 and 2 at the same offset; task 2 and then task 1; task 0 and
  -- then task 1, at another offset and at the same
  pub table_second : answers (timed_bodies ++ 0x00 ∷ 0x02 ∷ 0x04 ∷ 0x01 ∷ 0x01 ∷ 0x01 ∷ 0x04 ∷ []) (
      (0x01 ∷ 0x01 ∷ 0x00 ∷ []) ∷ (0x01 ∷ 0x01 ∷ 0x01 ∷ []) ∷ (0x01 ∷ 0x01 ∷ 0x02 ∷ [])
      ∷ (0x02 ∷ 0x00 ∷ 0x02 ∷ 0x01 ∷ 0x01 ∷ [])
      ∷ (0x02 ∷ 0x00 ∷ 0x00 ∷ 0x01 ∷ 0x01 ∷ []) ∷ (0x02 ∷ 0x01 ∷ 0x00 ∷ 0x01 ∷ 0x01 ∷ []) ∷ []
      )
      ≡ (0, 24) ∷ (14, 23) ∷ (14, 23) ∷ (14, 23) ∷ (14, 25) ∷ (13, 25) ∷ []
  -- three tables of an entry: of kind 3 the second alone, the last two, the first and the last
  pub table_third : answers (timed_bodies ++ 0x00 ∷ 0x03 ∷ 0x04 ∷ 0x01 ∷ 0x00 ∷ []) (
      (0x00 ∷ 0x04 ∷ 0x01 ∷ 0x00 ∷ 0x01 ∷ 0x04 ∷ 0x01 ∷ 0x00 ∷ 0x00 ∷ [])
      ∷ (0x00 ∷ 0x04 ∷ 0x01 ∷ 0x00 ∷ 0x01 ∷ 0x04 ∷ 0x01 ∷ 0x00 ∷ 0x02 ∷ [])
      ∷ (0x01 ∷ 0x04 ∷ 0x01 ∷ 0x00 ∷ 0x00 ∷ 0x04 ∷ 0x01 ∷ 0x00 ∷ 0x02 ∷ []) ∷ []
      )
      ≡ (0, 28) ∷ (14, 27) ∷ (14, 27) ∷ []
  pub left_over_lem : answers (no_resource ++ 0x00 ∷ []) ([] ∷ (0x00 ∷ []) ∷ (0x80 ∷ 0x80 ∷ []) ∷ [])
      ≡ (0, 7) ∷ (9, 7) ∷ (9, 7) ∷ []

pub reader_rows : ReaderRows
unfolding read_number groups continued fifth_group read_config read_from number_at fault_at put_at ended among timed_in some_timed
reader_rows =
    record {
      lengths = refl;
      unreadable = refl;
      version = refl;
      body_count_lem = refl;
      kind = refl;
      priority = refl;
      priority_used = refl;
      autostart_task = refl;
      autostart_isr = refl;
      autostart_extended = refl;
      versions_kinds = refl;
      deadline = refl;
      deadline_isr = refl;
      deadline_each = refl;
      resource_count_lem = refl;
      users = refl;
      users_of_many = (refl, refl);
      table_count_lem = refl;
      period = refl;
      entry_count_lem = refl;
      entry_total = refl;
      offset = refl;
      task = refl;
      task_extended = refl;
      entry_order = refl;
      next_table = refl;
      priority_timed = refl;
      priority_shared = refl;
      autostart_timed = refl;
      users_timed = refl;
      task_timed = refl;
      offset_shared = refl;
      shared_later = refl;
      table_mixed = refl;
      mixed_later = refl;
      table_second = refl;
      table_third = refl;
      left_over_lem = refl;
    }

-- document 01's listing, and its value
abbrev listing : List ℕ
listing =
    0x01 ∷ 0x03 ∷ 0x00 ∷ 0x02 ∷ 0x01 ∷ 0x00 ∷ 0x05 ∷ 0x00 ∷ 0x01 ∷ 0x09 ∷ 0x00 ∷ 0x01 ∷ 0x03 ∷ 0x01 ∷ 0x04 ∷ 0x02 ∷ 0x00
    ∷ 0x01 ∷ 0x02 ∷ 0x00 ∷ []

abbrev value : Config
value = (read_config listing).config

-- the listing in version 3, with a deadline of 300 of its first task
abbrev third_listing : List ℕ
third_listing =
    0x03 ∷ 0x03 ∷ 0x00 ∷ 0x02 ∷ 0x01 ∷ 0xAC ∷ 0x02 ∷ 0x00 ∷ 0x05 ∷ 0x00 ∷ 0x00 ∷ 0x01 ∷ 0x09 ∷ 0x00 ∷ 0x00 ∷ 0x01 ∷ 0x03
    ∷ 0x01 ∷ 0x04 ∷ 0x02 ∷ 0x00 ∷ 0x01 ∷ 0x02 ∷ 0x00 ∷ []

-- a value with 64 entries
abbrev full : Config
full = (read_config (no_resource ++ 0x04 ∷ sixty_four)).config

-- a resource of tasks 0 and 3, and a table with tasks 1 and 2 of kind 3
abbrev timed_listing : List ℕ
timed_listing = timed_bodies ++ 0x01 ∷ 0x09 ∷ 0x01 ∷ 0x04 ∷ 0x02 ∷ 0x01 ∷ 0x01 ∷ 0x02 ∷ 0x02 ∷ []

abbrev timed : Config
timed = (read_config timed_listing).config

-- the writer's refusal and place, with room for n bytes
abbrev answer : ℕ → Config → ℕ × ℕ
answer n c = ((write_config c n).refusal, (write_config c n).place)

pub record WriterRows : Type 0 where
  -- the length, and 30 with the bytes needed
  pub room : (answer 21 value ≡ (0, 20)) × (answer 20 value ≡ (0, 20)) × (answer 19 value ≡ (30, 20))
  -- 3 to 8 at place 0, before 30, and the first in the reader's order
  pub refused : map (answer 0) (
      with_version value 0 ∷ with_version value 4 ∷ with_bodies value 33 ∷ with_kind value 1 4 ∷ with_priority value 2 5
      ∷ with_autostart value 2 1 ∷ with_users value 0 8
      ∷ with_period value 0 0 ∷ with_entries value 0 17 ∷ with_offset value 1 0 ∷ with_task value 1 2
      ∷ with_entries (with_period (with_tables full 5) 4 1) 4 1 ∷ with_version (with_bodies value 33) 4 ∷ []
      )
      ≡ (3, 0) ∷ (3, 0) ∷ (4, 0) ∷ (5, 0) ∷ (6, 0) ∷ (5, 0) ∷ (5, 0) ∷ (5, 0) ∷ (4, 0) ∷ (7, 0) ∷ (5, 0) ∷ (8, 0)
      ∷ (3, 0) ∷ []
  -- bytes beyond the length stay; too short or refused, all stay
  pub output : (wrote_config value (replicate 22 0xFF) ≡ listing ++ 0xFF ∷ 0xFF ∷ [])
      × (wrote_config value (replicate 19 0xFF) ≡ replicate 19 0xFF)
      × (wrote_config (with_version value 4) (replicate 22 0xFF) ≡ replicate 22 0xFF)
  -- version 2 is written as it is
  pub second : wrote_config (with_version value 2) (replicate 20 0xFF) ≡ 0x02 ∷ drop 1 listing
  -- a deadline in versions 1 and 2, in version 3 one above 65,535 and one of an ISR; where its number would stand: before
  -- the next body's priority, which is used, and after its own
  pub refused_deadline : map (answer 0) (
      with_deadline value 0 1 ∷ with_version (with_deadline value 1 1) 2 ∷ with_version (with_deadline value 0 65536) 3
      ∷ with_version (with_deadline value 2 1) 3 ∷ with_priority (with_deadline value 0 1) 1 2
      ∷ with_priority (with_deadline value 1 1) 1 2 ∷ []
      )
      ≡ (5, 0) ∷ (5, 0) ∷ (5, 0) ∷ (5, 0) ∷ (5, 0) ∷ (6, 0) ∷ []
  -- a deadline of 300 of the first task in version 3, written, and read back
  pub third : (wrote_config (with_version (with_deadline value 0 300) 3) (replicate 24 0xFF) ≡ third_listing)
      × ((read_config third_listing).config.deadline ≡ 300 ∷ replicate 31 0)
      × ((read_config third_listing).place ≡ 24)
  -- kind 3: its autostart, a mask bit for it; offset 1 for both entries, with task 3 as the second too, and with task 2
  -- for both; task 0 as the first, task 3 as the second; a second table; kind 4
  pub refused_timed : map (answer 0) (
      with_autostart timed 1 1 ∷ with_users timed 0 3 ∷ with_offset timed 1 1 ∷ with_offset (with_task timed 1 3) 1 1
      ∷ with_offset (with_task timed 0 2) 1 1
      ∷ with_task timed 0 0 ∷ with_task timed 1 3 ∷ with_task (with_entries (with_period (with_tables timed 2) 1 4) 1 1) 2 1
      ∷ with_kind timed 1 4 ∷ []
      )
      ≡ (5, 0) ∷ (5, 0) ∷ (13, 0) ∷ (13, 0) ∷ (7, 0) ∷ (14, 0) ∷ (14, 0) ∷ (14, 0) ∷ (5, 0) ∷ []
  -- and in order
  pub written_timed : (answer 22 timed ≡ (30, 23)) × (wrote_config timed (replicate 24 0xFF) ≡ timed_listing ++ 0xFF ∷ [])
  -- entries past the counts are ignored
  pub past : answer 20 (with_kind (with_users (with_task value 2 200) 1 77) 3 9) ≡ (0, 20)

pub writer_rows : WriterRows
unfolding read_number groups continued fifth_group number_bytes group_bytes writing written read_config read_from number_at fault_at
    put_at asked_at ended among timed_in some_timed bytes_at fault_from bytes_from
writer_rows =
    record {
      room = (refl, refl, refl);
      refused = refl;
      output = (refl, refl, refl);
      second = refl;
      refused_deadline = refl;
      third = (refl, refl, refl);
      refused_timed = refl;
      written_timed = (refl, refl);
      past = refl;
    }
