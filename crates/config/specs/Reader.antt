-- The configuration reader: number after number, until none is left to read.
--
--   read_config bs  the configuration that bs is, or the one refusal with its place
use Rattle.std.specs.Prelude.{ℕ, zero, suc, cond, List, leb, eqb, length, Result, Ok, Err}
use Rattle.number.specs.declared.Refused.{Refused}
use Rattle.number.specs.declared.Reading.{Reading}
use Rattle.number.specs.Refusal.{none, cut}
use Rattle.number.specs.Answer.{code}
use Rattle.number.specs.Number.{NumberRead, read_number}
use Rattle.config.specs.declared.Config.{Config}
use Rattle.config.specs.declared.Draft.{Draft}
use Rattle.config.specs.Refusal.{left_over, too_long}
use Rattle.config.specs.Value.{no_config, with_version}
use Rattle.config.specs.Draft.{fault, put, ended, silent, start}

-- What a reading gives: the configuration with refusal 0 and the place after it, or the all-zero value with the refusal
-- and its place.
pub record ConfigRead : Type 0 where
  pub config : Config
  pub refusal : ℕ
  pub place : ℕ

-- "An accepted reading has refusal 0 and the place after it"
abbrev pub accepted : Config → ℕ → ConfigRead
accepted c p = record { config = c; refusal = none; place = p }

-- "A refused reader returns an all-zero value with refusal and place"
abbrev pub refused : ℕ → ℕ → ConfigRead
refused r p = record { config = no_config; refusal = r; place = p }

-- the answer of a function, in document 01's numbers
abbrev pub as_config_read : Result (Reading Config) Refused → ConfigRead
as_config_read (Ok r) = accepted r.value r.place
as_config_read (Err e) = refused (code e.refusal) e.place

-- the same reading, in version 2
abbrev pub in_second : ConfigRead → ConfigRead
in_second r = cond (eqb r.refusal none) (accepted (with_version r.config 2) r.place) r

-- the number where d is: one that stands in no byte is 0, and the place stays
unfoldable pub number_at : Draft → List ℕ → ℕ → NumberRead
number_at d bs at = cond (silent d) (record { value = 0; refusal = none; place = at }) (read_number bs at)

-- "Each number is tested for being readable, then for its range, then for 6, 7 or 8"
abbrev pub number_fault : Draft → NumberRead → ℕ
number_fault d r = cond (eqb r.refusal none) (fault d r.value) r.refusal

-- the place of a number that is refused: that of an unreadable one is the number reader's,
-- else "the offending number's first byte"
abbrev pub fault_place : ℕ → NumberRead → ℕ
fault_place at r = cond (eqb r.refusal none) at r.place

-- after the last number: "bytes left over" are refused at the first of them
abbrev pub finished : List ℕ → ℕ → Draft → ConfigRead
finished bs at d = cond (eqb at (length bs)) (accepted d.config at) (refused left_over at)

-- the numbers from a place on, at most k of them
unfoldable pub read_from : ℕ → List ℕ → ℕ → Draft → ConfigRead
read_from zero bs at d = cond (ended d.field) (finished bs at d) (refused cut at)
read_from (suc k) bs at d =
    let r = number_at d bs at in
    let rest = read_from k bs r.place (put d r.value) in
    cond (ended d.field) (finished bs at d)
    (cond (eqb (number_fault d r) none) rest (refused (number_fault d r) (fault_place at r)))

-- the most numbers that a configuration has: 2, 4 for each of 32 bodies, 1 and 16 for resources,
-- 1, 2 for each of 8 tables and 2 for each of 64 entries
abbrev pub max_numbers : ℕ
max_numbers = 292

-- "configuration over 4,096 bytes"
abbrev pub max_length : ℕ
max_length = 4096

-- "Checks: 10, the configuration in reading order"
unfoldable pub read_config : List ℕ → ConfigRead
read_config bs = cond (leb (length bs) max_length) (read_from max_numbers bs 0 start) (refused too_long 0)
