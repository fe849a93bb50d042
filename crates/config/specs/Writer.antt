-- The configuration writer: the numbers of a value in reading order, and the first that the reader would refuse.
--
--   first_fault c                       the refusal of the first number of c that is not in order, 0 where there is none
--   config_bytes c                      the bytes of c, as far as its counts reach
--   write_config c n, wrote_config c d  what the writer answers, and what it leaves in its output
use Rattle.std.specs.Prelude.{ℕ, zero, suc, cond, List, [], ◌++◌, eqb, length}
use Rattle.number.specs.Refusal.{none}
use Rattle.number.specs.Number.{number_bytes}
use Rattle.number.specs.Output.{Written, unwritten, writing, written}
use Rattle.config.specs.declared.Config.{Config}
use Rattle.config.specs.declared.Draft.{Draft}
use Rattle.config.specs.Draft.{fault, put, asked, ended, silent, start}
use Rattle.config.specs.Reader.{max_numbers}

-- the bytes of the number v where d is: none, where it stands in no byte
unfoldable pub bytes_at : Draft → ℕ → List ℕ
bytes_at d v = cond (silent d) [] (number_bytes v)

-- the refusal of the first that is not in order, among at most k numbers of c from d on
unfoldable pub fault_from : ℕ → Config → Draft → ℕ
fault_from zero c d = none
fault_from (suc k) c d =
    let v = asked c d in
    let rest = fault_from k c (put d v) in
    cond (ended d.field) none (cond (eqb (fault d v) none) rest (fault d v))

abbrev pub first_fault : Config → ℕ
first_fault c = fault_from max_numbers c start

-- the bytes of at most k numbers of c, from d on
unfoldable pub bytes_from : ℕ → Config → Draft → List ℕ
bytes_from zero c d = []
bytes_from (suc k) c d =
    let rest = bytes_at d (asked c d) ++ bytes_from k c (put d (asked c d)) in
    cond (ended d.field) [] rest

abbrev pub config_bytes : Config → List ℕ
config_bytes c = bytes_from max_numbers c start

-- the writer's first walk: the first refusal, at place 0, or how many bytes the value takes
abbrev pub measured : Config → Written
measured c =
    cond (eqb (first_fault c) none) (record { refusal = none; place = length (config_bytes c) })
    (unwritten (first_fault c) 0)

-- "refuse with 3 to 8 in the reader's order .. all at place 0, then 30"; 13 and 14 too: "(writer: 0)"
abbrev pub write_config : Config → ℕ → Written
write_config c n = cond (eqb (first_fault c) none) (writing (config_bytes c) n) (unwritten (first_fault c) 0)

-- "and leave their output untouched"
abbrev pub wrote_config : Config → List ℕ → List ℕ
wrote_config c d = cond (eqb (first_fault c) none) (written (config_bytes c) d) d
