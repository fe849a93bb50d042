-- What the walk gives, over the input and over a value.
--
--   walk_from source k at d  the numbers that a source gives from d on, at most k of them: the value that they make, and
--                            the place after them, or the first refusal
--   given c d at             the number of the value c where d is, as if it had been read at the place `at`
--   shown q v                the bytes of the number v, none where it stands in no byte (q)
use Rattle.std.specs.Prelude.{ℕ, zero, suc, ◌+◌, Bool, cond, List, [], eqb, length}
use Rattle.number.specs.Refusal.{none}
use Rattle.number.specs.Number.{NumberRead, accepted, number_bytes}
use Rattle.config.specs.declared.Config.{Config}
use Rattle.config.specs.declared.Draft.{Draft}
use Rattle.config.specs.Draft.{asked, ended, put}
use Rattle.config.specs.Reader.{ConfigRead, refused, number_fault, fault_place}
use Rattle.config.specs.Reader as Reader
use Rattle.config.specs.Writer.{bytes_at}

unfoldable pub walk_from : (Draft → ℕ → NumberRead) → ℕ → ℕ → Draft → ConfigRead
walk_from source zero at d = Reader.accepted d.config at
walk_from source (suc k) at d =
    let r = source d at in
    let rest = walk_from source k r.place (put d r.value) in
    cond (ended d.field) (Reader.accepted d.config at)
    (cond (eqb (number_fault d r) none) rest (refused (number_fault d r) (fault_place at r)))

abbrev pub given : Config → Draft → ℕ → NumberRead
given c d at = accepted (asked c d) (at + length (bytes_at d (asked c d)))

abbrev pub shown : Bool → ℕ → List ℕ
shown q v = cond q [] (number_bytes v)
