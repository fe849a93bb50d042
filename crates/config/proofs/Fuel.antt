-- The fuel of reader and writer is enough: with more they give the same.
use Prim.Native.Nat.{ℕ, zero, suc, ◌≤◌}
use mathlib.Core.Path.{◌≡◌, refl, sym, ◌∙◌}
use mathlib.Core.List.{List}
use native.Mathlib.Omega.{arith}
use Rattle.number.specs.Refusal.{none}
use Rattle.number.proofs.Cases.{by_test, by_eq}
use Rattle.config.specs.declared.Config.{Config}
use Rattle.config.specs.declared.Draft.{Draft}
use Rattle.config.specs.Draft.{fault, put, asked, ended, start, Within}
use Rattle.config.specs.Reader.{number_at, number_fault, max_numbers, read_from}
use Rattle.config.specs.Writer.{fault_from, bytes_from, first_fault, config_bytes}
use Rattle.config.proofs.Position.{left, moved, some_left, start_within}
use Rattle.config.proofs.Walk.{number_fine, read_end, read_step, read_stop, fault_end, fault_step, fault_stop, walk_bytes}
use Rattle.config.proofs.RoundTrip.{walk, enough, walk_written}

read_fuel : (k j : ℕ) (bs : List ℕ) (at : ℕ) (d : Draft) → Within d → left d ≤ k → left d ≤ j
    → read_from k bs at d ≡ read_from j bs at d
read_fuel zero zero bs at d w p q = refl
read_fuel zero (suc j) bs at d w p q =
    by_test (ended d.field)
    (λ t. read_end zero bs at d t ∙ sym (read_end (suc j) bs at d t))
    (λ t. absurd (omega (arith, some_left d t w)))
read_fuel (suc k) zero bs at d w p q =
    by_test (ended d.field)
    (λ t. read_end (suc k) bs at d t ∙ sym (read_end zero bs at d t))
    (λ t. absurd (omega (arith, some_left d t w)))
read_fuel (suc k) (suc j) bs at d w p q =
    let n = number_at d bs at in
    by_test (ended d.field)
    (λ t. read_end (suc k) bs at d t ∙ sym (read_end (suc j) bs at d t))
    (λ t. by_eq (number_fault d n) none
    (λ f. let m = moved d n.value t (number_fine d n f).1 w in
    read_step k bs at d n refl t f
    ∙ read_fuel k j bs n.place (put d n.value) m.within (omega arith) (omega arith)
    ∙ sym (read_step j bs at d n refl t f))
    (λ f. read_stop k bs at d n refl t f ∙ sym (read_stop j bs at d n refl t f)))

fault_fuel : (k j : ℕ) (c : Config) (d : Draft) → Within d → left d ≤ k → left d ≤ j → fault_from k c d ≡ fault_from j c d
fault_fuel zero zero c d w p q = refl
fault_fuel zero (suc j) c d w p q =
    by_test (ended d.field)
    (λ t. fault_end zero c d t ∙ sym (fault_end (suc j) c d t))
    (λ t. absurd (omega (arith, some_left d t w)))
fault_fuel (suc k) zero c d w p q =
    by_test (ended d.field)
    (λ t. fault_end (suc k) c d t ∙ sym (fault_end zero c d t))
    (λ t. absurd (omega (arith, some_left d t w)))
fault_fuel (suc k) (suc j) c d w p q =
    let v = asked c d in
    by_test (ended d.field)
    (λ t. fault_end (suc k) c d t ∙ sym (fault_end (suc j) c d t))
    (λ t. by_eq (fault d v) none
    (λ f. let m = moved d v t f w in
    fault_step k c d v refl t f
    ∙ fault_fuel k j c (put d v) m.within (omega arith) (omega arith)
    ∙ sym (fault_step j c d v refl t f))
    (λ f. fault_stop k c d v refl t f ∙ sym (fault_stop j c d v refl t f)))

pub read_from_enough : (bs : List ℕ) (k : ℕ) → max_numbers ≤ k → read_from k bs 0 start ≡ read_from max_numbers bs 0 start
read_from_enough bs k h = read_fuel k max_numbers bs 0 start start_within h (omega arith)

pub fault_from_enough : (c : Config) (k : ℕ) → max_numbers ≤ k → fault_from k c start ≡ first_fault c
fault_from_enough c k h = fault_fuel k max_numbers c start start_within h (omega arith)

pub bytes_from_enough : (c : Config) (k : ℕ) → max_numbers ≤ k → first_fault c ≡ none → bytes_from k c start ≡ config_bytes c
bytes_from_enough c k h fine =
    let w = walk c fine in
    walk_bytes w.numbers k c start (omega (arith, enough c fine)) w.in_order w.asks ∙ sym (walk_written c fine)
