-- The numbers of a configuration as one list: what the reader has read, what the writer writes.
--
--   InOrder d vs  vs are the numbers from d to the end, each in order
--   last d vs     the draft that they lead to
--   Asks c d vs   vs are the numbers of c from d on
--
-- In order: the reader's definition by cases (`read_from_elim`); what an accepted reading has read (`Reads`); the reader
-- on the bytes of a list; the list of a writer without a fault (`Walks`); the writer on a list.
use Prim.Native.Nat.{ℕ, zero, suc, ◌+◌, ◌*◌, ◌≤◌, ◌<◌}
use mathlib.Core.Path.{◌≡◌, refl, sym, ap, ◌∙◌}
use mathlib.Core.Bool.{true, false, true≢false}
use mathlib.Core.List.{List, [], ◌∷◌, ◌++◌}
use native.Mathlib.Omega.{arith}
use lib.Dec.{lit≤}
use lib.ListN.{length, drop, length-append, length-drop, drop_of_length-le}
use lib.Seq.{drop-drop, drop-append_seam}
use borrow.Author.Tests.{eq-eqb, ne_eqb, not-true}
use Rattle.number.specs.Refusal.{none, cut, malformed}
use Rattle.number.specs.Number.{NumberRead, Bytes, number_bound, read_number}
use Rattle.number.proofs.Cases.{by_test, by_eq}
use Rattle.number.proofs.Theorems as Number
use Rattle.config.specs.declared.Config.{Config}
use Rattle.config.specs.declared.Draft.{Draft}
use Rattle.config.specs.declared.Field.{Field}
use Rattle.config.specs.declared.Field.TheVariants.{Version, Bodies, Kind, Priority, Autostart, Deadline, Resources, Users, Tables, Period, Entries, Offset, Task, End}
use Rattle.config.specs.Meaning.{has_deadlines}
use Rattle.config.specs.Draft.{fault, fault_at, put, asked, ended, silent, silent_at, Within}
use Rattle.config.specs.Reader.{ConfigRead, accepted, refused, number_at, number_fault, fault_place, finished, read_from}
use Rattle.config.specs.Writer.{bytes_at, fault_from, bytes_from}
use Rattle.config.proofs.Ranges.{InRange, in_range}
use Rattle.config.proofs.Position.{left, moved, Paced, paced, small, some_left}

abbrev pub InOrder : Draft → List ℕ → Type 0
InOrder d [] = ended d.field ≡ true
InOrder d (v ∷ vs) = (ended d.field ≡ false) × (fault d v ≡ none) × InOrder (put d v) vs

abbrev pub last : Draft → List ℕ → Draft
last d [] = d
last d (v ∷ vs) = last (put d v) vs

abbrev pub Asks : Config → Draft → List ℕ → Type 0
Asks c d [] = Unit {0}
Asks c d (v ∷ vs) = (asked c d ≡ v) × Asks c (put d v) vs

abbrev pub bytes_of : Draft → List ℕ → List ℕ
bytes_of d [] = []
bytes_of d (v ∷ vs) = bytes_at d v ++ bytes_of (put d v) vs

-- a list in order is no longer than `left` says
pub few_numbers : (d : Draft) (vs : List ℕ) → Within d → InOrder d vs → length vs ≤ left d
few_numbers d [] w o = omega arith
few_numbers d (v ∷ vs) w o =
    let m = moved d v o.0 o.1 w in
    let h = few_numbers (put d v) vs m.within o.2 in
    omega arith

-- a number that is read and in order
pub number_fine : (d : Draft) (r : NumberRead) → number_fault d r ≡ none
    → (r.refusal ≡ none) × (fault d r.value ≡ none)
number_fine d r h =
    by_eq r.refusal none
    (λ e. (e, rw (eq-eqb r.refusal none e) at h))
    (λ e. absurd (e (rw (ne_eqb r.refusal none e) at h)))

-- a deadline is the only number that may stand in no byte
silent_deadline : (f : Field) (version : ℕ) → silent_at f version ≡ true
    → (f ≡ Deadline) × (has_deadlines version ≡ false)
silent_deadline Version version q = absurd (true≢false (sym q))
silent_deadline Bodies version q = absurd (true≢false (sym q))
silent_deadline Kind version q = absurd (true≢false (sym q))
silent_deadline Priority version q = absurd (true≢false (sym q))
silent_deadline Autostart version q = absurd (true≢false (sym q))
silent_deadline Deadline version q = (refl, not-true (has_deadlines version) q)
silent_deadline Resources version q = absurd (true≢false (sym q))
silent_deadline Users version q = absurd (true≢false (sym q))
silent_deadline Tables version q = absurd (true≢false (sym q))
silent_deadline Period version q = absurd (true≢false (sym q))
silent_deadline Entries version q = absurd (true≢false (sym q))
silent_deadline Offset version q = absurd (true≢false (sym q))
silent_deadline Task version q = absurd (true≢false (sym q))
silent_deadline End version q = absurd (true≢false (sym q))

module _ (d : Draft) (q : silent d ≡ true) where
  -- it is 0 where it is in order, and 0 is in order
  silent_zero : (v : ℕ) → fault d v ≡ none → v ≡ 0
  silent_zero v e =
      let s = silent_deadline d.field d.config.version q in
      let h : InRange Deadline d v = rw s.0 at (in_range d v d.field e) in
      let z : v ≤ 0 = rw s.1 at h in omega arith

  pub silent_fine : fault d 0 ≡ none
  unfolding fault_at
  silent_fine =
      let s = silent_deadline d.field d.config.version q in
      rw (s.0, s.1)

-- what the number reader says of its answers holds of the number where d is
pub record Numbered (bs : List ℕ) (at : ℕ) (n : NumberRead) : Type 0 where
  pub refusals : n.refusal ≤ malformed
  pub place_le : at ≤ length bs → n.place ≤ length bs
  pub at_end : at ≤ length bs → n.refusal ≡ cut → n.place ≡ length bs
  pub there : n.refusal ≡ malformed → ((read_number bs at).refusal ≡ malformed) × (n.place ≡ (read_number bs at).place)

pub numbered : (d : Draft) (bs : List ℕ) (at : ℕ) → Numbered bs at (number_at d bs at)
unfolding number_at
numbered d bs at =
    by_test (silent d)
    (λ q. rw q
    (record {
      refusals = lit≤ tt;
      place_le = λ h. h;
      at_end = λ h e. absurd (omega arith);
      there = λ e. absurd (omega arith);
    }))
    (λ q. rw q
    (let s = Number.reading bs at in
    record {
      refusals = s.refusals;
      place_le = s.place_le;
      at_end = λ h e. omega (arith, s.at_end e);
      there = λ e. (e, refl);
    }))

-- a number in order is read back from its bytes
number_back : (d : Draft) (bs : List ℕ) (at v : ℕ) (rest : List ℕ) → v < number_bound → fault d v ≡ none
    → drop at bs ≡ bytes_at d v ++ rest
    → number_at d bs at ≡ record { value = v; refusal = none; place = at + length (bytes_at d v) }
unfolding number_at bytes_at
number_back d bs at v rest small fine e =
    by_test (silent d)
    (λ q. rw (q, silent_zero d q v fine) (ap (unread 0) (omega arith)))
    (λ q. rw q (Number.read_at bs at v rest small (rw q at e)))
  where
    unread : ℕ → ℕ → NumberRead
    unread v p = record { value = v; refusal = none; place = p }

-- the bytes of a number that was read, and those after it
number_bytes_lem : (d : Draft) (bs : List ℕ) (at : ℕ) → Bytes bs → (number_at d bs at).refusal ≡ none
    → drop at bs ≡ bytes_at d (number_at d bs at).value ++ drop (number_at d bs at).place bs
unfolding number_at bytes_at
number_bytes_lem d bs at b =
    by_test (silent d)
    (λ q. rw q (λ e. refl))
    (λ q. rw q (λ e. Number.written_read bs at b e))

pub length_bytes_at : (d : Draft) (v : ℕ) → length (bytes_at d v) ≤ 5
unfolding bytes_at
length_bytes_at d v =
    by_test (silent d)
    (λ q. rw q (lit≤ tt))
    (λ q. rw q (omega (arith, Number.length_number_bytes v)))

-- one step of the reader
pub read_end : (k : ℕ) (bs : List ℕ) (at : ℕ) (d : Draft) → ended d.field ≡ true
    → read_from k bs at d ≡ finished bs at d
unfolding read_from
read_end zero bs at d t = rw t
read_end (suc k) bs at d t = rw t

pub read_zero : (bs : List ℕ) (at : ℕ) (d : Draft) → ended d.field ≡ false → read_from zero bs at d ≡ refused cut at
unfolding read_from
read_zero bs at d t = rw t

module _ (k : ℕ) (bs : List ℕ) (at : ℕ) (d : Draft) (r : NumberRead) (e : number_at d bs at ≡ r)
    (t : ended d.field ≡ false) where
  pub read_step : number_fault d r ≡ none → read_from (suc k) bs at d ≡ read_from k bs r.place (put d r.value)
  unfolding read_from
  read_step f = rw (t, e, eq-eqb (number_fault d r) none f)

  pub read_stop : (number_fault d r ≡ none → ⊥) → read_from (suc k) bs at d ≡ refused (number_fault d r) (fault_place at r)
  unfolding read_from
  read_stop f = rw (t, e, ne_eqb (number_fault d r) none f)

-- a property of readings that the finished have, those out of fuel, those that refuse a number,
-- and with any reading those that go on to it
module _ (bs : List ℕ) (P : ℕ → Draft → ConfigRead → Type 0)
    (on_end : (at : ℕ) (d : Draft) → ended d.field ≡ true → P at d (finished bs at d))
    (on_zero : (at : ℕ) (d : Draft) → P at d (refused cut at))
    (on_fault : (at : ℕ) (d : Draft) → (number_fault d (number_at d bs at) ≡ none → ⊥)
    → P at d (refused (number_fault d (number_at d bs at)) (fault_place at (number_at d bs at))))
    (on_more : (at : ℕ) (d : Draft) (r : ConfigRead) → ended d.field ≡ false
    → number_fault d (number_at d bs at) ≡ none
    → P (number_at d bs at).place (put d (number_at d bs at).value) r
    → P at d r)
  where
    pub read_from_elim : (k at : ℕ) (d : Draft) → P at d (read_from k bs at d)
    read_from_elim zero at d =
        by_test (ended d.field)
        (λ t. rw (read_end zero bs at d t) (on_end at d t))
        (λ t. rw (read_zero bs at d t) (on_zero at d))
    read_from_elim (suc k) at d =
        let n = number_at d bs at in
        by_test (ended d.field)
        (λ t. rw (read_end (suc k) bs at d t) (on_end at d t))
        (λ t. by_eq (number_fault d n) none
        (λ f. rw (read_step k bs at d n refl t f)
        (on_more at d (read_from k bs n.place (put d n.value)) t f
        (read_from_elim k n.place (put d n.value))))
        (λ f. rw (read_stop k bs at d n refl t f) (on_fault at d f)))

-- what an accepted reading has read
pub record Reads (bs : List ℕ) (at : ℕ) (d : Draft) (r : ConfigRead) : Type 0 where
  pub numbers : List ℕ
  pub in_order : InOrder d numbers
  pub result : r ≡ accepted (last d numbers).config (length bs)
  pub covers : Bytes bs → drop at bs ≡ bytes_of d numbers

module _ (bs : List ℕ) where
  reads_end : (at : ℕ) (d : Draft) → ended d.field ≡ true → (finished bs at d).refusal ≡ none
      → Reads bs at d (finished bs at d)
  reads_end at d t =
      by_eq at (length bs)
      (λ e. rw (eq-eqb at (length bs) e) (λ _. nothing e))
      (λ e. rw (ne_eqb at (length bs) e) (λ h. absurd (omega arith)))
    where
      nothing : at ≡ length bs → Reads bs at d (accepted d.config at)
      nothing e =
          record {
            numbers = [];
            in_order = t;
            result = ap (accepted d.config) e;
            covers = λ _. drop_of_length-le bs {i = at} (omega arith);
          }

  reads_more : (at : ℕ) (d : Draft) (r : ConfigRead) → ended d.field ≡ false
      → number_fault d (number_at d bs at) ≡ none
      → (r.refusal ≡ none → Reads bs (number_at d bs at).place (put d (number_at d bs at).value) r)
      → r.refusal ≡ none
      → Reads bs at d r
  reads_more at d r t e rest h =
      let n = number_at d bs at in
      let f = number_fine d n e in
      let w = rest h in
      record {
        numbers = n.value ∷ w.numbers;
        in_order = (t, f.1, w.in_order);
        result = w.result;
        covers = λ b.
            number_bytes_lem d bs at b f.0 ∙ ap (λ (l : List ℕ). bytes_at d n.value ++ l) (w.covers b);
      }

  pub reads : (k at : ℕ) (d : Draft) → (read_from k bs at d).refusal ≡ none → Reads bs at d (read_from k bs at d)
  reads =
      read_from_elim bs (λ at d r. r.refusal ≡ none → Reads bs at d r)
      reads_end
      (λ at d h. absurd (omega arith))
      (λ at d f h. absurd (f h))
      reads_more

-- where the bytes of a list in order stand, the reader reads them
pub read_walk : (vs : List ℕ) (d : Draft) (k : ℕ) (bs : List ℕ) (at : ℕ) → Within d → Paced d → InOrder d vs
    → length vs ≤ k → at ≤ length bs → drop at bs ≡ bytes_of d vs
    → read_from k bs at d ≡ accepted (last d vs).config (length bs)
read_walk [] d k bs at w p o few in_bs e =
    read_end k bs at d o ∙ rw (eq-eqb at (length bs) there) (ap (accepted d.config) there)
  where
    there : at ≡ length bs
    there = omega (arith, length-drop at bs, ap length e)
read_walk (v ∷ vs) d zero bs at w p o few in_bs e = absurd (omega arith)
read_walk (v ∷ vs) d (suc k) bs at w p o few in_bs e =
    read_step k bs at d (record { value = v; refusal = none; place = at + size })
    (number_back d bs at v (bytes_of (put d v) vs) (small d v o.0 o.1 w p) o.1 e) o.0 o.1
    ∙ read_walk vs (put d v) k bs (at + size) (moved d v o.0 o.1 w).within (paced d v o.1 p) o.2
    (omega arith) fits rest
  where
    size : ℕ
    size = length (bytes_at d v)

    fits : at + size ≤ length bs
    fits = omega (arith, length-drop at bs, simp length-append at (ap length e))

    rest : drop (at + size) bs ≡ bytes_of (put d v) vs
    rest = sym (drop-drop size at bs) ∙ ap (drop size) e ∙ drop-append_seam (bytes_at d v) (bytes_of (put d v) vs)

-- one step of the writer
pub fault_end : (k : ℕ) (c : Config) (d : Draft) → ended d.field ≡ true → fault_from k c d ≡ none
unfolding fault_from
fault_end zero c d t = refl
fault_end (suc k) c d t = rw t

module _ (k : ℕ) (c : Config) (d : Draft) (v : ℕ) (e : asked c d ≡ v) (t : ended d.field ≡ false) where
  pub fault_step : fault d v ≡ none → fault_from (suc k) c d ≡ fault_from k c (put d v)
  unfolding fault_from
  fault_step f = rw (e, t, eq-eqb (fault d v) none f)

  pub fault_stop : (fault d v ≡ none → ⊥) → fault_from (suc k) c d ≡ fault d v
  unfolding fault_from
  fault_stop f = rw (e, t, ne_eqb (fault d v) none f)

-- what a writer without a fault walks
pub record Walks (c : Config) (d : Draft) : Type 0 where
  pub numbers : List ℕ
  pub in_order : InOrder d numbers
  pub asks : Asks c d numbers

pub walks : (k : ℕ) (c : Config) (d : Draft) → Within d → left d ≤ k → fault_from k c d ≡ none → Walks c d
walks zero c d w few e =
    by_test (ended d.field)
    (λ t. record { numbers = []; in_order = t; asks = tt })
    (λ t. absurd (omega (arith, some_left d t w)))
walks (suc k) c d w few e =
    let v = asked c d in
    by_test (ended d.field)
    (λ t. record { numbers = []; in_order = t; asks = tt })
    (λ t. by_eq (fault d v) none
    (λ f. let m = moved d v t f w in
    let rest = walks k c (put d v) m.within (omega arith) (sym (fault_step k c d v refl t f) ∙ e) in
    record { numbers = v ∷ rest.numbers; in_order = (t, f, rest.in_order); asks = (refl, rest.asks) })
    (λ f. absurd (f (sym (fault_stop k c d v refl t f) ∙ e))))

-- and what it walks, it writes
pub walk_fault : (vs : List ℕ) (k : ℕ) (c : Config) (d : Draft) → length vs ≤ k → InOrder d vs → Asks c d vs
    → fault_from k c d ≡ none
walk_fault [] k c d few o a = fault_end k c d o
walk_fault (v ∷ vs) zero c d few o a = absurd (omega arith)
walk_fault (v ∷ vs) (suc k) c d few o a =
    fault_step k c d v a.0 o.0 o.1 ∙ walk_fault vs k c (put d v) (omega arith) o.2 a.1

pub walk_bytes : (vs : List ℕ) (k : ℕ) (c : Config) (d : Draft) → length vs ≤ k → InOrder d vs → Asks c d vs
    → bytes_from k c d ≡ bytes_of d vs
unfolding bytes_from
walk_bytes [] zero c d few o a = refl
walk_bytes [] (suc k) c d few o a = rw o
walk_bytes (v ∷ vs) zero c d few o a = absurd (omega arith)
walk_bytes (v ∷ vs) (suc k) c d few o a = rw (o.0, a.0, walk_bytes vs k c (put d v) (omega arith) o.2 a.1)

-- whatever is written, five bytes a number are enough
pub length_bytes_from : (k : ℕ) (c : Config) (d : Draft) → length (bytes_from k c d) ≤ 5 * k
unfolding bytes_from
length_bytes_from zero c d = lit≤ tt
length_bytes_from (suc k) c d =
    by_test (ended d.field)
    (λ t. rw t (omega arith))
    (λ t. rw (t, length-append)
    (omega (arith, length_bytes_at d (asked c d), length_bytes_from k c (put d (asked c d)))))
