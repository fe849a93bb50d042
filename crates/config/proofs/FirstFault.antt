-- The first number at fault decides a refusal: what follows it does not matter (`fault_decided`), and what stands before
-- it breaks off there, so that no number of it is at fault (`fault_cut_before`).
--
-- In order: a number by its bytes; how far the numbers in order go (`Comes`); the two laws; bytes left over.
use Prim.Native.Nat.{ℕ, zero, suc, ◌≤◌}
use mathlib.Core.Path.{◌≡◌, refl, sym, ap, ◌∙◌}
use mathlib.Core.Bool.{true, false}
use mathlib.Core.List.{List, ◌∷◌, ◌++◌}
use mathlib.Core.Logic.{◌≢◌, ◌⊎◌, inl, inr, ⊎_elim}
use native.Mathlib.Omega.{arith}
use lib.ListN.{length, take, length-take, length-append}
use lib.Seq.{take-take, take-length, take-append_seam}
use borrow.Author.Tests.{eq-eqb, ne_eqb, le-leb, lt-leb}
use Rattle.number.specs.Refusal.{none, cut, malformed}
use Rattle.number.specs.Number as Number
use Rattle.number.specs.Number.{NumberRead, read_number}
use Rattle.number.proofs.Cases.{by_test, by_lt, by_eq}
use Rattle.number.proofs.Front.{agree_fewer}
use Rattle.number.proofs.Theorems as Numbers
use Rattle.config.specs.declared.Draft.{Draft}
use Rattle.config.specs.Refusal.{left_over, too_long, bad_version}
use Rattle.config.specs.Draft.{fault, put, ended, silent, start}
use Rattle.config.specs.Reader.{ConfigRead, refused, number_at, number_fault, fault_place, finished, read_from, max_numbers, max_length, read_config}
use Rattle.config.specs.Decisive.{OfNumber, decisive}
use Rattle.config.proofs.Walk.{number_fine, silent_fine, numbered, read_end, read_zero, read_step, read_stop}
use Rattle.config.proofs.Reading.{fault_late, fault_not_over, bounded, unreadable_there}

-- a number in order is the same in every list that agrees up to its end
number_same : (d : Draft) (bs cs : List ℕ) (at n : ℕ) → (number_at d bs at).refusal ≡ none
    → (number_at d bs at).place ≤ n → take n cs ≡ take n bs → number_at d cs at ≡ number_at d bs at
unfolding number_at
number_same d bs cs at n =
    by_test (silent d)
    (λ q. rw q (λ ok h agree. refl))
    (λ q. rw q
    (λ ok h agree. Numbers.accepted_decided bs cs at ok (agree_fewer bs cs (read_number bs at).place n h agree)))

-- and its end is not before its beginning
number_later : (d : Draft) (bs : List ℕ) (at : ℕ) → (number_at d bs at).refusal ≡ none → at ≤ (number_at d bs at).place
unfolding number_at
number_later d bs at =
    by_test (silent d)
    (λ q. rw q (λ ok. omega arith))
    (λ q. rw q (λ ok. omega (arith, (Numbers.reading bs at).after ok)))

-- what a reading comes to that goes no further
data Halt (bs : List ℕ) (at : ℕ) (d : Draft) : ℕ → Type 0 where
  done : {k : ℕ} → ended d.field ≡ true → Halt bs at d k
  spent : ended d.field ≡ false → Halt bs at d zero
  stopped : {k : ℕ} → ended d.field ≡ false → number_fault d (number_at d bs at) ≢ none → Halt bs at d (suc k)

-- how far the numbers in order go: every list that agrees up to there comes to the same draft
record Comes (bs : List ℕ) (k at : ℕ) (d : Draft) : Type 0 where
  fuel : ℕ
  there : ℕ
  draft : Draft
  halt : Halt bs there draft fuel
  later : at ≤ there
  same : (cs : List ℕ) (n : ℕ) → there ≤ n → take n cs ≡ take n bs
      → read_from k cs at d ≡ read_from fuel cs there draft

comes : (bs : List ℕ) (k at : ℕ) (d : Draft) → Comes bs k at d
comes bs zero at d =
    record {
      fuel = zero;
      there = at;
      draft = d;
      halt = by_test (ended d.field) done spent;
      later = omega arith;
      same = λ cs n h agree. refl;
    }
comes bs (suc k) at d =
    by_test (ended d.field)
    (λ t. halted (done t))
    (λ t. by_eq (number_fault d (number_at d bs at)) none
    (λ f. on t f (comes bs k (number_at d bs at).place (put d (number_at d bs at).value)))
    (λ f. halted (stopped t f)))
  where
    halted : Halt bs at d (suc k) → Comes bs (suc k) at d
    halted h =
        record {
          fuel = suc k;
          there = at;
          draft = d;
          halt = h;
          later = omega arith;
          same = λ cs n h agree. refl;
        }

    on : ended d.field ≡ false → number_fault d (number_at d bs at) ≡ none
        → Comes bs k (number_at d bs at).place (put d (number_at d bs at).value) → Comes bs (suc k) at d
    on t f c =
        let n = number_at d bs at in
        let ok = (number_fine d n f).0 in
        record {
          fuel = c.fuel;
          there = c.there;
          draft = c.draft;
          halt = c.halt;
          later = omega (arith, number_later d bs at ok, c.later);
          same = λ cs m h agree.
              read_step k cs at d n (number_same d bs cs at m ok (omega (arith, c.later)) agree) t f
              ∙ c.same cs m h agree;
        }

-- why a number is refused: it is read and at fault, or can't be read
data Cause (bs : List ℕ) (d : Draft) (at r p : ℕ) : Type 0 where
  at_fault : silent d ≡ false → (read_number bs at).refusal ≡ none → fault d (read_number bs at).value ≡ r → p ≡ at
      → Cause bs d at r p
  unreadable : silent d ≡ false → read_number bs at ≡ Number.refused malformed p → r ≡ malformed → Cause bs d at r p

cause : (bs : List ℕ) (d : Draft) (at r p : ℕ) → OfNumber r → number_fault d (number_at d bs at) ≡ r
    → fault_place at (number_at d bs at) ≡ p → Cause bs d at r p
unfolding number_at
cause bs d at r p o =
    by_test (silent d)
    (λ q. rw q (λ f z. absurd (o.0 (sym f ∙ silent_fine d q))))
    (λ q. rw q (read q))
  where
    read : silent d ≡ false → number_fault d (read_number bs at) ≡ r → fault_place at (read_number bs at) ≡ p
        → Cause bs d at r p
    read q f z =
        let n = read_number bs at in
        by_eq n.refusal none
        (λ ok. at_fault q ok (rw (eq-eqb n.refusal none ok) at f) (sym (rw (eq-eqb n.refusal none ok) at z)))
        (λ bad. let g : n.refusal ≡ r = rw (ne_eqb n.refusal none bad) at f in
        let h : n.place ≡ p = rw (ne_eqb n.refusal none bad) at z in
        let m : r ≡ malformed = omega (arith, g, (Numbers.reading bs at).refusals, o.0, o.1) in
        unreadable q (λ i. record { value = (Numbers.reading bs at).zero_value bad i; refusal = (g ∙ m) i; place = h i })
        m)

module _ (bs : List ℕ) (d : Draft) (at r p : ℕ) (k : ℕ) (more : ended d.field ≡ false) (o : OfNumber r) where
  -- where the decisive bytes end
  end_at_fault : fault d (read_number bs at).value ≡ r → p ≡ at → decisive bs (refused r p) ≡ (read_number bs at).place
  end_at_fault f e =
      let late : bad_version ≤ r = rw f at (fault_late d (read_number bs at).value (λ z. o.0 (sym f ∙ z))) in
      rw (ne_eqb r malformed (λ z. omega arith), e)

  end_unreadable : r ≡ malformed → decisive bs (refused r p) ≡ suc p
  end_unreadable m = rw (eq-eqb r malformed m) (omega arith)

  -- the number begins before the place, or there, and before their end
  cause_later : Cause bs d at r p → (at ≤ p) × (at ≤ decisive bs (refused r p))
  cause_later (at_fault q ok f e) =
      (omega arith, omega (arith, end_at_fault f e, (Numbers.reading bs at).after ok))
  cause_later (unreadable q e m) =
      let h : at ≤ p = rw e at (((Numbers.reading bs at).at_byte (ap (λ (n : NumberRead). n.refusal) e)).0) in
      (h, omega (arith, end_unreadable m))

  -- a list that has them is refused alike
  cause_decides : Cause bs d at r p → (cs : List ℕ)
      → take (decisive bs (refused r p)) cs ≡ take (decisive bs (refused r p)) bs
      → read_from (suc k) cs at d ≡ refused r p
  unfolding number_at
  cause_decides (at_fault q ok f e) cs agree =
      let n = read_number bs at in
      let g : number_fault d n ≡ r = rw (eq-eqb n.refusal none ok) f in
      read_stop k cs at d n (rw q (Numbers.accepted_decided bs cs at ok (rw (end_at_fault f e) at agree))) more
      (λ z. o.0 (sym g ∙ z))
      ∙ rw (g, eq-eqb n.refusal none ok, e)
  cause_decides (unreadable q e m) cs agree =
      unreadable_there k cs at d more q (rw there (λ z. omega arith)) ∙ rw (there, m)
    where
      there : read_number cs at ≡ Number.refused malformed p
      there = Numbers.malformed_decided bs cs at p e (rw (end_unreadable m) at agree)

  -- one that ends before the place breaks off
  cause_breaks : Cause bs d at r p → read_from (suc k) (take p bs) at d ≡ refused cut p
  cause_breaks (at_fault q ok f e) =
      unreadable_there k (take p bs) at d more q (rw there (λ z. omega arith)) ∙ rw (there, e)
    where
      there : read_number (take p bs) at ≡ Number.refused cut at
      there = Numbers.read_past (take p bs) at (simp length-take (omega arith))
  cause_breaks (unreadable q e m) =
      unreadable_there k (take p bs) at d more q (rw there (λ z. omega arith)) ∙ rw there
    where
      there : read_number (take p bs) at ≡ Number.refused cut p
      there = Numbers.malformed_cut_before bs at p e

-- a finished reading is refused for no number
finished_of_none : (bs : List ℕ) (at : ℕ) (d : Draft) (r p : ℕ) → OfNumber r → finished bs at d ≡ refused r p → ⊥
finished_of_none bs at d r p o e =
    by_eq at (length bs)
    (λ h. o.0 (sym (ap (λ (x : ConfigRead). x.refusal) (rw (eq-eqb at (length bs) h) at e))))
    (λ h. o.2 (sym (ap (λ (x : ConfigRead). x.refusal) (rw (ne_eqb at (length bs) h) at e))))

-- a reading refused for a number halts there
record Stops (bs : List ℕ) (j at : ℕ) (d : Draft) (r p : ℕ) : Type 0 where
  left : ℕ
  fuel : j ≡ suc left
  more : ended d.field ≡ false
  reason : Cause bs d at r p

stops : (bs : List ℕ) (j at : ℕ) (d : Draft) (r p : ℕ) → OfNumber r → Halt bs at d j → read_from j bs at d ≡ refused r p
    → Stops bs j at d r p
stops bs j at d r p o (done t) e = absurd (finished_of_none bs at d r p o (sym (read_end j bs at d t) ∙ e))
stops bs zero at d r p o (spent t) e =
    absurd (o.1 (ap (λ (x : ConfigRead). x.refusal) (sym e ∙ read_zero bs at d t)))
stops bs (suc k) at d r p o (stopped t f) e =
    let z = sym (read_stop k bs at d (number_at d bs at) refl t f) ∙ e in
    record {
      left = k;
      fuel = refl;
      more = t;
      reason = cause bs d at r p o (ap (λ (x : ConfigRead). x.refusal) z) (ap (λ (x : ConfigRead). x.place) z);
    }

short : (bs : List ℕ) → length bs ≤ max_length → read_config bs ≡ read_from max_numbers bs 0 start
unfolding read_config
short bs h = rw (le-leb (length bs) max_length h)

-- what is not refused for its length is short
not_long : (bs : List ℕ) → (read_config bs).refusal ≢ too_long → length bs ≤ max_length
unfolding read_config
not_long bs n =
    by_lt max_length (length bs)
    (λ h. absurd (rw (lt-leb (length bs) max_length h) at n refl))
    (λ h. h)

module _ (bs : List ℕ) (o : OfNumber (read_config bs).refusal) where
  abbrev r : ℕ
  r = (read_config bs).refusal

  abbrev p : ℕ
  p = (read_config bs).place

  refused_is : read_config bs ≡ refused r p
  refused_is = λ i. record { config = (bounded bs).zero_value o.0 i; refusal = r; place = p }

  way : Comes bs max_numbers 0 start
  way = comes bs max_numbers 0 start

  stop : Stops bs way.fuel way.there way.draft r p
  stop =
      stops bs way.fuel way.there way.draft r p o way.halt
      (sym (way.same bs way.there (omega arith) refl) ∙ sym (short bs (not_long bs o.3)) ∙ refused_is)

  later : (way.there ≤ p) × (way.there ≤ decisive bs (read_config bs))
  later = cause_later bs way.draft way.there r p stop.left stop.more o stop.reason

  pub fault_decided : (cs : List ℕ) → length cs ≤ max_length
      → take (decisive bs (read_config bs)) cs ≡ take (decisive bs (read_config bs)) bs → read_config cs ≡ read_config bs
  fault_decided cs h agree =
      short cs h
      ∙ way.same cs (decisive bs (read_config bs)) later.1 agree
      ∙ rw stop.fuel
      (cause_decides bs way.draft way.there r p stop.left stop.more o stop.reason cs agree)
      ∙ sym refused_is

  pub fault_cut_before : read_config (take p bs) ≡ refused cut p
  fault_cut_before =
      short (take p bs) (simp length-take (omega (arith, not_long bs o.3)))
      ∙ way.same (take p bs) p later.0 (take-take p p bs (omega arith))
      ∙ rw stop.fuel
      (cause_breaks bs way.draft way.there r p stop.left stop.more o stop.reason)

-- no number is refused for bytes left over
number_not_over : (bs : List ℕ) (at : ℕ) (d : Draft) → number_fault d (number_at d bs at) ≢ left_over
number_not_over bs at d z =
    let n = number_at d bs at in
    by_eq n.refusal none
    (λ ok. fault_not_over d n.value (rw (eq-eqb n.refusal none ok) at z))
    (λ bad. let h : n.refusal ≡ left_over = rw (ne_eqb n.refusal none bad) at z in
    omega (arith, (numbered d bs at).refusals))

-- a reading that is accepted, or refused for bytes left over, halts after its last number
halts_done : (bs : List ℕ) (j at : ℕ) (d : Draft) → Halt bs at d j
    → ((read_from j bs at d).refusal ≡ none) ⊎ ((read_from j bs at d).refusal ≡ left_over)
    → ended d.field ≡ true
halts_done bs j at d (done t) e = t
halts_done bs zero at d (spent t) e =
    let r = ap (λ (x : ConfigRead). x.refusal) (read_zero bs at d t) in
    ⊎_elim (λ z. absurd (omega (arith, sym r ∙ z))) (λ z. absurd (omega (arith, sym r ∙ z))) e
halts_done bs (suc k) at d (stopped t f) e =
    let r = ap (λ (x : ConfigRead). x.refusal) (read_stop k bs at d (number_at d bs at) refl t f) in
    ⊎_elim (λ z. absurd (f (sym r ∙ z))) (λ z. absurd (number_not_over bs at d (sym r ∙ z))) e

module _ (bs : List ℕ) (ends : ((read_config bs).refusal ≡ none) ⊎ ((read_config bs).refusal ≡ left_over))
    (h : length bs ≤ max_length) where
  whole : Comes bs max_numbers 0 start
  whole = comes bs max_numbers 0 start

  reads : read_config bs ≡ read_from whole.fuel bs whole.there whole.draft
  reads = short bs h ∙ whole.same bs whole.there (omega arith) refl

  last : ended whole.draft.field ≡ true
  last = halts_done bs whole.fuel whole.there whole.draft whole.halt (rw reads at ends)

  -- every list that agrees up to the end of the last number is finished there
  finishes : (cs : List ℕ) (n : ℕ) → length cs ≤ max_length → whole.there ≤ n → take n cs ≡ take n bs
      → read_config cs ≡ finished cs whole.there whole.draft
  finishes cs n h le agree =
      short cs h ∙ whole.same cs n le agree ∙ read_end whole.fuel cs whole.there whole.draft last

module _ (bs : List ℕ) (at : ℕ) (d : Draft) where
  finished_at_end : at ≡ length bs → (finished bs at d).refusal ≡ none
  finished_at_end h = rw (eq-eqb at (length bs) h)

  finished_before : at ≢ length bs → finished bs at d ≡ refused left_over at
  finished_before h = rw (ne_eqb at (length bs) h)

  finished_none : (finished bs at d).refusal ≡ none → at ≡ length bs
  finished_none e =
      by_eq at (length bs)
      (λ h. h)
      (λ h. absurd (omega (arith, sym (ap (λ (x : ConfigRead). x.refusal) (finished_before h)) ∙ e)))

  finished_over : (finished bs at d).refusal ≡ left_over → (finished bs at d).place ≡ at
  finished_over e =
      by_eq at (length bs)
      (λ h. absurd (omega (arith, sym (finished_at_end h) ∙ e)))
      (λ h. ap (λ (x : ConfigRead). x.place) (finished_before h))

pub left_over_before : (bs : List ℕ) → (read_config bs).refusal ≡ left_over
    → (read_config (take (read_config bs).place bs)).refusal ≡ none
left_over_before bs e =
    ap (λ (x : ConfigRead). x.refusal)
    (finishes bs (inr e) h front p (simp length-take (omega (arith, h))) (omega (arith, there))
    (take-take p p bs (omega arith)))
    ∙ finished_at_end front w.there w.draft (simp length-take (omega (arith, there, (bounded bs).inside)))
  where
    h : length bs ≤ max_length
    h = not_long bs (λ z. omega arith)

    w : Comes bs max_numbers 0 start
    w = whole bs (inr e) h

    p : ℕ
    p = (read_config bs).place

    front : List ℕ
    front = take p bs

    f : read_config bs ≡ finished bs w.there w.draft
    f = finishes bs (inr e) h bs w.there h (omega arith) refl

    there : p ≡ w.there
    there =
        ap (λ (x : ConfigRead). x.place) f
        ∙ finished_over bs w.there w.draft (sym (ap (λ (x : ConfigRead). x.refusal) f) ∙ e)

pub left_over_after : (bs : List ℕ) → (read_config bs).refusal ≡ none → (b : ℕ) (rest : List ℕ)
    → length (bs ++ b ∷ rest) ≤ max_length → read_config (bs ++ b ∷ rest) ≡ refused left_over (length bs)
left_over_after bs e b rest long =
    finishes bs (inl e) h (bs ++ b ∷ rest) (length bs) long (omega (arith, there))
    (take-append_seam bs (b ∷ rest) ∙ sym (take-length bs))
    ∙ finished_before (bs ++ b ∷ rest) w.there w.draft (λ z. omega (arith, there, length-append bs (b ∷ rest)))
    ∙ ap (refused left_over) there
  where
    h : length bs ≤ max_length
    h = not_long bs (λ z. omega arith)

    w : Comes bs max_numbers 0 start
    w = whole bs (inl e) h

    f : read_config bs ≡ finished bs w.there w.draft
    f = finishes bs (inl e) h bs w.there h (omega arith) refl

    there : w.there ≡ length bs
    there = finished_none bs w.there w.draft (sym (ap (λ (x : ConfigRead). x.refusal) f) ∙ e)
