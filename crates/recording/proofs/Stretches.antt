-- The dropped stretches: they lie apart, the recording is put together from them and the kept bytes, and they tell each
-- byte's fate.
--
-- In order: stretches lie apart; the recording is put together; which places lie in a stretch; no stretch where all is
-- kept. Everything holds of any fates, so nothing here knows what an event is.
use Prim.Native.Nat.{ℕ, zero, suc, ◌+◌, ◌-◌, ◌≤◌, ◌<◌}
use mathlib.Core.Path.{◌≡◌, refl, sym, ap, ◌∙◌}
use mathlib.Core.Bool.{true, false, cond, ◌&&◌, ◌||◌}
use mathlib.Core.List.{List, [], ◌∷◌}
use native.Mathlib.Omega.{arith}
use native.Mathlib.Nat.{add-zero, add-suc}
use borrow.Author.Tests.{le-leb, lt-leb, lt-ltb, le-ltb}
use lib.Dec.{leb, ltb}
use lib.ListN.{length, drop, get_or, replicate, take-append-drop, drop_of_length-le}
use lib.Seq.{drop-drop, drop-cons}
use Rattle.number.proofs.Cases.{by_lt}
use Rattle.recording.specs.Fate.{Fate, kept, dropped, selected}
use Rattle.recording.specs.Stretch.{Stretch, closed, stretches_from, within, rebuilt, Apart}

-- stretches that lie apart do so from every earlier place on
apart_earlier : (a b end : ℕ) (ss : List Stretch) → a ≤ b → Apart b end ss → Apart a end ss
unfolding Apart
apart_earlier a b end [] h p = tt
apart_earlier a b end (s ∷ ss) h p = (let k = p.0 in omega arith, p.1)

apart_closed : (from n end : ℕ) (ss : List Stretch) → from + n ≤ end → Apart (suc (from + n)) end ss
    → Apart from end (closed from n ss)
unfolding closed Apart
apart_closed from zero end ss h p = apart_earlier from (suc (from + 0)) end ss (omega arith) p
apart_closed from (suc n) end ss h p = (omega arith, (omega arith, (h, p)))

-- sums as the clauses of the definitions have them
more : (a b c : ℕ) → a + b + suc c ≡ a + suc b + c
more a b c = omega arith

past : (a c : ℕ) → a + suc c ≡ suc a + 0 + c
past a c = omega arith

pub stretches_apart : (from n : ℕ) (fs : List Fate) → Apart from (from + n + length fs) (stretches_from from n fs)
unfolding stretches_from Apart
stretches_apart from n [] = apart_closed from n (from + n + 0) [] (omega arith) tt
stretches_apart from n (dropped ∷ fs) = rw (more from n (length fs)) (stretches_apart from (suc n) fs)
stretches_apart from n (kept ∷ fs) =
    apart_closed from n (from + n + suc (length fs)) _ (omega arith)
    (rw (past (from + n) (length fs)) (stretches_apart (suc (from + n)) 0 fs))

-- a kept byte before the first stretch
rebuilt_kept : (at k end : ℕ) (ss : List Stretch) (ks bs : List ℕ) → Apart (suc at) end ss
    → rebuilt at ss (k ∷ ks) bs ≡ k ∷ rebuilt (suc at) ss ks bs
unfolding rebuilt Apart
rebuilt_kept at k end [] ks bs p = refl
rebuilt_kept at k end (s ∷ ss) ks bs p = rw (later s.offset at p.0)
  where
    later : (o a : ℕ) → suc a ≤ o → o - a ≡ suc (o - suc a)
    later o a h = omega arith

-- a stretch that begins at once
rebuilt_closed : (from n : ℕ) (ss : List Stretch) (ks bs : List ℕ) → rebuilt (from + n) ss ks bs ≡ drop (from + n) bs
    → rebuilt from (closed from n ss) ks bs ≡ drop from bs
unfolding closed rebuilt
rebuilt_closed from zero ss ks bs h = rw add-zero at h
rebuilt_closed from (suc n) ss ks bs h =
    rw (none from) (rw h (rw (← drop-drop (suc n) from bs) (take-append-drop (suc n) (drop from bs))))
  where
    none : (a : ℕ) → a - a ≡ 0
    none a = omega arith

-- a kept byte that ends a stretch
put_kept : (from n : ℕ) (fs : List Fate) (bs : List ℕ) → from + n + suc (length fs) ≡ length bs
    → rebuilt (suc (from + n)) (stretches_from (suc (from + n)) 0 fs) (selected fs (drop (suc (from + n)) bs)) bs
    ≡ drop (suc (from + n)) bs
    → rebuilt from (closed from n (stretches_from (suc (from + n)) 0 fs))
    (get_or bs (from + n) 0 ∷ selected fs (drop (suc (from + n)) bs)) bs ≡ drop from bs
put_kept from n fs bs h rest =
    rebuilt_closed from n later (get_or bs (from + n) 0 ∷ ks) bs
    (rebuilt_kept (from + n) (get_or bs (from + n) 0) (length bs) later ks bs apart
    ∙ ap (λ (l : List ℕ). get_or bs (from + n) 0 ∷ l) rest
    ∙ sym (drop-cons bs (from + n) 0 (omega arith)))
  where
    later : List Stretch
    later = stretches_from (suc (from + n)) 0 fs

    ks : List ℕ
    ks = selected fs (drop (suc (from + n)) bs)

    apart : Apart (suc (from + n)) (length bs) later
    apart = rw (← h, past (from + n) (length fs)) (stretches_apart (suc (from + n)) 0 fs)

-- the bytes from a place on are put together from what was kept of them and the stretches in them
pub rebuilt_stretches : (from n : ℕ) (fs : List Fate) (bs : List ℕ) → from + n + length fs ≡ length bs
    → rebuilt from (stretches_from from n fs) (selected fs (drop (from + n) bs)) bs ≡ drop from bs
unfolding stretches_from selected rebuilt
rebuilt_stretches from n [] bs h =
    rebuilt_closed from n [] [] bs (sym (drop_of_length-le bs {i = from + n} (omega arith)))
rebuilt_stretches from n (dropped ∷ fs) bs h =
    rw (drop-cons bs (from + n) 0 (omega arith))
    (rw (add-suc from n) at (rebuilt_stretches from (suc n) fs bs (omega arith)))
rebuilt_stretches from n (kept ∷ fs) bs h =
    rw (drop-cons bs (from + n) 0 (omega arith))
    (put_kept from n fs bs h (rw add-zero at (rebuilt_stretches (suc (from + n)) 0 fs bs (omega arith))))

-- which places lie in a stretch that is closed, or in a later one
within_closed : (from n : ℕ) (ss : List Stretch) (p : ℕ)
    → within (closed from n ss) p ≡ (leb from p && ltb p (from + n)) || within ss p
unfolding closed within
within_closed from zero ss p = by_lt p from
    (λ h. rw (lt-leb from p h))
    (λ h. rw (le-leb from p h, add-zero, le-ltb p from h))
within_closed from (suc n) ss p = refl

outside_closed : (from n : ℕ) (ss : List Stretch) (p : ℕ) → from + n ≤ p → within (closed from n ss) p ≡ within ss p
outside_closed from n ss p h = within_closed from n ss p ∙ rw (le-leb from p (omega arith), le-ltb p (from + n) h)

before_closed : (from n : ℕ) (ss : List Stretch) (p : ℕ) → p < from → within (closed from n ss) p ≡ within ss p
before_closed from n ss p h = within_closed from n ss p ∙ rw (lt-leb from p h)

inside_closed : (from n : ℕ) (ss : List Stretch) (p : ℕ) → from ≤ p → p < from + n → within (closed from n ss) p ≡ true
inside_closed from n ss p h k = within_closed from n ss p ∙ rw (le-leb from p h, lt-ltb p (from + n) k)

-- no place before the first of the fates does
within_before : (from n : ℕ) (fs : List Fate) (p : ℕ) → p < from → within (stretches_from from n fs) p ≡ false
unfolding stretches_from within
within_before from n [] p h = before_closed from n [] p h
within_before from n (dropped ∷ fs) p h = within_before from (suc n) fs p h
within_before from n (kept ∷ fs) p h = before_closed from n _ p h ∙ within_before (suc (from + n)) 0 fs p (omega arith)

-- every place of the n dropped ones does
within_gap : (from n : ℕ) (fs : List Fate) (p : ℕ) → from ≤ p → p < from + n → within (stretches_from from n fs) p ≡ true
unfolding stretches_from
within_gap from n [] p h k = inside_closed from n [] p h k
within_gap from n (dropped ∷ fs) p h k = within_gap from (suc n) fs p h (omega arith)
within_gap from n (kept ∷ fs) p h k = inside_closed from n _ p h k

-- and of the others those whose fate it is
pub within_fates : (from n : ℕ) (fs : List Fate) (i : ℕ) → i < length fs
    → get_or fs i kept ≡ cond (within (stretches_from from n fs) (from + n + i)) dropped kept
unfolding stretches_from
within_fates from n [] i h = absurd (omega arith)
within_fates from n (dropped ∷ fs) zero h = rw (within_gap from (suc n) fs (from + n + 0) (omega arith) (omega arith))
within_fates from n (dropped ∷ fs) (suc i) h = rw (more from n i) (within_fates from (suc n) fs i (omega arith))
within_fates from n (kept ∷ fs) zero h =
    rw (
      outside_closed from n (stretches_from (suc (from + n)) 0 fs) (from + n + 0) (omega arith),
      within_before (suc (from + n)) 0 fs (from + n + 0) (omega arith),
    )
within_fates from n (kept ∷ fs) (suc i) h =
    rw (outside_closed from n (stretches_from (suc (from + n)) 0 fs) (from + n + suc i) (omega arith), past (from + n) i)
    (within_fates (suc (from + n)) 0 fs i (omega arith))

pub stretches_none : (from n : ℕ) → stretches_from from 0 (replicate n kept) ≡ []
unfolding stretches_from closed
stretches_none from zero = refl
stretches_none from (suc n) = stretches_none (suc (from + 0)) n
