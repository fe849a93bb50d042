-- The matches of a Tick in two models that are the same above L: `requests_due_same`.
--
-- A match of an entry whose task is low changes the request and the losses at a low rank alone, the one in the
-- one model and the other in the other as may be; every other match changes both models alike.
use Prim.Native.Nat.{ℕ, ◌≤◌}
use mathlib.Core.Path.{◌≡◌, sym, ap, ◌∙◌}
use mathlib.Core.Logic.{⊎_elim}
use mathlib.Core.Bool.{Bool, true, false, ◌||◌}
use mathlib.Core.List.{List, [], ◌∷◌}
use lib.ListN.{length, get_or, length-set, get_or-eq_default}
use lib.Seq.{get_or-set_same, get_or-set_other}
use Rattle.number.proofs.Cases.{by_test, by_lt, by_eq}
use Rattle.config.specs.declared.Config.{Config}
use Rattle.config.specs.Accepted as Configuration
use Rattle.word.specs.Word.{ranks, has, with}
use Rattle.word.proofs.Theorems.{has_with_same, has_with_other, with_no_rank}
use Rattle.machine.specs.Cells.{Tally, one_more, one_lost, match_at, requests_due}
use Rattle.isolation.specs.Models.{LowRank, SameWord, SameLosses}
use Rattle.isolation.proofs.Models.Rank.{low_or_not}

module _ (c : Config) (L : ℕ) where
  pub with_same : (w w' r : ℕ) → SameWord c L w w' → SameWord c L (with w r) (with w' r)
  with_same w w' r same i l =
      by_eq i r
      (λ e. by_lt r ranks
      (λ h. rw e (has_with_same w r h ∙ sym (has_with_same w' r h)))
      (λ h. rw (with_no_rank w r h, with_no_rank w' r h) (same i l)))
      (λ d. has_with_other w r i d ∙ same i l ∙ sym (has_with_other w' r i d))

  -- a low rank may be put into either word
  with_low : (w w' r : ℕ) → LowRank c L r → SameWord c L w w'
      → SameWord c L (with w r) w' × SameWord c L w (with w' r)
  with_low w w' r low same = (
    λ i l. has_with_other w r i (λ e. l (rw e low)) ∙ same i l,
    λ i l. same i l ∙ sym (has_with_other w' r i (λ e. l (rw e low))),
  )

  pub lost_same : (ls ls' : List ℕ) (r : ℕ) → SameLosses c L ls ls' → SameLosses c L (one_lost r ls) (one_lost r ls')
  lost_same ls ls' r same =
      record {
        long = length-set ls r (one_more (get_or ls r 0)) ∙ same.long ∙ sym (length-set ls' r (one_more (get_or ls' r 0)));
        each = λ i l. by_eq i r
            (λ e. rw e (here (λ low. l (rw e low))))
            (λ d. get_or-set_other ls r i (one_more (get_or ls r 0)) 0 d
            ∙ same.each i l
            ∙ sym (get_or-set_other ls' r i (one_more (get_or ls' r 0)) 0 d));
      }
    where
      past : (xs : List ℕ) → length xs ≤ r → get_or (one_lost r xs) r 0 ≡ 0
      past xs h =
          get_or-eq_default (one_lost r xs) 0 {n = r} (rw (length-set xs r (one_more (get_or xs r 0))) h)

      here : (LowRank c L r → ⊥) → get_or (one_lost r ls) r 0 ≡ get_or (one_lost r ls') r 0
      here l =
          by_lt r (length ls)
          (λ h. get_or-set_same ls r (one_more (get_or ls r 0)) 0 h
          ∙ ap one_more (same.each r l)
          ∙ sym (get_or-set_same ls' r (one_more (get_or ls' r 0)) 0 (rw (sym same.long) h)))
          (λ h. past ls h ∙ sym (past ls' (rw (sym same.long) h)))

  lost_low : (ls ls' : List ℕ) (r : ℕ) → LowRank c L r → SameLosses c L ls ls'
      → SameLosses c L (one_lost r ls) ls' × SameLosses c L ls (one_lost r ls')
  lost_low ls ls' r low same = (
    record {
      long = length-set ls r (one_more (get_or ls r 0)) ∙ same.long;
      each = λ i l. get_or-set_other ls r i (one_more (get_or ls r 0)) 0 (λ e. l (rw e low)) ∙ same.each i l;
    },
    record {
      long = same.long ∙ sym (length-set ls' r (one_more (get_or ls' r 0)));
      each = λ i l. same.each i l ∙ sym (get_or-set_other ls' r i (one_more (get_or ls' r 0)) 0 (λ e. l (rw e low)));
    },
  )

  pub record SameTally (x x' : Tally) : Type 0 where
    pub requests : SameWord c L x.request x'.request
    pub losses : SameLosses c L x.losses x'.losses

  module _ (ok : Configuration.Accepted c) (shaped : Configuration.Shaped c) (begun : ℕ) where
    -- whatever the two tests say
    low_match : (r : ℕ) → LowRank c L r → {x x' : Tally} → SameTally x x'
        → SameTally (match_at begun r x) (match_at begun r x')
    low_match r low {x} {x'} same =
        by_test (has x.request r || has begun r)
        (λ h. rw h (by_test (has x'.request r || has begun r)
        (λ h'. rw h' (record {
          requests = same.requests;
          losses = lost_same x.losses x'.losses r same.losses;
        }))
        (λ h'. rw h' (record {
          requests = (with_low x.request x'.request r low same.requests).1;
          losses = (lost_low x.losses x'.losses r low same.losses).0;
        }))))
        (λ h. rw h (by_test (has x'.request r || has begun r)
        (λ h'. rw h' (record {
          requests = (with_low x.request x'.request r low same.requests).0;
          losses = (lost_low x.losses x'.losses r low same.losses).1;
        }))
        (λ h'. rw h' (record {
          requests = with_same x.request x'.request r same.requests;
          losses = same.losses;
        }))))

    high_match : (r : ℕ) → (LowRank c L r → ⊥) → {x x' : Tally} → SameTally x x'
        → SameTally (match_at begun r x) (match_at begun r x')
    high_match r high {x} {x'} same =
        rw (same.requests r high)
        (by_test (has x'.request r || has begun r)
        (λ h. rw h (record {
          requests = same.requests;
          losses = lost_same x.losses x'.losses r same.losses;
        }))
        (λ h. rw h (record {
          requests = with_same x.request x'.request r same.requests;
          losses = same.losses;
        })))

    pub requests_due_same : (ms : List Bool) (rs : List ℕ) {x x' : Tally} → SameTally x x'
        → SameTally (requests_due begun ms rs x) (requests_due begun ms rs x')
    unfolding requests_due
    requests_due_same [] rs same = same
    requests_due_same (true ∷ ms) [] same = same
    requests_due_same (false ∷ ms) [] same = same
    requests_due_same (true ∷ ms) (r ∷ rs) same =
        requests_due_same ms rs
        (⊎_elim (λ low. low_match r low same) (λ high. high_match r high same) (low_or_not c ok shaped L r))
    requests_due_same (false ∷ ms) (r ∷ rs) same = requests_due_same ms rs same
