-- How the losses by rank stand for the bodies'.
--
--   Lost c rk ls bs  the losses by rank, ls, are those of the bodies bs
--   lost_same        bodies with the same losses
--   lost_one         one more is lost by one body
use Prim.Native.Nat.{ℕ, ◌<◌}
use mathlib.Core.Path.{◌≡◌, sym, ap, ◌∙◌}
use mathlib.Core.List.{List}
use native.Mathlib.Omega.{arith}
use lib.ListN.{length, get_or, set, length-set}
use lib.Seq.{get_or-set_same, get_or-set_other}
use Rattle.number.proofs.Cases.{by_eq}
use Rattle.config.specs.declared.Config.{Config}
use Rattle.plan.specs.declared.Plan.{Plan}
use Rattle.plan.proofs.Fitted.{Fitted}
use Rattle.scheduler.specs.Body.{Body, loses}
use Rattle.scheduler.specs.State.{no_body}
use Rattle.machine.specs.Cells.{one_more, one_lost}
use Rattle.machine.proofs.Relation.Words.{at}

-- a body's losses stand at its rank; ls: the losses by rank
pub record Lost (c : Config) (rk : ℕ → ℕ) (ls : List ℕ) (bs : List Body) : Type 0 where
  pub losses_long : length ls ≡ 32
  pub of_body : (b : ℕ) → b < c.bodies → get_or ls (rk b) 0 ≡ (at bs b).losses

pub lost_same : {c : Config} {rk : ℕ → ℕ} {ls : List ℕ} {bs bs' : List Body}
    → ((i : ℕ) → (at bs' i).losses ≡ (at bs i).losses) → Lost c rk ls bs → Lost c rk ls bs'
lost_same same l = record { losses_long = l.losses_long; of_body = λ b b<. l.of_body b b< ∙ sym (same b) }

pub lost_one : {c : Config} {p : Plan} {rk : ℕ → ℕ} {ls : List ℕ} {bs : List Body}
    → Fitted c p rk → length bs ≡ c.bodies → Lost c rk ls bs → (b : ℕ) → b < c.bodies
    → Lost c rk (one_lost (rk b) ls) (set bs b (loses (at bs b)))
lost_one {rk = rk} {ls = ls} {bs = bs} fit size l b b< =
    record {
      losses_long = length-set ls (rk b) one ∙ l.losses_long;
      of_body = λ i i<. by_eq i b
          (λ e. rw (e, get_or-set_same ls (rk b) one 0 inside, get_or-set_same bs b (loses (at bs b)) no_body (rw size b<))
          (ap one_more (l.of_body b b<)))
          (λ n. get_or-set_other ls (rk b) (rk i) one 0 (λ e. n (fit.rank_inj i b i< b< e))
          ∙ l.of_body i i<
          ∙ sym (ap (λ (y : Body). y.losses) (get_or-set_other bs b i (loses (at bs b)) no_body n)));
    }
  where
    one : ℕ
    one = one_more (get_or ls (rk b) 0)

    inside : rk b < length ls
    inside = omega (arith, l.losses_long, fit.rank_lt b b<, fit.few)
