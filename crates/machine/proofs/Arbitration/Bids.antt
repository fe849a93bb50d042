-- Who bids for the processor: exactly the bodies that are ready or started; and whose rank wins.
--
--   calm_below    the winner is not above the level: nobody is
--   winner_above  it is above the level: it is a body
--   winner_best   and its priority is above every other's that bids
--   trigger_wins  a time-triggered task that has still to begin wins
use Prim.Native.Nat.{ℕ, ◌^◌, ◌≤◌, ◌<◌}
use mathlib.Core.Path.{◌≡◌, refl, sym, ap, ap₂, ◌∙◌}
use mathlib.Core.Logic.{◌≢◌, ⊎_elim}
use mathlib.Core.Bool.{Bool, true, false, true≢false, ◌||◌, or-true, or-false}
use mathlib.Core.List.{List}
use native.Mathlib.Nat.{eq-zero-or-pos}
use native.Mathlib.Omega.{arith}
use lib.ListN.{get_or}
use Rattle.number.proofs.Cases.{by_lt, by_eq}
use Rattle.config.specs.declared.Config.{Config}
use Rattle.config.specs.Meaning.{is_timed, priority_of}
use Rattle.plan.specs.declared.Plan.{Plan}
use Rattle.plan.specs.Plan.{trigger_of}
use Rattle.word.specs.Word.{has, winner}
use Rattle.word.proofs.Theorems.{empty, has_union, union_lt, winner_has, winner_highest, winner_empty}
use Rattle.scheduler.specs.Body.{Phase, suspended, ready, started, waiting, triggered, is_started, competes, Body}
use Rattle.scheduler.specs.Call.{request_waits}
use Rattle.machine.specs.Model.{Core}
use Rattle.machine.specs.Arbiter.{bids, winning}
use Rattle.plan.proofs.Fitted.{Fitted}
use Rattle.machine.proofs.Relation.Words.{at, Words}
use Rattle.machine.proofs.Relation.Kinds.{is_bidding, Kinds, trigger_plain, trigger_timed}
use Rattle.machine.proofs.Relation.Whole.{Calm}

module _ {c : Config} {p : Plan} {rk : ℕ → ℕ} (fit : Fitted c p rk) where
  -- of two bodies the one with the lower rank has the lower level of a request
  trigger_le : (a b : ℕ) → a < c.bodies → b < c.bodies → rk a ≤ rk b → trigger_of c a ≤ trigger_of c b
  trigger_le a b ha hb le =
      by_lt (trigger_of c b) (trigger_of c a) (λ lt. absurd (omega (arith, fit.rank_order b a hb ha lt))) (λ q. q)

  module _ {k : Core} {bs : List Body} (w : Words c rk k bs) where
    -- exactly those bid that wait to begin or go on by their priority
    bids_is : (b : ℕ) → b < c.bodies → has (bids k) (rk b) ≡ is_bidding (at bs b).phase
    bids_is b h =
        has_union k.request k.started (rk b)
        ∙ ap₂ (λ (x y : Bool). x || y) (w.asks b h) (w.goes_on b h)
        ∙ go (at bs b).phase (w.quiet b)
      where
        go : (q : Phase) → (is_started q ≡ false → (at bs b).pending ≡ false)
            → request_waits (at bs b) q || is_started q ≡ is_bidding q
        go suspended quiet = refl
        go ready quiet = refl
        go started quiet = or-true (at bs b).pending
        go (waiting m) quiet = rw (quiet refl)
        go (triggered x) quiet = or-false (is_bidding (triggered x))

    -- a bit that bids is some body's
    bids_real : (r : ℕ) → has (bids k) r ≡ true → (b : ℕ) × ((b < c.bodies) × (rk b ≡ r))
    bids_real = w.real

    bids_lt : bids k < 2 ^ 32
    bids_lt = union_lt k.request k.started w.request_lt w.started_lt

    some_bid : (r : ℕ) → has (bids k) r ≡ true → 0 < bids k
    some_bid r h = ⊎_elim (λ z. absurd (true≢false (sym h ∙ rw z (empty r)))) (λ q. q) (eq-zero-or-pos (bids k))

    -- a time-triggered task that has still to begin, where no other bids, has the winner's rank
    pub trigger_wins : (j : ℕ) → j < c.bodies → is_timed c j ≡ true → is_bidding (at bs j).phase ≡ true
        → ((i : ℕ) → i < c.bodies → i ≢ j → is_bidding (at bs i).phase ≡ true → is_timed c i ≡ false)
        → winner (bids k) ≡ rk j
    trigger_wins j j< timed bidding others =
        let asks : has (bids k) (rk j) ≡ true = bids_is j j< ∙ bidding in
        let h = winner_has (bids k) (some_bid (rk j) asks) bids_lt in
        let v = bids_real (winner (bids k)) h.1 in
        let b = v.0 in
        let b< : b < c.bodies = v.1.0 in
        by_eq b j
        (λ e. sym v.1.1 ∙ ap rk e)
        (λ n.
        let plain = trigger_plain c b b< (others b b< n (sym (bids_is b b<) ∙ rw v.1.1 h.1)) in
        let most = fit.own_few b b< in
        let less : trigger_of c b < trigger_of c j = omega (arith, plain, trigger_timed c j j< timed) in
        absurd (omega (arith, fit.rank_order b j b< j< less, v.1.1, winner_highest (bids k) (rk j) asks)))

    module _ (kinds : Kinds c bs) where
      active_bids : (b : ℕ) → b < c.bodies → competes (at bs b).phase ≡ true → has (bids k) (rk b) ≡ true
      active_bids b h a = bids_is b h ∙ go (at bs b).phase a
        where
          go : (q : Phase) → competes q ≡ true → is_bidding q ≡ true
          go suspended e = e
          go ready e = e
          go started e = e
          go (waiting m) e = e
          go (triggered x) e = absurd (true≢false (sym e))

      -- no body's rank is above the winner's
      active_le : (b : ℕ) → b < c.bodies → competes (at bs b).phase ≡ true → rk b ≤ winner (bids k)
      active_le b h a = winner_highest (bids k) (rk b) (active_bids b h a)

      -- the body whose rank wins
      pub record Winner : Type 0 where
        pub body : ℕ
        pub exists : body < c.bodies
        pub rank : rk body ≡ winner (bids k)
        pub awake : competes (at bs body).phase ≡ true

      winner_real : 0 < bids k → Winner
      winner_real some =
          let h = winner_has (bids k) some bids_lt in
          let v = bids_real (winner (bids k)) h.1 in
          record {
            body = v.0;
            exists = v.1.0;
            rank = v.1.1;
            awake = kinds.entered v.0 v.1.0 (sym (bids_is v.0 v.1.0) ∙ rw v.1.1 h.1);
          }

      -- what it is compared by is its priority
      plain : (b : ℕ) → b < c.bodies → competes (at bs b).phase ≡ true → trigger_of c b ≡ priority_of c b
      plain b h a = trigger_plain c b h (kinds.untimed b h a)

      pub winning_is : (v : Winner) → winning p.priority k ≡ priority_of c v.body
      winning_is v =
          rw (sym v.rank) (fit.priority_at_lem v.body v.exists) ∙ plain v.body v.exists v.awake

      winner_le : (v : Winner) (b : ℕ) → b < c.bodies → competes (at bs b).phase ≡ true
          → priority_of c b ≤ priority_of c v.body
      winner_le v b h a =
          let le = trigger_le b v.body h v.exists (omega (arith, active_le b h a, v.rank)) in
          omega (arith, le, plain b h a, plain v.body v.exists v.awake)

      -- where the winner is not above the level nobody is
      pub calm_below : winning p.priority k ≤ k.level → Calm c k.level bs
      calm_below low b h a =
          let v = winner_real (some_bid (rk b) (active_bids b h a)) in
          omega (arith, winner_le v b h a, winning_is v)

      -- where the winner is above the level it is a body
      pub winner_above : k.level < winning p.priority k → Winner
      winner_above above =
          ⊎_elim
          (λ z. absurd (omega (arith, nothing z)))
          (λ q. winner_real q)
          (eq-zero-or-pos (bids k))
        where
          at_rank : ℕ → ℕ
          at_rank r = get_or p.priority r 0

          nothing : bids k ≡ 0 → winning p.priority k ≡ 0
          nothing z = ap (λ (q : ℕ). at_rank (winner q)) z ∙ ap at_rank winner_empty ∙ fit.priority_none

      -- and above every other body
      pub winner_best : (v : Winner) (i : ℕ) → i < c.bodies → i ≢ v.body → competes (at bs i).phase ≡ true
          → priority_of c i < priority_of c v.body
      winner_best v i i< other a =
          let le = winner_le v i i< a in
          let ne : priority_of c i ≢ priority_of c v.body = λ e. other (fit.own_inj i v.body i< v.exists e) in
          omega arith
