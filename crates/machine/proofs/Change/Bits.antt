-- The event bits of one body change: it gets some by a Set, which may resume it, or its own are cleared.
--
--   receive_tied, receive_noted  the body b gets the bits of w
--   clear_noted                  the bits of w of body b are cleared
use Prim.Native.Nat.{ℕ, ◌^◌, ◌<◌}
use mathlib.Core.Path.{◌≡◌, refl, sym, ap, ap₂, subst, ◌∙◌}
use mathlib.Core.Logic.{◌≢◌}
use mathlib.Core.Bool.{Bool, true, false, true≢false, cond, ◌&&◌}
use mathlib.Core.List.{List}
use native.Mathlib.Omega.{arith}
use lib.ListN.{length, get_or, set, length-set}
use lib.Seq.{get_or-set_same, get_or-set_other}
use Rattle.number.proofs.Cases.{cond_either}
use Rattle.config.specs.declared.Config.{Config}
use Rattle.plan.specs.declared.Plan.{Plan}
use Rattle.word.specs.Word.{has, with, without}
use Rattle.word.proofs.Theorems.{has_with_same, has_with_other, with_lt, has_without_same, has_without_other, without_lt}
use Rattle.scheduler.specs.Bits.{any_set, with_bits, without_bits}
use Rattle.scheduler.specs.Body.{Phase, suspended, ready, started, waiting, triggered, is_suspended, is_started, is_waiting, Body, resumed, receives, clears}
use Rattle.scheduler.specs.Call.{request_waits}
use Rattle.machine.specs.Model.{Core, Model, with_begun}
use Rattle.machine.specs.Events.{bits_at, resumes, receiving}
use Rattle.plan.proofs.Fitted.{Fitted}
use Rattle.machine.proofs.Relation.Words.{at, is_aside, Words, words_changed}
use Rattle.machine.proofs.Relation.Bits.{noted, Noted, NotedOf, noted_changed}
use Rattle.machine.proofs.Relation.Nest.{nest_started}
use Rattle.machine.proofs.Relation.Whole.{Tied}
use Rattle.machine.proofs.Arbitration.Dispatch.{rank_below}
use Rattle.machine.proofs.Change.Request.{touched_tied, event_bits_tied}

-- the bits that count of a body that isn't suspended are its bits
module _ {c : Config} {rk : ℕ → ℕ} (m : Model) {bs : List Body} (n : NotedOf c rk m bs) (b : ℕ) (b< : b < c.bodies)
    (active : is_suspended (at bs b).phase ≡ false) where
  pub bits_of : bits_at m (rk b) ≡ (at bs b).bits
  bits_of = n.bits_are b b< ∙ rw active

module _ {c : Config} {p : Plan} {rk : ℕ → ℕ} (fit : Fitted c p rk) (m : Model) {bs : List Body} (b : ℕ)
    (b< : b < c.bodies) (n : NotedOf c rk m bs) (active : is_suspended (at bs b).phase ≡ false) (w : ℕ) where
  abbrev e : ℕ
  e = with_bits (at bs b).bits w

  bits_after : with_bits (bits_at m (rk b)) w ≡ e
  bits_after = ap (λ (v : ℕ). with_bits v w) (bits_of m n b b< active)

  -- the phase of the body afterwards
  resumed_active : (q : Phase) → is_suspended q ≡ false → is_suspended (resumed e q) ≡ false
  resumed_active suspended h = absurd (true≢false h)
  resumed_active ready h = refl
  resumed_active started h = refl
  resumed_active (waiting v) h = cond_either (λ (q : Phase). is_suspended q ≡ false) (any_set e v) _ _ refl refl
  resumed_active (triggered x) h = refl

  resumed_waits : (q : Phase) (v : ℕ) → resumed e q ≡ waiting v → q ≡ waiting v
  resumed_waits suspended v h = h
  resumed_waits ready v h = h
  resumed_waits started v h = h
  resumed_waits (waiting u) v h = go (any_set e u) h
    where
      go : (z : Bool) → cond z started (waiting u) ≡ waiting v → waiting u ≡ waiting v
      go true h = absurd (true≢false (sym (ap is_waiting h)))
      go false h = h
  resumed_waits (triggered x) v h = h

  -- the bits stored at its rank, and no others, are other bits, which count from now on
  module _ (v : ℕ) where
    stored_here : noted (without m.cleared (rk b)) (set m.bits (rk b) v) (rk b) ≡ v
    stored_here =
        ap (λ (z : Bool). cond z 0 (get_or (set m.bits (rk b) v) (rk b) 0)) (has_without_same m.cleared (rk b))
        ∙ get_or-set_same m.bits (rk b) v 0 (omega (arith, n.bits_long, rank_below fit b b<))

    stored_other : (r : ℕ) → r ≢ rk b
        → noted (without m.cleared (rk b)) (set m.bits (rk b) v) r ≡ noted m.cleared m.bits r
    stored_other r d =
        ap₂ (λ (z : Bool) (u : ℕ). cond z 0 u)
        (has_without_other m.cleared (rk b) r d)
        (get_or-set_other m.bits (rk b) r v 0 d)

  -- after a Set they are those that the body had and those of w
  received : bits_at (receiving (rk b) w m) (rk b) ≡ e
  received = stored_here (with_bits (bits_at m (rk b)) w) ∙ bits_after

  pub receive_noted : length bs ≡ c.bodies → NotedOf c rk (receiving (rk b) w m) (set bs b (receives w (at bs b)))
  receive_noted size =
      noted_changed fit n size b b< (receives w (at bs b)) _ _ _
      (length-set m.bits (rk b) _ ∙ n.bits_long)
      n.masks_long
      (received ∙ sym (ap (λ (z : Bool). cond z 0 e) (resumed_active (at bs b).phase active)))
      (λ v h. n.mask_is b v b< (resumed_waits (at bs b).phase v h))
      (stored_other (with_bits (bits_at m (rk b)) w))
      (λ r d. refl)

  -- a body that is not started by time: only it and those that wait may be put aside
  module _ {js ns : List ℕ} (t : Tied c rk m bs js ns) (plain : (x : Bool) → (at bs b).phase ≢ triggered x) where
    abbrev y : Body
    y = receives w (at bs b)

    -- whether it is resumed
    abbrev go : Bool
    go = resumes (rk b) (with_bits (bits_at m (rk b)) w) m

    abbrev begins : Bool → ℕ
    begins x = cond x (with m.core.started (rk b)) m.core.started

    abbrev leaves : Bool → ℕ
    leaves x = cond x (without m.core.aside (rk b)) m.core.aside

    abbrev k : Core
    k = with_begun m.core (begins go) (leaves go)

    -- its second request, if any, waits as before
    wants_same : (q : Phase) → request_waits (at bs b) q ≡ request_waits y (resumed e q)
    wants_same suspended = refl
    wants_same ready = refl
    wants_same started = refl
    wants_same (waiting v) = same (any_set e v)
      where
        same : (z : Bool) → (at bs b).pending ≡ request_waits y (cond z started (waiting v))
        same true = refl
        same false = refl
    wants_same (triggered x) = refl

    -- "once a waited bit is set": it goes on, and is no longer put aside, exactly then
    abbrev Moved : Phase → Bool → Type 0
    Moved q x = (has (begins x) (rk b) ≡ is_started (resumed e q)) × (has (leaves x) (rk b) ≡ is_aside (resumed e q))

    -- a bit is set that it would wait for
    abbrev wanted : Bool
    wanted = any_set (with_bits (bits_at m (rk b)) w) (get_or m.waited (rk b) 0)

    put_aside : (q : Phase) → (at bs b).phase ≡ q → go ≡ is_aside q && wanted
    put_aside q z = ap (λ (x : Bool). x && wanted) (t.words.put_aside b b< ∙ ap is_aside z)

    stays : (q : Phase) → (at bs b).phase ≡ q → resumed e q ≡ q → is_aside q ≡ false → Moved q go
    stays q z same on =
        let unmoved : go ≡ false = put_aside q z ∙ ap (λ (x : Bool). x && wanted) on in
        subst (Moved q) (sym unmoved)
        (t.words.goes_on b b< ∙ ap is_started (z ∙ sym same), t.words.put_aside b b< ∙ ap is_aside (z ∙ sym same))

    moved : (q : Phase) → (at bs b).phase ≡ q → Moved q go
    moved suspended z = stays suspended z refl refl
    moved ready z = stays ready z refl refl
    moved started z = stays started z refl refl
    moved (triggered x) z = absurd (plain x z)
    moved (waiting v) z = subst (Moved (waiting v)) (sym go_is) (by (any_set e v))
      where
        go_is : go ≡ any_set e v
        go_is = put_aside (waiting v) z ∙ rw (bits_after, n.mask_is b v b< z)

        by : (x : Bool)
            → (has (begins x) (rk b) ≡ is_started (cond x started (waiting v)))
            × (has (leaves x) (rk b) ≡ is_aside (cond x started (waiting v)))
        by true =
            (has_with_same m.core.started (rk b) (rank_below fit b b<), has_without_same m.core.aside (rk b))
        by false = (t.words.goes_on b b< ∙ ap is_started z, t.words.put_aside b b< ∙ ap is_aside z)

    -- who is put aside then was so before, and who was started is so
    aside_before : (q : Phase) → is_aside (resumed e q) ≡ true → is_aside q ≡ true
    aside_before suspended h = h
    aside_before ready h = h
    aside_before started h = h
    aside_before (waiting v) h = refl
    aside_before (triggered x) h = h

    started_before : (q : Phase) → is_started (resumed e q) ≡ false → is_started q ≡ false
    started_before suspended h = h
    started_before ready h = h
    started_before started h = h
    started_before (waiting v) h = refl
    started_before (triggered x) h = h

    words : Words c rk k (set bs b y)
    words =
        words_changed fit t.words t.size b b< y k
        ((t.words.suits b).0, λ h. (t.words.suits b).1 (aside_before (at bs b).phase h))
        (record {
          asks = t.words.asks b b< ∙ wants_same (at bs b).phase;
          goes_on = (moved (at bs b).phase refl).0;
          put_aside = (moved (at bs b).phase refl).1;
          quiet = λ h. t.words.quiet b (started_before (at bs b).phase h);
        })
        (record {
          request_lt = t.words.request_lt;
          started_lt = lt_either go _ _
              (with_lt m.core.started (rk b) t.words.started_lt)
              t.words.started_lt;
          aside_lt = lt_either go _ _
              (without_lt m.core.aside (rk b) t.words.aside_lt)
              t.words.aside_lt;
          asks = λ r d. refl;
          goes_on = λ r d. started_other go r d;
          put_aside = λ r d. aside_other go r d;
        })
      where
        lt_either : (x : Bool) (u v : ℕ) → u < 2 ^ 32 → v < 2 ^ 32 → cond x u v < 2 ^ 32
        lt_either = cond_either (λ (w : ℕ). w < 2 ^ 32)

        started_other : (x : Bool) (r : ℕ) → r ≢ rk b → has (begins x) r ≡ has m.core.started r
        started_other true r d = has_with_other m.core.started (rk b) r d
        started_other false r d = refl

        aside_other : (x : Bool) (r : ℕ) → r ≢ rk b → has (leaves x) r ≡ has m.core.aside r
        aside_other true r d = has_without_other m.core.aside (rk b) r d
        aside_other false r d = refl

    -- one of the nest is started, and stays so
    pub receive_tied : Tied c rk (receiving (rk b) w m) (set bs b (receives w (at bs b))) js ns
    receive_tied =
        event_bits_tied
        (touched_tied t fit b b< y refl (λ h. like (at bs b).phase (nest_started c bs b ns t.nested h)) k words
        refl refl)
        (without m.cleared (rk b))
        (set m.bits (rk b) (with_bits (bits_at m (rk b)) w))
        m.waited
      where
        like : (q : Phase) → is_started q ≡ true → is_started q ≡ is_started (resumed e q)
        like suspended h = refl
        like ready h = refl
        like started h = refl
        like (waiting v) h = absurd (true≢false (sym h))
        like (triggered x) h = refl

  -- the bits that are left
  abbrev left : ℕ
  left = without_bits (bits_at m (rk b)) w

  pub clear_noted : length bs ≡ c.bodies
      → Noted c rk (without m.cleared (rk b)) (set m.bits (rk b) left) m.waited (set bs b (clears w (at bs b)))
  clear_noted size =
      noted_changed fit n size b b< (clears w (at bs b)) _ _ _
      (length-set m.bits (rk b) left ∙ n.bits_long)
      n.masks_long
      (stored_here left
      ∙ ap (λ (v : ℕ). without_bits v w) (bits_of m n b b< active)
      ∙ sym (ap (λ (z : Bool). cond z 0 (without_bits (at bs b).bits w)) active))
      (λ v h. n.mask_is b v b< h)
      (stored_other left)
      (λ r d. refl)
