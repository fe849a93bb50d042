-- What becomes of one body's requests and begins where it is changed: `Moves`, one law for each change.
use Prim.Native.Nat.{ℕ, ◌+◌}
use mathlib.Core.Path.{◌≡◌, refl, sym, ap, ◌∙◌}
use mathlib.Core.Bool.{Bool, true, false, true≢false, cond}
use native.Mathlib.Omega.{arith}
use lib.Dec.{eqb}
use Rattle.number.proofs.Cases.{by_test, cond_either}
use Rattle.config.specs.declared.Config.{Config}
use Rattle.config.specs.Meaning.{is_isr}
use Rattle.scheduler.specs.Bits.{any_set, with_bits}
use Rattle.scheduler.specs.Body.{Phase, suspended, ready, started, waiting, triggered, is_suspended, has_begun, Body, become, activated, triggers, ended, finished, requested, loses, waits, resumed, receives}
use Rattle.scheduler.specs.Call.{request_waits}
use Rattle.scheduler.specs.Scheduler.{mark_of}
use Rattle.scheduler.proofs.Body.{suspended_is}
use Rattle.scheduler.proofs.Event.Effects.{entered}

-- begun by its priority, and not ended
abbrev pub in_body : Phase → Bool
in_body suspended = false
in_body ready = false
in_body started = true
in_body (waiting w) = true
in_body (triggered x) = false

-- a second request waits of an ISR alone, and while it is in its body
abbrev pub Second : Config → ℕ → Body → Type 0
Second c i b = b.pending ≡ true → (is_isr c i ≡ true) × (in_body b.phase ≡ true)

abbrev pub wait_mark : Body → ℕ
wait_mark b = mark_of (request_waits b b.phase)

abbrev pub begun_mark : Body → ℕ
begun_mark b = mark_of (has_begun b.phase)

-- r requests and d ends make x to y
pub record Moved (c : Config) (i : ℕ) (x y : Body) (r d : ℕ) : Type 0 where
  pub second : Second c i y
  pub waits : wait_mark x + r ≡ wait_mark y
  pub begun : begun_mark x ≡ begun_mark y + d

abbrev pub Moves : Config → ℕ → Body → Body → ℕ → ℕ → Type 0
Moves c i x y r d = Second c i x → Moved c i x y r d

abbrev in_phase : Phase → Bool → Body → Body
in_phase p x b = record { phase = p; pending = x; held = b.held; losses = b.losses; bits = b.bits }

-- what is left of a body's requests is nothing exactly where it is suspended
pub left_none : (b : Body) → eqb (wait_mark b + begun_mark b) 0 ≡ is_suspended b.phase
left_none b = go b.phase b.pending
  where
    go : (p : Phase) (x : Bool) → eqb (wait_mark (in_phase p x b) + mark_of (has_begun p)) 0 ≡ is_suspended p
    go suspended x = refl
    go ready x = refl
    go started true = refl
    go started false = refl
    go (waiting w) true = refl
    go (waiting w) false = refl
    go (triggered true) x = refl
    go (triggered false) x = refl

module _ (c : Config) (i : ℕ) where
  pub stays : (x : Body) → Moves c i x x 0 0
  stays x h = record { second = h; waits = omega arith; begun = omega arith }

  pub then : (x y z : Body) (r p q d e f : ℕ) → r ≡ p + q → d ≡ e + f → Moves c i x y p e → Moves c i y z q f
      → Moves c i x z r d
  then x y z r p q d e f rs ds m n h =
      let a = m h in
      let b = n a.second in
      record {
        second = b.second;
        waits = omega (arith, a.waits, b.waits);
        begun = omega (arith, a.begun, b.begun);
      }

  -- not in its body: no second request
  alone : (x : Body) → in_body x.phase ≡ false → Second c i x → x.pending ≡ false
  alone x n h = go x.pending refl
    where
      go : (p : Bool) → x.pending ≡ p → p ≡ false
      go true e = absurd (true≢false (sym (h e).1 ∙ n))
      go false e = refl

  none : {A : Type 0} (p : Bool) → p ≡ false → p ≡ true → A
  none p n h = absurd (true≢false (sym h ∙ n))

  -- a change of neither the phase nor what waits
  pub quiet : (x y : Body) → y.phase ≡ x.phase → y.pending ≡ x.pending → Moves c i x y 0 0
  quiet x y e f h =
      record {
        second = λ p. let a = h (sym f ∙ p) in (a.0, ap in_body e ∙ a.1);
        waits = omega (arith, same x.phase y.phase (sym e));
        begun = omega (arith, ap (λ (p : Phase). mark_of (has_begun p)) e);
      }
    where
      same : (p q : Phase) → p ≡ q → mark_of (request_waits x p) ≡ mark_of (request_waits y q)
      same p q g = ap (λ (z : Phase). mark_of (request_waits x z)) g ∙ go q
        where
          go : (z : Phase) → mark_of (request_waits x z) ≡ mark_of (request_waits y z)
          go suspended = refl
          go ready = refl
          go started = ap mark_of (sym f)
          go (waiting w) = ap mark_of (sym f)
          go (triggered b) = refl

  pub activated_moves : (x : Body) → x.phase ≡ suspended → Moves c i x (activated x) 1 0
  activated_moves x e h =
      record { second = λ p. none x.pending (alone x (ap in_body e) h) p; waits = rw e refl; begun = rw e refl }

  pub triggers_moves : (x : Body) → x.phase ≡ suspended → Moves c i x (triggers x) 1 0
  triggers_moves x e h =
      record { second = λ p. none x.pending (alone x (ap in_body e) h) p; waits = rw e refl; begun = rw e refl }

  -- what waits of one that has begun
  begun_wait : (x : Body) → has_begun x.phase ≡ true → Second c i x → wait_mark x ≡ mark_of x.pending
  begun_wait x b h = go x.phase refl b
    where
      go : (p : Phase) → x.phase ≡ p → has_begun p ≡ true → mark_of (request_waits x p) ≡ mark_of x.pending
      go suspended e k = absurd (true≢false (sym k))
      go ready e k = absurd (true≢false (sym k))
      go started e k = refl
      go (waiting w) e k = refl
      go (triggered true) e k = ap mark_of (sym (alone x (ap in_body e) h))
      go (triggered false) e k = absurd (true≢false (sym k))

  pub finished_moves : (x : Body) → has_begun x.phase ≡ true → Moves c i x (finished x) 0 1
  finished_moves x b h = go x.pending (begun_wait x b h)
    where
      one : begun_mark x ≡ 1
      one = ap mark_of b

      go : (p : Bool) → wait_mark x ≡ mark_of p → Moved c i x (cond p (activated (ended x)) (ended x)) 0 1
      go true e =
          record { second = λ k. absurd (true≢false (sym k)); waits = omega arith; begun = omega (arith, one) }
      go false e =
          record { second = λ k. absurd (true≢false (sym k)); waits = omega arith; begun = omega (arith, one) }

  pub waits_moves : (w : ℕ) (x : Body) → has_begun x.phase ≡ true → Moves c i x (waits w x) 0 0
  waits_moves w x b h =
      cond_either (λ (y : Body). Moved c i x y 0 0) (any_set x.bits w) x (become (waiting w) x)
      (stays x h)
      (record {
        second = λ p. ((h p).0, refl);
        waits = omega (arith, begun_wait x b h);
        begun = omega (arith, ap mark_of b);
      })

  pub receives_moves : (w : ℕ) (x : Body) → Moves c i x (receives w x) 0 0
  receives_moves w x h =
      record {
        second = λ p. let a = h p in (a.0, in_body_lem x.phase ∙ a.1);
        waits = omega (arith, same x.phase);
        begun = omega (arith, goes_on x.phase);
      }
    where
      in_body_lem : (p : Phase) → in_body (resumed (with_bits x.bits w) p) ≡ in_body p
      in_body_lem suspended = refl
      in_body_lem ready = refl
      in_body_lem started = refl
      in_body_lem (waiting v) =
          cond_either (λ (q : Phase). in_body q ≡ true) (any_set (with_bits x.bits w) v) started (waiting v) refl refl
      in_body_lem (triggered b) = refl

      goes_on : (p : Phase) → mark_of (has_begun p) ≡ mark_of (has_begun (resumed (with_bits x.bits w) p))
      goes_on suspended = refl
      goes_on ready = refl
      goes_on started = refl
      goes_on (waiting v) =
          cond_either (λ (q : Phase). 1 ≡ mark_of (has_begun q)) (any_set (with_bits x.bits w) v) started (waiting v)
          refl refl
      goes_on (triggered b) = refl

      same : (p : Phase)
          → mark_of (request_waits x p) ≡ mark_of (request_waits (receives w x) (resumed (with_bits x.bits w) p))
      same suspended = refl
      same ready = refl
      same started = refl
      same (waiting v) =
          cond_either (λ (q : Phase). mark_of x.pending ≡ mark_of (request_waits (receives w x) q))
          (any_set (with_bits x.bits w) v) started (waiting v) refl refl
      same (triggered b) = refl

  -- a Line of an ISR of which no request waits
  pub requested_moves : (x : Body) → is_isr c i ≡ true → ((b : Bool) → x.phase ≡ triggered b → ⊥)
      → request_waits x x.phase ≡ false
      → Moves c i x (requested x) 1 0
  requested_moves x isr untriggered free h = go x.phase refl free
    where
      go : (p : Phase) → x.phase ≡ p → request_waits x p ≡ false → Moved c i x (requested x) 1 0
      go suspended e f =
          record {
            second = rw e (λ p. none x.pending (alone x (ap in_body e) h) p);
            waits = rw e refl;
            begun = rw e refl;
          }
      go ready e f = absurd (true≢false f)
      go started e f = record { second = rw e (λ p. (isr, refl)); waits = rw (e, f) refl; begun = rw e refl }
      go (waiting w) e f = record { second = rw e (λ p. (isr, refl)); waits = rw (e, f) refl; begun = rw e refl }
      go (triggered b) e f = absurd (untriggered b e)

  -- a due entry; it leaves the body active
  pub entered_moves : (t : Bool) (x : Body) → Moves c i x (entered t x) (mark_of (is_suspended x.phase)) 0
  entered_moves true x =
      by_test (is_suspended x.phase)
      (λ h. rw h (triggers_moves x (suspended_is x.phase h)))
      (λ h. rw h (quiet x (loses x) refl refl))
  entered_moves false x =
      by_test (is_suspended x.phase)
      (λ h. rw h (activated_moves x (suspended_is x.phase h)))
      (λ h. rw h (quiet x (loses x) refl refl))

  pub entered_active : (t : Bool) (x : Body) → is_suspended (entered t x).phase ≡ false
  entered_active true x = by_test (is_suspended x.phase) (λ h. rw h) (λ h. rw h h)
  entered_active false x = by_test (is_suspended x.phase) (λ h. rw h) (λ h. rw h h)

-- n begins make x to y: each uses up a request
pub record Begun (c : Config) (i : ℕ) (x y : Body) (n : ℕ) : Type 0 where
  pub second : Second c i y
  pub waits : wait_mark x ≡ n + wait_mark y
  pub begun : begun_mark x + n ≡ begun_mark y

module _ (c : Config) (i : ℕ) where
  pub unbegun : (x : Body) → Second c i x → Begun c i x x 0
  unbegun x h = record { second = h; waits = omega arith; begun = omega arith }

  pub begins_once : (p : Phase) (x : Body) → has_begun p ≡ true → has_begun x.phase ≡ false
      → is_suspended x.phase ≡ false
      → Second c i x
      → Begun c i x (become p x) 1
  begins_once p x b n a h =
      record {
        second = λ k. none c i x.pending single k;
        waits = omega (arith, first x.phase n a, used p b);
        begun = omega (arith, ap mark_of n, ap mark_of b);
      }
    where
      out : (q : Phase) → has_begun q ≡ false → in_body q ≡ false
      out suspended e = refl
      out ready e = refl
      out started e = e
      out (waiting w) e = e
      out (triggered z) e = refl

      single : x.pending ≡ false
      single = alone c i x (out x.phase n) h

      first : (q : Phase) → has_begun q ≡ false → is_suspended q ≡ false → mark_of (request_waits x q) ≡ 1
      first suspended e s = absurd (true≢false s)
      first ready e s = refl
      first started e s = absurd (true≢false e)
      first (waiting w) e s = absurd (true≢false e)
      first (triggered true) e s = absurd (true≢false e)
      first (triggered false) e s = refl

      used : (q : Phase) → has_begun q ≡ true → mark_of (request_waits (become q x) q) ≡ 0
      used suspended e = absurd (true≢false (sym e))
      used ready e = absurd (true≢false (sym e))
      used started e = ap mark_of single
      used (waiting w) e = ap mark_of single
      used (triggered true) e = refl
      used (triggered false) e = absurd (true≢false (sym e))
