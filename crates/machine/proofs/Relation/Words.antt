-- How the words stand for the bodies: which wait to begin, which go on by their priority, which have begun and do not.
--
--   Words c rk k bs  the words of the core k are those of the bodies bs
--   words_changed    one body is changed, and the words follow it
--   competes_on      what one answer about a phase says of another; started_waits
--   busy_is          which bodies have a bit at all
use Prim.Native.Nat.{ℕ, ◌^◌, ◌<◌}
use mathlib.Core.Path.{◌≡◌, refl, sym, ap, ap₂, ◌∙◌}
use mathlib.Core.Logic.{◌≢◌}
use mathlib.Core.Bool.{Bool, true, false, true≢false, not, ◌||◌, or-true, not-or_self}
use mathlib.Core.List.{List}
use lib.ListN.{length, get_or, set}
use lib.Seq.{get_or-set_same, get_or-set_other}
use Rattle.number.proofs.Cases.{by_eq}
use Rattle.config.specs.declared.Config.{Config}
use Rattle.config.specs.Meaning.{is_isr}
use Rattle.plan.specs.declared.Plan.{Plan}
use Rattle.word.specs.Word.{has, union}
use Rattle.word.proofs.Theorems.{has_union}
use Rattle.scheduler.specs.Body.{Phase, suspended, ready, started, waiting, triggered, is_suspended, is_started, competes, Body}
use Rattle.scheduler.specs.State.{no_body}
use Rattle.scheduler.specs.Call.{request_waits}
use Rattle.machine.specs.Model.{Core}
use Rattle.plan.proofs.Fitted.{Fitted}

-- body b of a list of bodies
abbrev pub at : List Body → ℕ → Body
at bs b = get_or bs b no_body

-- a change of one leaves the others
pub at_other : (bs : List Body) (b : ℕ) (y : Body) (i : ℕ) → i ≢ b → at (set bs b y) i ≡ at bs i
at_other bs b y i n = get_or-set_other bs b i y no_body n

-- and other bodies have other ranks
pub other_rank : {c : Config} {p : Plan} {rk : ℕ → ℕ} → Fitted c p rk → (b : ℕ) → b < c.bodies
    → (i : ℕ) → i < c.bodies → i ≢ b → rk i ≢ rk b
other_rank fit b b< i i< n e = n (fit.rank_inj i b i< b< e)

-- it has begun, and does not go on by its priority
abbrev pub is_aside : Phase → Bool
is_aside suspended = false
is_aside ready = false
is_aside started = false
is_aside (waiting w) = true
is_aside (triggered x) = x

-- a request of the body waits: it is ready, or has begun with one waiting, or is triggered and has not begun
abbrev pub wants : Body → Bool
wants b = request_waits b b.phase

-- only an ISR has a second request, and it never waits for an event bit, nor is it triggered
abbrev pub Suits : Config → ℕ → Body → Type 0
Suits c b y = (y.pending ≡ true → is_isr c b ≡ true) × (is_aside y.phase ≡ true → is_isr c b ≡ false)

pub record Words (c : Config) (rk : ℕ → ℕ) (k : Core) (bs : List Body) : Type 0 where
  pub request_lt : k.request < 2 ^ 32
  pub started_lt : k.started < 2 ^ 32
  pub aside_lt : k.aside < 2 ^ 32
  pub asks : (b : ℕ) → b < c.bodies → has k.request (rk b) ≡ wants (at bs b)
  pub goes_on : (b : ℕ) → b < c.bodies → has k.started (rk b) ≡ is_started (at bs b).phase
  pub put_aside : (b : ℕ) → b < c.bodies → has k.aside (rk b) ≡ is_aside (at bs b).phase
  -- a bit of one that wants to begin, or goes on, is some body's
  pub real : (r : ℕ) → has (union k.request k.started) r ≡ true → (b : ℕ) × ((b < c.bodies) × (rk b ≡ r))
  -- only who is started has a second request
  pub quiet : (b : ℕ) → is_started (at bs b).phase ≡ false → (at bs b).pending ≡ false
  pub suits : (b : ℕ) → Suits c b (at bs b)

-- the words of k agree with the body y at the rank r
pub record Marks (k : Core) (r : ℕ) (y : Body) : Type 0 where
  pub asks : has k.request r ≡ wants y
  pub goes_on : has k.started r ≡ is_started y.phase
  pub put_aside : has k.aside r ≡ is_aside y.phase
  pub quiet : is_started y.phase ≡ false → y.pending ≡ false

-- the words of k' are those of k but for the rank r
pub record Unmoved (k' k : Core) (r : ℕ) : Type 0 where
  pub request_lt : k'.request < 2 ^ 32
  pub started_lt : k'.started < 2 ^ 32
  pub aside_lt : k'.aside < 2 ^ 32
  pub asks : (i : ℕ) → i ≢ r → has k'.request i ≡ has k.request i
  pub goes_on : (i : ℕ) → i ≢ r → has k'.started i ≡ has k.started i
  pub put_aside : (i : ℕ) → i ≢ r → has k'.aside i ≡ has k.aside i

-- body b becomes y, the words agree with y at its rank, and are as before elsewhere
module _ {c : Config} {p : Plan} {rk : ℕ → ℕ} (fit : Fitted c p rk) {k : Core} {bs : List Body} (w : Words c rk k bs)
    (size : length bs ≡ c.bodies) (b : ℕ) (b< : b < c.bodies) (y : Body) (k' : Core) where
  pub words_changed : Suits c b y → Marks k' (rk b) y → Unmoved k' k (rk b) → Words c rk k' (set bs b y)
  words_changed fits here there =
      record {
        request_lt = there.request_lt;
        started_lt = there.started_lt;
        aside_lt = there.aside_lt;
        asks = λ i i<. by_eq i b
            (λ e. rw (e, at_b) here.asks)
            (λ n. rw (at_other bs b y i n) (there.asks (rk i) (other_rank fit b b< i i< n) ∙ w.asks i i<));
        goes_on = λ i i<. by_eq i b
            (λ e. rw (e, at_b) here.goes_on)
            (λ n. rw (at_other bs b y i n) (there.goes_on (rk i) (other_rank fit b b< i i< n) ∙ w.goes_on i i<));
        put_aside = λ i i<. by_eq i b
            (λ e. rw (e, at_b) here.put_aside)
            (λ n. rw (at_other bs b y i n) (there.put_aside (rk i) (other_rank fit b b< i i< n) ∙ w.put_aside i i<));
        real = λ r h. by_eq r (rk b)
            (λ e. (b, (b<, sym e)))
            (λ n. w.real r (bids_other r n ∙ h));
        quiet = λ i h. by_eq i b
            (λ e. rw (e, at_b) (here.quiet (rw (e, at_b) at h)))
            (λ n. rw (at_other bs b y i n) (w.quiet i (rw (at_other bs b y i n) at h)));
        suits = λ i. by_eq i b
            (λ e. rw (e, at_b) fits)
            (λ n. rw (at_other bs b y i n) (w.suits i));
      }
    where
      at_b : at (set bs b y) b ≡ y
      at_b = get_or-set_same bs b y no_body (rw size b<)

      bids_other : (r : ℕ) → r ≢ rk b
          → has (union k.request k.started) r ≡ has (union k'.request k'.started) r
      bids_other r n = simp (has_union, there.asks r n, there.goes_on r n)

-- whether a request waits goes by the phase and the mark alone
waits_same : (x y : Body) (q : Phase) → x.pending ≡ y.pending → request_waits x q ≡ request_waits y q
waits_same x y suspended e = refl
waits_same x y ready e = refl
waits_same x y started e = e
waits_same x y (waiting w) e = e
waits_same x y (triggered z) e = refl

pub competes_on : (q : Phase) → competes q ≡ true → is_aside q ≡ false
competes_on suspended h = refl
competes_on ready h = refl
competes_on started h = refl
competes_on (waiting w) h = absurd (true≢false (sym h))
competes_on (triggered x) h = absurd (true≢false (sym h))

-- of one that is started only a second request waits
pub started_waits : (b : Body) (q : Phase) → is_started q ≡ true → request_waits b q ≡ b.pending
started_waits b suspended h = absurd (true≢false (sym h))
started_waits b ready h = absurd (true≢false (sym h))
started_waits b started h = refl
started_waits b (waiting w) h = absurd (true≢false (sym h))
started_waits b (triggered x) h = absurd (true≢false (sym h))

-- the words of k, with another runner and level
abbrev seated_by : Core → ℕ → ℕ → Core
seated_by k r l = record { request = k.request; started = k.started; aside = k.aside; runner = r; level = l }

-- a body of the same phase and with the same second request has the same marks
module _ {c : Config} {rk : ℕ → ℕ} {k : Core} {bs : List Body} (w : Words c rk k bs) (b : ℕ) (b< : b < c.bodies)
    (y : Body) (phase : y.phase ≡ (at bs b).phase) (second : y.pending ≡ (at bs b).pending) (r l : ℕ) where
  pub marks_same : Marks (seated_by k r l) (rk b) y
  marks_same =
      record {
        asks = w.asks b b< ∙ waits_same (at bs b) y (at bs b).phase (sym second) ∙ ap (request_waits y) (sym phase);
        goes_on = w.goes_on b b< ∙ ap is_started (sym phase);
        put_aside = w.put_aside b b< ∙ ap is_aside (sym phase);
        quiet = λ h. second ∙ w.quiet b (sym (ap is_started phase) ∙ h);
      }

-- words that stay as they are
pub unmoved_same : {c : Config} {rk : ℕ → ℕ} {k : Core} {bs : List Body} (w : Words c rk k bs) (r l i : ℕ)
    → Unmoved (seated_by k r l) k i
unmoved_same w r l i =
    record {
      request_lt = w.request_lt;
      started_lt = w.started_lt;
      aside_lt = w.aside_lt;
      asks = λ j n. refl;
      goes_on = λ j n. refl;
      put_aside = λ j n. refl;
    }

-- a body has a bit in one of the words exactly if it isn't suspended
pub busy_is : {c : Config} {rk : ℕ → ℕ} {k : Core} {bs : List Body} → Words c rk k bs → (t : ℕ) → t < c.bodies
    → has k.request (rk t) || has (union k.started k.aside) (rk t) ≡ not (is_suspended (at bs t).phase)
busy_is {rk = rk} {k = k} {bs = bs} w t h =
    ap₂ (λ (x y : Bool). x || y) (w.asks t h)
    (has_union k.started k.aside (rk t) ∙ ap₂ (λ (x y : Bool). x || y) (w.goes_on t h) (w.put_aside t h))
    ∙ go (at bs t) (at bs t).phase
  where
    go : (b : Body) (q : Phase) → request_waits b q || (is_started q || is_aside q) ≡ not (is_suspended q)
    go b suspended = refl
    go b ready = refl
    go b started = or-true b.pending
    go b (waiting w) = or-true b.pending
    go b (triggered x) = not-or_self x
