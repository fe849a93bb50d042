-- A body that is changed without beginning or ending: asked for, losing an activation, or getting event bits.
--
--   touched_tied  the words follow the body, and the nest does not notice
--   elsewhere     cells and losses have no part in who runs; event_bits_tied: nor have event bits
--   asked_tied    a body is asked for: activate_tied, trigger_tied, line_tied
use Prim.Native.Nat.{ℕ, ◌<◌}
use mathlib.Core.Path.{◌≡◌, refl, sym, ap, ◌∙◌}
use mathlib.Core.Bool.{Bool, true, false, true≢false}
use mathlib.Core.List.{List}
use lib.ListN.{set, length-set}
use lib.Seq.{get_or-set_same, get_or-set_other}
use Rattle.number.proofs.Cases.{by_eq, refuted}
use Rattle.config.specs.declared.Config.{Config}
use Rattle.config.specs.Meaning.{is_isr}
use Rattle.plan.specs.declared.Plan.{Plan}
use Rattle.word.specs.Word.{with}
use Rattle.word.proofs.Theorems.{has_with_same, has_with_other, with_lt}
use Rattle.scheduler.specs.Body.{Body, is_started, has_begun, Phase, suspended, ready, started, waiting, triggered, triggers, activated, requested, loses}
use Rattle.scheduler.specs.State.{no_body, among}
use Rattle.machine.specs.Model.{Core, Model, with_core, with_request, with_rest, with_event_bits}
use Rattle.machine.specs.Arbiter.{requesting}
use Rattle.plan.proofs.Fitted.{Fitted}
use Rattle.machine.proofs.Relation.Words.{at, wants, is_aside, Suits, Words, words_changed, marks_same, unmoved_same}
use Rattle.machine.proofs.Relation.Nest.{alike_same, AlikeAlong, nested_alike, seats_alike, slots_along_alike}
use Rattle.machine.proofs.Relation.Whole.{Tied}
use Rattle.machine.proofs.Arbitration.Dispatch.{rank_below}

module _ {c : Config} {rk : ℕ → ℕ} {m : Model} {bs : List Body} {js ns : List ℕ} (t : Tied c rk m bs js ns) where
  pub elsewhere : (ks on : List ℕ) (w : Bool) (ls : List ℕ) → Tied c rk (with_rest m ks on w ls) bs js ns
  elsewhere ks on w ls =
      record {
        size = t.size;
        words = t.words;
        nested = t.nested;
        seats = t.seats;
        slots = t.slots;
        loose = t.loose;
      }

  pub event_bits_tied : (x : ℕ) (es ws : List ℕ) → Tied c rk (with_event_bits m m.core x es ws) bs js ns
  event_bits_tied x es ws =
      record {
        size = t.size;
        words = t.words;
        nested = t.nested;
        seats = t.seats;
        slots = t.slots;
        loose = t.loose;
      }

  module _ {p : Plan} (fit : Fitted c p rk) (b : ℕ) (b< : b < c.bodies) where
    -- body b becomes y, which holds what it held and in the nest is started as it was, and the words are those of k
    module _ (y : Body) (held : (at bs b).held ≡ y.held)
        (like : among b ns ≡ true → is_started (at bs b).phase ≡ is_started y.phase) (k : Core)
        (words : Words c rk k (set bs b y)) (runner : m.core.runner ≡ k.runner)
        (level : m.core.level ≡ k.level) where
      abbrev bs' : List Body
      bs' = set bs b y

      at_b : at bs' b ≡ y
      at_b = get_or-set_same bs b y no_body (rw t.size b<)

      alike : AlikeAlong bs bs' ns
      alike =
          record {
            each = λ i h. by_eq i b
                (λ e. rw (e, at_b) (record { phase = like (rw e at h); held = held }))
                (λ n. alike_same (sym (get_or-set_other bs b i y no_body n)));
          }

      pub touched_tied : Tied c rk (with_core m k) bs' js ns
      touched_tied =
          record {
            size = length-set bs b y ∙ t.size;
            words = words;
            nested = nested_alike c alike t.nested;
            seats = rw (sym runner, sym level)
                (seats_alike c rk js m.core.runner m.core.level alike t.seats);
            slots = rw (sym (slots_along_alike c rk alike)) t.slots;
            loose = λ i h. by_eq i b
                (λ e. rw (e, at_b) (sym held ∙ t.loose b (rw e at h)))
                (λ n. rw (get_or-set_other bs b i y no_body n) (t.loose i h));
          }

    -- body b becomes y, which is as begun as it was and wants to begin
    module _ (y : Body) (held : (at bs b).held ≡ y.held)
        (started_same : is_started (at bs b).phase ≡ is_started y.phase)
        (aside_same : is_aside (at bs b).phase ≡ is_aside y.phase) (wanted : wants y ≡ true)
        (still : is_started y.phase ≡ false → y.pending ≡ false) (fits : Suits c b y) where
      asked_tied : Tied c rk (requesting (rk b) m) (set bs b y) js ns
      asked_tied =
          touched_tied y held (λ _. started_same) (with_request m.core (with m.core.request (rk b)))
          (words_changed fit t.words t.size b b< y (with_request m.core (with m.core.request (rk b))) fits
          (record {
            asks = has_with_same m.core.request (rk b) (rank_below fit b b<) ∙ sym wanted;
            goes_on = t.words.goes_on b b< ∙ started_same;
            put_aside = t.words.put_aside b b< ∙ aside_same;
            quiet = still;
          })
          (record {
            request_lt = with_lt m.core.request (rk b) t.words.request_lt;
            started_lt = t.words.started_lt;
            aside_lt = t.words.aside_lt;
            asks = λ r n. has_with_other m.core.request (rk b) r n;
            goes_on = λ r n. refl;
            put_aside = λ r n. refl;
          }))
          refl
          refl

    -- "t ready": a body that has not begun is asked for
    module _ (unstarted : is_started (at bs b).phase ≡ false) (unbegun : is_aside (at bs b).phase ≡ false) where
      pub activate_tied : Tied c rk (requesting (rk b) m) (set bs b (activated (at bs b))) js ns
      activate_tied =
          asked_tied (activated (at bs b)) refl unstarted unbegun refl (λ _. t.words.quiet b unstarted)
          ((t.words.suits b).0, λ h. absurd (true≢false (sym h)))

      -- an entry triggers it
      pub trigger_tied : Tied c rk (requesting (rk b) m) (set bs b (triggers (at bs b))) js ns
      trigger_tied =
          asked_tied (triggers (at bs b)) refl unstarted unbegun refl (λ _. t.words.quiet b unstarted)
          ((t.words.suits b).0, λ h. absurd (true≢false (sym h)))

    -- an activation is lost
    pub loss_tied : Tied c rk m (set bs b (loses (at bs b))) js ns
    loss_tied =
        touched_tied (loses (at bs b)) refl (λ _. refl) m.core
        (words_changed fit t.words t.size b b< (loses (at bs b)) m.core (t.words.suits b)
        (marks_same t.words b b< (loses (at bs b)) refl refl m.core.runner m.core.level)
        (unmoved_same t.words m.core.runner m.core.level (rk b)))
        refl
        refl

    -- "i ready, or if started a request waits"
    pub line_tied : is_isr c b ≡ true → Tied c rk (requesting (rk b) m) (set bs b (requested (at bs b))) js ns
    line_tied isr = go (at bs b).phase refl
      where
        awake : is_aside (at bs b).phase ≡ false
        awake = refuted (is_aside (at bs b).phase) (λ e. true≢false (sym isr ∙ (t.words.suits b).1 e))

        go : (q : Phase) → (at bs b).phase ≡ q → Tied c rk (requesting (rk b) m) (set bs b (requested (at bs b))) js ns
        go suspended e = rw (ap has_begun e) (activate_tied (ap is_started e) awake)
        go ready e = rw (ap has_begun e) (activate_tied (ap is_started e) awake)
        go started e =
            rw (ap has_begun e)
            (asked_tied _ refl refl refl (rw e)
            (λ h. absurd (true≢false (sym (ap is_started e) ∙ h)))
            ((λ _. isr), (t.words.suits b).1))
        go (waiting w) e = absurd (true≢false (sym (ap is_aside e) ∙ awake))
        go (triggered false) e = rw (ap has_begun e) (activate_tied (ap is_started e) awake)
        go (triggered true) e = absurd (true≢false (sym (ap is_aside e) ∙ awake))
