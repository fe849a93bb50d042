-- A refused event changes nothing (`refused_same`), but for the count of a lost line (`lost_line`):
-- at the end of the file.
--
-- In order: after a refusal comes the dispatch alone, and it finds nobody to begin; a loss has no part in who runs.
use Prim.Native.Nat.{ℕ, ◌+◌, min}
use mathlib.Core.Path.{◌≡◌, refl, sym, ap, ◌∙◌}
use mathlib.Core.Bool.{true, false, true≢false}
use mathlib.Core.List.{List, [], ◌∷◌}
use mathlib.Core.Logic.{◌≢◌}
use native.Mathlib.Omega.{arith}
use borrow.Author.Tests.{eq-eqb, ne_eqb}
use lib.ListN.{get_or, set, get_or-map}
use lib.Seq.{set-get_or, map-set_same}
use Rattle.config.specs.declared.Config.{Config}
use Rattle.config.specs.Meaning.{execution_level}
use Rattle.scheduler.specs.Status.{done, limit_reached}
use Rattle.scheduler.specs.Body.{Phase, suspended, ready, started, waiting, triggered, has_begun, Body, most_losses, loses}
use Rattle.scheduler.specs.Choice.{candidate, by_holding, chosen}
use Rattle.scheduler.specs.State.{State, no_body, body_of, changing, latest_of, runner}
use Rattle.scheduler.specs.Event.{Event, Line}
use Rattle.scheduler.specs.Call.{status_of, else_of}
use Rattle.scheduler.specs.Scheduler.{begins, dispatched, leaves, step, step_by, LostLine}
use Rattle.scheduler.proofs.Choice.Runner.{chosen_alike}
use Rattle.scheduler.proofs.Event.Effects.{length_changing, else_of_keeps}
use Rattle.scheduler.proofs.Choice.Dispatch.{Underway, dispatched_same}

refused_leaves : (c : Config) (s : State) (e : Event) → status_of c s e ≢ done
    → leaves c s e ≡ else_of c s (status_of c s e) e
refused_leaves c s e refused = rw (ne_eqb (status_of c s e) done refused)

pub refused_dispatched : (c : Config) (s : State) (e : Event) → (step c s e).seen.status ≢ done
    → ((i : ℕ) → LostLine c s e i → ⊥)
    → (step c s e).state ≡ dispatched c s
unfolding step_by
refused_dispatched c s e refused kept =
    ap (dispatched c)
    (refused_leaves c s e refused
    ∙ else_of_keeps c s (λ x. x ≡ s) refl (status_of c s e) e (λ i w q h. absurd (kept i (w, q, h))))

module _ (c : Config) where
  pub refused_same : (s : State) (e : Event) → Underway c s → (step c s e).seen.status ≢ done
      → ((i : ℕ) → LostLine c s e i → ⊥)
      → (step c s e).state ≡ s
  refused_same s e underway refused kept = refused_dispatched c s e refused kept ∙ dispatched_same c s underway

  -- "Version 1 .. at the head of the configuration": no line is counted
  pub first_edition : c.version ≡ 1 → (s : State) (e : Event) (i : ℕ) → LostLine c s e i → ⊥
  first_edition v s e i lost = true≢false (sym lost.0 ∙ rw v)

  -- a loss has no part in who runs
  runner_loses : (i : ℕ) (s : State) → runner c (changing i loses s) ≡ runner c s
  unfolding candidate
  runner_loses i s =
      ap (latest_of (changing i loses s).bodies s.order)
      (chosen_alike by_holding c loses (λ j b. same j b b.phase) s.bodies i)
      ∙ go s.order
    where
      same : (j : ℕ) (b : Body) (p : Phase) → candidate c j (loses b) p ≡ candidate c j b p
      same j b suspended = refl
      same j b ready = refl
      same j b started = refl
      same j b (waiting w) = refl
      same j b (triggered x) = refl

      phase_same : (j : ℕ) → (body_of (changing i loses s) j).phase ≡ (body_of s j).phase
      phase_same j =
          sym (get_or-map (λ (b : Body). b.phase) (changing i loses s).bodies j no_body)
          ∙ ap (λ l. get_or l j suspended)
          (map-set_same (λ (b : Body). b.phase) s.bodies i (loses (body_of s i)) no_body refl)
          ∙ get_or-map (λ (b : Body). b.phase) s.bodies j no_body

      go : (js : List ℕ)
          → latest_of (changing i loses s).bodies js (chosen c s.bodies)
          ≡ latest_of s.bodies js (chosen c s.bodies)
      go [] = refl
      go (j ∷ js) =
          ap (λ (p : Phase).
          record { number = j; level = execution_level; began = has_begun p; holder = false; timed = true })
          (phase_same j)

  pub lost_line : (s : State) (i : ℕ) → Underway c s → LostLine c s (Line i) i
      → (step c s (Line i)).state ≡ changing i loses s
  unfolding step_by
  lost_line s i underway lost =
      ap (dispatched c) left
      ∙ dispatched_same c (changing i loses s)
      (λ e. rw (runner_loses i s, length_changing i loses s) (underway (sym (ap begins (runner_loses i s)) ∙ e)))
    where
      left : leaves c s (Line i) ≡ changing i loses s
      left =
          refused_leaves c s (Line i) (λ z. absurd (omega (arith, lost.2, z)))
          ∙ rw lost.0 (rw (eq-eqb (status_of c s (Line i)) limit_reached lost.2))

  -- "up to 65,535"
  pub lost_line_full : (s : State) (i : ℕ) → Underway c s → LostLine c s (Line i) i → (body_of s i).losses ≡ most_losses
      → (step c s (Line i)).state ≡ s
  lost_line_full s i underway lost full =
      lost_line s i underway lost
      ∙ ap (λ (bs : List Body). record { bodies = bs; tables = s.tables; order = s.order })
      (ap (set s.bodies i) same ∙ set-get_or s.bodies i no_body)
    where
      same : loses (body_of s i) ≡ body_of s i
      same =
          ap (λ k. record {
            phase = (body_of s i).phase;
            pending = (body_of s i).pending;
            held = (body_of s i).held;
            losses = k;
            bits = (body_of s i).bits;
          }) no_more
        where
          no_more : min ((body_of s i).losses + 1) most_losses ≡ (body_of s i).losses
          no_more = omega (arith, full)
