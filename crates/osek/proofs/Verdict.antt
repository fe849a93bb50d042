-- The verdict and the machine. Crate verdict knows the run by its contract and names nothing of the machine; by demand 3
-- the verdict is on the machine's answers all the same.
use Prim.Native.Nat.{ℕ}
use mathlib.Core.Path.{◌≡◌, sym, ap, ◌∙◌}
use mathlib.Core.List.{List}
use mathlib.Core.Logic.{◌↔◌}
use native.Mathlib.Omega.{arith}
use lib.ListN.{length}
use Rattle.number.specs.Refusal.{none}
use Rattle.number.proofs.Cases.{by_lt, by_eq}
use Rattle.config.specs.declared.Config.{Config}
use Rattle.config.specs.Accepted.{Accepted, Shaped}
use Rattle.config.specs.Reader.{read_config}
use Rattle.config.proofs.Theorems.{reading, accepted_ranges}
use Rattle.event.specs.Trace.{max_trace, read_trace}
use Rattle.plan.specs.Plan.{plan_of}
use Rattle.scheduler.specs.Scheduler.{Event}
use Rattle.machine.specs.Machine.{fresh_model, machine_seen}
use Rattle.machine.proofs.Theorems.{agreement}
use Rattle.run.specs.Run.{refused, played, answer_bytes}
use Rattle.run.proofs.Input.{config_refused, trace_too_long_lem, trace_refused, all_readable}
use Rattle.conformance.specs.Verdict.{pass, verdict}
use Rattle.conformance.specs.Record.{expected, Runs}
use Rattle.conformance.proofs.Theorems.{pass_exactly}

-- the answers of the machine to events, from its fresh start
abbrev pub machine_expected : Config → List Event → List ℕ
machine_expected c es = answer_bytes (machine_seen c (plan_of c) (fresh_model (plan_of c)) es)

-- a configuration that is run is an accepted one
played≢refused : {c : Config} {es : List Event} {r p : ℕ} → refused r p ≡ played c es → ⊥
played≢refused e = let z : ◌≡◌ {A = ℕ} 0 1 = cc in omega arith

run_accepted : (cs ts : List ℕ) (c : Config) (es : List Event) → Runs cs ts c es → Accepted c × Shaped c
run_accepted cs ts c es runs =
    by_eq (read_config cs).refusal none
    (λ ok. by_lt max_trace (length ts)
    (λ long. absurd (played≢refused (sym (trace_too_long_lem cs ts ok long) ∙ runs)))
    (λ short. by_eq (read_trace ts).refusal none
    (λ fine. let same : (read_config cs).config ≡ c = cc (all_readable cs ts ok short fine, runs) in
    (rw same at (accepted_ranges cs ok), rw same at (reading cs).shaped))
    (λ bad. absurd (played≢refused (sym (trace_refused cs ts ok short bad) ∙ runs)))))
    (λ bad. absurd (played≢refused (sym (config_refused cs ts bad) ∙ runs)))

-- the machine's answers are those that the verdict expects
pub machine_expected_lem : (cs ts : List ℕ) (c : Config) (es : List Event) → Runs cs ts c es
    → machine_expected c es ≡ expected c es
machine_expected_lem cs ts c es runs =
    let h = run_accepted cs ts c es runs in ap answer_bytes (agreement c h.0 h.1 es)

-- so a unit passes exactly if it recorded the machine's answers
pub machine_exactly : (cs ts rs : List ℕ) (c : Config) (es : List Event) → Runs cs ts c es
    → (verdict cs ts rs ≡ pass) ↔ (rs ≡ machine_expected c es)
machine_exactly cs ts rs c es runs =
    let k = pass_exactly cs ts rs c es runs in
    let e = machine_expected_lem cs ts c es runs in
    (λ h. k.0 h ∙ sym e, λ h. k.1 (h ∙ e))
