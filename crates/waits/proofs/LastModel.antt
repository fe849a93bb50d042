-- A run with room for every output is refused exactly as the call is, or its last model has the answer.
use Prim.Native.Nat.{ℕ, ◌^◌, ◌≤◌, ◌<◌}
use mathlib.Core.Path.{◌≡◌, sym, ap, ◌∙◌}
use mathlib.Core.List.{List}
use native.Mathlib.Omega.{arith}
use borrow.Author.Tests.{le-leb}
use lib.ListN.{length}
use Rattle.number.specs.Refusal.{none}
use Rattle.config.specs.Accepted.{Accepted, Shaped}
use Rattle.config.specs.Reader.{read_config}
use Rattle.config.proofs.Theorems.{reading, accepted_ranges}
use Rattle.plan.specs.Plan.{plan_of}
use Rattle.word.specs.Word.{ranks}
use Rattle.machine.specs.Machine.{fresh_model, machine_after}
use Rattle.run.specs.Run.{calls_of, answers, run_result}
use Rattle.run.specs.Steps.{last_model_of, last_model}
use Rattle.run.proofs.Theorems.{places, room_enough}
use Rattle.run.proofs.Room.{most_output, Played, run_refused, run_played}
use Rattle.waiting.specs.Result.{wait_after, wait_result}
use Rattle.waiting.specs.Words.{wait_by}
use Rattle.waiting.proofs.Theorems.{wait_by_words}

-- the run of cs and ts, with n bytes lent, returned x
module _ (cs ts : List ℕ) {n x : ℕ} (ended : x ≡ run_result cs ts n) (room : most_output ≤ n) where
  pub refused_same : (b : ℕ) → places ≤ x → x ≡ wait_result cs ts b
  unfolding wait_after
  refused_same b high =
      let r = run_refused cs ts ended room high in
      r.result ∙ sym (ap (wait_after b) r.input)

  module _ (low : x < places) where
    whole : Played cs ts
    whole = run_played cs ts ended room low

    pub config_read : (read_config cs).refusal ≡ none
    config_read = whole.accepted

    pub config_accepted : Accepted (read_config cs).config × Shaped (read_config cs).config
    config_accepted = (accepted_ranges cs whole.accepted, (reading cs).shaped)

    fits : length (answers (read_config cs).config (calls_of ts)) ≤ n
    fits = omega (arith, room_enough cs ts (read_config cs).config (calls_of ts) whole.input)

    last_is : last_model cs ts n
        ≡ machine_after (read_config cs).config (plan_of (read_config cs).config)
        (fresh_model (plan_of (read_config cs).config)) (calls_of ts)
    unfolding last_model_of
    last_is =
        let c = (read_config cs).config in
        ap (last_model_of n) whole.input
        ∙ rw (le-leb (length (answers c (calls_of ts))) n fits)

    pub answered : (b : ℕ) {request started resources : ℕ}
        → request ≡ (last_model cs ts n).core.request
        → started ≡ (last_model cs ts n).core.started
        → resources ≡ (last_model cs ts n).held
        → resources < 2 ^ ranks
        → wait_by (read_config cs).config request started resources b ≡ wait_result cs ts b
    unfolding wait_after
    answered b asks begun held small =
        let c = (read_config cs).config in
        rw (asks, begun, held, last_is)
        (sym (ap (wait_after b) whole.input
        ∙ wait_by_words c config_accepted.0 config_accepted.1 (calls_of ts) b (rw (held, last_is) at small)))
