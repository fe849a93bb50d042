-- A run with room for every output is refused exactly as the call is, or what the machine tells is the answer.
use Prim.Native.Nat.{ℕ, ◌≤◌, ◌<◌}
use mathlib.Core.Path.{◌≡◌, sym, ap, ◌∙◌}
use mathlib.Core.List.{List}
use lib.ListN.{length}
use Rattle.number.specs.Refusal.{none}
use Rattle.number.specs.Output.{written}
use Rattle.config.specs.declared.Config.{Config}
use Rattle.config.specs.Reader.{read_config}
use Rattle.plan.specs.Plan.{plan_of}
use Rattle.run.specs.Run.{calls_of, played, read_run, run_result}
use Rattle.run.proofs.Theorems.{places}
use Rattle.run.proofs.Room.{most_output, run_refused, run_played}
use Rattle.deadlines.specs.Miss.{Miss, deadlines_of}
use Rattle.deadlines.specs.Report.{first_misses, miss_bytes}
use Rattle.deadlines.specs.Words.{machine_misses}
use Rattle.deadlines.specs.Result.{count_of, misses_after_reading, list_after_reading}
use Rattle.deadlines.proofs.Theorems.{played_misses}
use Rattle.deadlines.proofs.Input.{played_accepted, Gave, gave_refused}
use Rattle.misses.specs.Watched.{Watchable}

-- the run of cs and ts, with n bytes lent, returned x
module _ (cs ts : List ℕ) {n x : ℕ} (ended : x ≡ run_result cs ts n) (room : most_output ≤ n) where
  pub refused_same : (d : List ℕ) → places ≤ x → Gave cs ts d x d
  refused_same d high =
      let r = run_refused cs ts ended room high in
      gave_refused cs ts d r.refusal r.place x r.input r.result

  module _ (low : x < places) where
    pub config_read : (read_config cs).refusal ≡ none
    config_read = (run_played cs ts ended room low).accepted

    pub watchable : Watchable (read_config cs).config ts
    watchable =
        let w = run_played cs ts ended room low in
        record {
          few_bodies = (played_accepted cs ts (read_config cs).config (calls_of ts) w.input).0.few_bodies;
          short = w.short;
          readable = w.readable;
        }

    pub answered : (c : Config) → c ≡ (read_config cs).config → {r : ℕ} {d d₁ : List ℕ}
        → r ≡ count_of (length d) (machine_misses c (plan_of c) (deadlines_of c) (calls_of ts))
        → d₁ ≡ written (miss_bytes (first_misses (machine_misses c (plan_of c) (deadlines_of c) (calls_of ts)))) d
        → Gave cs ts d r d₁
    unfolding misses_after_reading list_after_reading
    answered c same {r} {d} {d₁} gives leaves =
        let input : read_run cs ts ≡ played c (calls_of ts)
        = (run_played cs ts ended room low).input ∙ ap (λ (y : Config). played y (calls_of ts)) (sym same) in
        let told = played_misses cs ts c (calls_of ts) input in
        record {
          result = gives ∙ ap (count_of (length d)) told ∙ sym (ap (misses_after_reading (length d)) input);
          output =
              leaves ∙ ap (λ (ms : List Miss). written (miss_bytes (first_misses ms)) d) told
              ∙ sym (ap (list_after_reading d) input);
        }
