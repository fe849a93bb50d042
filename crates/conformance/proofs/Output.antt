-- What the run leaves, as the answers and what stands behind them.
use Prim.Native.Nat.{ℕ, ◌*◌, ◌≤◌}
use mathlib.Core.Path.{◌≡◌, ap, ◌∙◌}
use mathlib.Core.List.{List, ◌++◌, append_assoc}
use lib.ListN.{length, take, drop}
use lib.Seq.{take_at}
use Rattle.number.proofs.Theorems.{written_fits}
use Rattle.config.specs.declared.Config.{Config}
use Rattle.scheduler.specs.Choice.{by_holding}
use Rattle.scheduler.specs.Scheduler.{Event, fresh, seen, after, losses_of}
use Rattle.run.specs.Run.{loss_bytes, answers, output_of, run_output}
use Rattle.conformance.specs.Record.{expected, Runs}
use Rattle.run.proofs.Answers.{length_answer_bytes}
use Rattle.conformance.proofs.Judging.{length_seen}

-- the losses, and "bytes beyond stay"
abbrev pub behind : Config → List Event → List ℕ → List ℕ
behind c es d = loss_bytes (losses_of (after c (fresh c) es)) ++ drop (length (answers c es)) d

module _ (cs ts : List ℕ) (c : Config) (es : List Event) (runs : Runs cs ts c es) (d : List ℕ)
    (room : length (answers c es) ≤ length d) where
  pub output_answers : run_output cs ts d ≡ expected c es ++ behind c es d
  unfolding output_of answers
  output_answers =
      ap (output_of d) runs
      ∙ written_fits (answers c es) d room
      ∙ append_assoc (expected c es) (loss_bytes (losses_of (after c (fresh c) es))) (drop (length (answers c es)) d)

  pub output_front : take (4 * length es) (run_output cs ts d) ≡ expected c es
  output_front =
      ap (take (4 * length es)) output_answers
      ∙ take_at (expected c es) (behind c es d) (4 * length es)
      (length_answer_bytes (seen c (fresh c) es) ∙ ap (λ (n : ℕ). 4 * n) (length_seen by_holding c es (fresh c)))
