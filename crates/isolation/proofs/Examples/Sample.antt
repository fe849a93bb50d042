-- The configuration of the worked examples, as bytes and as a value; its plan.
use Prim.Native.Nat.{ℕ}
use mathlib.Core.Path.{◌≡◌, refl, ap, subst}
use mathlib.Core.List.{List, [], ◌∷◌}
use lib.ListN.{replicate}
use Rattle.number.specs.Refusal.{none}
use Rattle.number.specs.Number.{read_number, groups, continued, fifth_group}
use Rattle.config.specs.declared.Config.{Config}
use Rattle.config.specs.Accepted.{Accepted, Shaped}
use Rattle.config.specs.Draft.{fault_at, put_at, ended, timed_in, some_timed}
use Rattle.config.specs.Reader.{ConfigRead, read_config, number_at, read_from}
use Rattle.config.specs.Meaning.{greatest_in, entries_before}
use Rattle.config.proofs.Theorems.{accepted_ranges, reading}
use Rattle.scheduler.specs.State.{among}
use Rattle.plan.specs.declared.Plan.{Plan}
use Rattle.plan.specs.Stores.{stored}
use Rattle.plan.specs.Words.{marked}
use Rattle.plan.specs.Rank.{below}
use Rattle.plan.specs.Plan.{plan_of}
use Rattle.plan.specs.Entry.{table_in}
use Rattle.word.specs.Word.{has, with}

-- Tasks 0 and 1 of priority 2 and 5, of which 1 is autostart; ISRs 2 and 3 of priority 9 and 3. One resource
-- with the users 1 and 2, so with the ceiling 9. One table of period 2 with task 0 at offset 0.
abbrev pub bytes : List ℕ
bytes = 1 ∷ 4 ∷ 0 ∷ 2 ∷ 0 ∷ 0 ∷ 5 ∷ 1 ∷ 1 ∷ 9 ∷ 0 ∷ 1 ∷ 3 ∷ 0 ∷ 1 ∷ 6 ∷ 1 ∷ 2 ∷ 1 ∷ 0 ∷ 0 ∷ []

abbrev pub sample : Config
sample =
    record {
      version = 1;
      bodies = 4;
      kind = 0 ∷ 0 ∷ 1 ∷ 1 ∷ replicate 28 0;
      priority = 2 ∷ 5 ∷ 9 ∷ 3 ∷ replicate 28 0;
      autostart = 0 ∷ 1 ∷ replicate 30 0;
      deadline = replicate 32 0;
      resources = 1;
      users = 6 ∷ replicate 15 0;
      tables = 1;
      period = 2 ∷ replicate 7 0;
      entries = 1 ∷ replicate 7 0;
      offset = replicate 64 0;
      task = replicate 64 0;
    }

read : read_config bytes ≡ record { config = sample; refusal = none; place = 21 }
unfolding read_number groups continued fifth_group read_config number_at read_from fault_at put_at ended timed_in some_timed greatest_in
    entries_before among
read = refl

config_is : (read_config bytes).config ≡ sample
config_is = ap (λ (x : ConfigRead). x.config) read

pub sample_accepted : Accepted sample
sample_accepted = subst Accepted config_is (accepted_ranges bytes (ap (λ (x : ConfigRead). x.refusal) read))

pub sample_shaped : Shaped sample
sample_shaped = subst Shaped config_is (reading bytes).shaped

-- the tables that the machine looks up: the ranks of the bodies are 0, 2, 3 and 1
abbrev pub sample_plan : Plan
sample_plan =
    record {
      rank = 0 ∷ 2 ∷ 3 ∷ 1 ∷ replicate 28 255;
      callable = 0 ∷ 2 ∷ 255 ∷ 255 ∷ replicate 28 255;
      line = 255 ∷ 255 ∷ 3 ∷ 1 ∷ replicate 28 255;
      priority = 2 ∷ 3 ∷ 5 ∷ 9 ∷ replicate 28 0;
      body = 0 ∷ 3 ∷ 1 ∷ 2 ∷ replicate 28 0;
      isrs = 10;
      extended = 0;
      autostart = 4;
      ceiling = 9 ∷ replicate 15 0;
      users = 12 ∷ replicate 15 0;
      first = replicate 8 0;
      compare = 1 ∷ replicate 63 0;
      entry = replicate 64 0;
      count = 1;
    }

pub plan_is : plan_of sample ≡ sample_plan
unfolding plan_of stored marked below table_in greatest_in entries_before has with
plan_is = refl
