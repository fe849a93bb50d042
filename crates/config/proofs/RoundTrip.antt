-- Both round trips: the walks of reader and writer put together. Last, that what is written is bytes.
use Prim.Native.Nat.{ℕ, ◌+◌, ◌-◌, ◌≤◌, ◌<◌}
use mathlib.Core.Path.{◌≡◌, refl, sym, ap, ◌∙◌}
use mathlib.Core.List.{List, [], ◌∷◌, ◌++◌}
use native.Mathlib.Omega.{arith}
use lib.ListN.{length, get_or-append}
use lib.Seq.{get_or-append-add}
use borrow.Author.Tests.{le-leb, lt-leb}
use Rattle.number.specs.Refusal.{none}
use Rattle.number.specs.Number.{Bytes, number_bound}
use Rattle.number.proofs.Cases.{by_test, by_lt, by_eq}
use Rattle.number.proofs.Theorems as Number
use Rattle.config.specs.declared.Config.{Config}
use Rattle.config.specs.declared.Draft.{Draft}
use Rattle.config.specs.Meaning.{entries_before}
use Rattle.config.specs.Draft.{put, silent, start, Within}
use Rattle.config.specs.Reader.{ConfigRead, accepted, max_numbers, max_length, read_config}
use Rattle.config.specs.Writer.{bytes_at, first_fault, config_bytes}
use Rattle.config.specs.Accepted.{Shaped, Accepted, trimmed}
use Rattle.config.proofs.Position.{moved, start_within, Paced, paced, start_paced, small}
use Rattle.config.proofs.Walk.{InOrder, Asks, last, bytes_of, few_numbers, Reads, reads, read_walk, Walks, walks, walk_fault, walk_bytes, length_bytes_from}
use Rattle.config.proofs.Extends.{shaped_last, asks_last}
use Rattle.config.proofs.Sound.{ends}
use Rattle.config.proofs.Reading.{bounded}

start_shaped : Shaped start.config
start_shaped =
    record {
      kinds = refl;
      priorities = refl;
      autostarts = refl;
      deadlines = refl;
      masks = refl;
      periods = refl;
      counts = refl;
      offsets = refl;
      tasks = refl;
    }

-- the numbers of a value without a fault
module _ (c : Config) (fine : first_fault c ≡ none) where
  pub walk : Walks c start
  walk = walks max_numbers c start start_within (omega arith) fine

  pub enough : length walk.numbers ≤ max_numbers
  enough = few_numbers start walk.numbers start_within walk.in_order

  pub walk_written : config_bytes c ≡ bytes_of start walk.numbers
  walk_written = walk_bytes walk.numbers max_numbers c start enough walk.in_order walk.asks

pub few_bytes : (c : Config) → length (config_bytes c) ≤ 1460
few_bytes c = length_bytes_from max_numbers c start

pub faultless_accepted : (c : Config) → Shaped c → first_fault c ≡ none → Accepted c
faultless_accepted c s fine = let w = walk c fine in (ends c s w.numbers w.in_order w.asks).accepted

-- the bytes of a walk read as what it leads to
read_bytes_of : (vs : List ℕ) → length (bytes_of start vs) ≤ max_length → InOrder start vs
    → read_config (bytes_of start vs) ≡ accepted (last start vs).config (length (bytes_of start vs))
unfolding read_config
read_bytes_of vs h o =
    rw (le-leb (length (bytes_of start vs)) max_length h)
    (read_walk vs start max_numbers (bytes_of start vs) 0 start_within start_paced o (few_numbers start vs start_within o)
    (omega arith) refl)

pub read_written : (c : Config) → Shaped c → first_fault c ≡ none
    → read_config (config_bytes c) ≡ accepted (trimmed c) (length (config_bytes c))
read_written c s fine =
    let w = walk c fine in
    rw (walk_written c fine)
    (read_bytes_of w.numbers short w.in_order
    ∙ ap (λ (x : Config). accepted x (length (bytes_of start w.numbers)))
    (ends c s w.numbers w.in_order w.asks).same)
  where
    short : length (bytes_of start (walk c fine).numbers) ≤ max_length
    short = omega (arith, rw (walk_written c fine) at (few_bytes c))

-- what an accepted reading has read
config_reads : (bs : List ℕ) → (read_config bs).refusal ≡ none → Reads bs 0 start (read_config bs)
unfolding read_config
config_reads bs =
    by_lt max_length (length bs)
    (λ h. rw (lt-leb (length bs) max_length h) (λ e. absurd (omega arith)))
    (λ h. rw (le-leb (length bs) max_length h) (reads bs max_numbers 0 start))

module _ (bs : List ℕ) (e : (read_config bs).refusal ≡ none) where
  r : Reads bs 0 start (read_config bs)
  r = config_reads bs e

  -- the configuration that its numbers lead to
  abbrev made : Config
  made = (last start r.numbers).config

  own : Asks made start r.numbers
  own = asks_last start r.numbers start_within start_shaped r.in_order

  short : length r.numbers ≤ max_numbers
  short = few_numbers start r.numbers start_within r.in_order

  read_config_lem : (read_config bs).config ≡ made
  read_config_lem = ap (λ (x : ConfigRead). x.config) r.result

  pub read_place : (read_config bs).place ≡ length bs
  read_place = ap (λ (x : ConfigRead). x.place) r.result

  made_shaped : Shaped made
  made_shaped = shaped_last start r.numbers start_shaped

  read_shaped : Shaped (read_config bs).config
  read_shaped = rw read_config_lem made_shaped

  pub read_faultless : first_fault (read_config bs).config ≡ none
  read_faultless = rw read_config_lem (walk_fault r.numbers max_numbers made start short r.in_order own)

  pub written_read : Bytes bs → config_bytes (read_config bs).config ≡ bs
  written_read b =
      rw read_config_lem (walk_bytes r.numbers max_numbers made start short r.in_order own ∙ sym (r.covers b))

  read_trimmed : (read_config bs).config ≡ trimmed (read_config bs).config
  read_trimmed = rw read_config_lem (ends made made_shaped r.numbers r.in_order own).same

pub zero_past : (bs : List ℕ) → (read_config bs).config ≡ trimmed (read_config bs).config
unfolding trimmed entries_before
zero_past bs =
    by_eq (read_config bs).refusal none
    (λ e. read_trimmed bs e)
    (λ e. rw ((bounded bs).zero_value e))

pub shaped : (bs : List ℕ) → Shaped (read_config bs).config
shaped bs =
    by_eq (read_config bs).refusal none
    (λ e. read_shaped bs e)
    (λ e. rw ((bounded bs).zero_value e) start_shaped)

-- the bytes of a number, and of a walk, are bytes
bytes_at_are_bytes : (d : Draft) (v : ℕ) → v < number_bound → Bytes (bytes_at d v)
unfolding bytes_at
bytes_at_are_bytes d v h =
    by_test (silent d)
    (λ q. rw q (λ i. omega arith))
    (λ q. rw q (Number.number_bytes_are_bytes v h))

joined : (a b : List ℕ) → Bytes a → Bytes b → Bytes (a ++ b)
joined a b ha hb j =
    by_lt j (length a)
    (λ q. rw (get_or-append a b 0 j q) (ha j))
    (λ q. rw (past q, get_or-append-add a b later 0) (hb later))
  where
    later : ℕ
    later = j - length a

    past : length a ≤ j → j ≡ length a + later
    past q = omega arith

bytes_of_are_bytes : (d : Draft) (vs : List ℕ) → Within d → Paced d → InOrder d vs → Bytes (bytes_of d vs)
bytes_of_are_bytes d [] w p o = λ i. omega arith
bytes_of_are_bytes d (v ∷ vs) w p o =
    joined (bytes_at d v) (bytes_of (put d v) vs)
    (bytes_at_are_bytes d v (small d v o.0 o.1 w p))
    (bytes_of_are_bytes (put d v) vs (moved d v o.0 o.1 w).within (paced d v o.1 p) o.2)

pub config_bytes_are_bytes : (c : Config) → first_fault c ≡ none → Bytes (config_bytes c)
config_bytes_are_bytes c fine =
    let w = walk c fine in
    rw (walk_written c fine) (bytes_of_are_bytes start w.numbers start_within start_paced w.in_order)
