-- The call from C on texts worked by hand: what it answers, what it leaves in its output and what it tells of the place.
-- The checker computes each.
use Prim.Native.Nat.{ℕ, ◌+◌, ◌*◌}
use mathlib.Core.Path.{◌≡◌, refl}
use mathlib.Core.List.{List, [], ◌∷◌, map}
use lib.ListN.{replicate}
use Rattle.number.specs.Output.{writing, written}
use Rattle.oil_grammar.specs.Reader.{oil_result, oil_output, oil_place}
use Rattle.oil_grammar.proofs.Ascii.{ascii}
use Rattle.oil_grammar.proofs.Answers.{told, bytes}

-- refusal r with the low half p
abbrev at : ℕ → ℕ → ℕ
at r p = r * 4294967296 + p

abbrev text : List ℕ
text = ascii "TASK a { PRIORITY = 1; };"

-- # stands in line 2, column 17
abbrev unreadable : List ℕ
unreadable = ascii "TASK a\n{ PRIORITY = 1; #"

-- 61, 62, 63, 64, and 4, 5, 6
abbrev refused_texts : List (List ℕ)
refused_texts =
    ascii ";" ∷ ascii "x" ∷ ascii "RESOURCE a { }; RESOURCE a" ∷ ascii "TASK a { PRIORITY = 1; RESOURCE = b; };" ∷ []
    ∷ ascii "TASK a { PRIORITY = 201; };" ∷ ascii "TASK a { PRIORITY = 1; }; TASK b { PRIORITY = 1; };" ∷ []

pub record Calls : Type 0 where
  -- the configuration's length, or 30 with the bytes needed
  pub result : (oil_result text 7 ≡ 7) × (oil_result text 8 ≡ 7) × (oil_result text 6 ≡ at 30 7)
  -- its bytes, those beyond staying; too short, all stay
  pub output : (oil_output text (replicate 9 255) ≡ 1 ∷ 1 ∷ 0 ∷ 1 ∷ 0 ∷ 0 ∷ 0 ∷ 255 ∷ 255 ∷ [])
      × (oil_output text (replicate 6 255) ≡ replicate 6 255)
  pub place : oil_place text ≡ 0 ∷ 0 ∷ []
  -- a refused text: its refusal, whatever the room; nothing is written; line, then column
  pub refused : (oil_result unreadable 9 ≡ at 60 0) × (oil_result unreadable 0 ≡ at 60 0)
      × (oil_output unreadable (replicate 9 255) ≡ replicate 9 255)
      × (oil_place unreadable ≡ 2 ∷ 17 ∷ [])
  pub refusals : map (λ t. oil_result t 9) refused_texts
      ≡ at 61 0 ∷ at 62 0 ∷ at 63 0 ∷ at 64 0 ∷ at 4 0 ∷ at 5 0 ∷ at 6 0 ∷ []
  pub places : map oil_place refused_texts
      ≡ (1 ∷ 1 ∷ []) ∷ (1 ∷ 1 ∷ []) ∷ (1 ∷ 26 ∷ []) ∷ (1 ∷ 35 ∷ []) ∷ (0 ∷ 0 ∷ []) ∷ (0 ∷ 0 ∷ []) ∷ (0 ∷ 0 ∷ []) ∷ []
  pub untouched : map (λ t. oil_output t (7 ∷ [])) refused_texts ≡ replicate 7 (7 ∷ [])

pub calls : Calls
unfolding told bytes writing written oil_result oil_output oil_place
calls =
    record {
      result = (refl, refl, refl);
      output = (refl, refl);
      place = refl;
      refused = (refl, refl, refl, refl);
      refusals = refl;
      places = refl;
      untouched = refl;
    }
