-- What bytes and tokens are, as tables with every byte and every sort of token written out, computed by the checker:
-- grammar and reading share these definitions, so that no law between the two holds them.
--
--   picked p  the bytes of the class p, of all 256
--   wanted s  the refusals of the tokens of sorts 1 to 15 where the text has come as far as s
use Prim.Native.Nat.{ℕ, zero, suc}
use mathlib.Core.Path.{◌≡◌, refl}
use mathlib.Core.Bool.{Bool, true, false, cond, not}
use mathlib.Core.List.{List, [], ◌∷◌, map}
use lib.Dec.{eqb}
use Rattle.oil_grammar.specs.Records.{Progress}
use Rattle.oil_grammar.specs.declared.Want.{Want}
use Rattle.oil_grammar.specs.declared.Want.TheVariants.{Object, Name, Open, Attribute, PriorityEquals, PriorityNumber, AutostartEquals, AutostartValue, UseEquals, Use, AttributeEnd, ObjectEnd}
use Rattle.oil_grammar.specs.Byte.{is_space, is_digit, is_letter, is_name_byte, is_line_byte}
use Rattle.oil_grammar.specs.Token.{same, task_token, isr_token, resource_token, priority_token, autostart_token, true_token, false_token, spelled_sort, sign_of}
use Rattle.oil_grammar.specs.Automaton.{unexpected, unknown, only, object_fault, body_fault, attribute_fault, value_fault, fault, fault_at}
use Rattle.oil_grammar.proofs.Ascii.{ascii}

picked_from : (ℕ → Bool) → ℕ → ℕ → List ℕ
picked_from p zero b = []
picked_from p (suc n) b = cond (p b) (b ∷ picked_from p n (suc b)) (picked_from p n (suc b))

pub picked : (ℕ → Bool) → List ℕ
picked p = picked_from p 256 0

pub record Classes : Type 0 where
  -- C's spaces: HT, LF, VT, FF, CR and the space
  pub spaces : picked is_space ≡ 9 ∷ 10 ∷ 11 ∷ 12 ∷ 13 ∷ 32 ∷ []
  pub digits : picked is_digit ≡ ascii "0123456789"
  pub letters : picked is_letter ≡ ascii "ABCDEFGHIJKLMNOPQRSTUVWXYZ_abcdefghijklmnopqrstuvwxyz"
  pub name_bytes : picked is_name_byte ≡ ascii "0123456789ABCDEFGHIJKLMNOPQRSTUVWXYZ_abcdefghijklmnopqrstuvwxyz"
  pub signs : picked (λ b. not (eqb (sign_of b) 0)) ≡ ascii ";={}"
  pub sign_sorts : map sign_of (ascii "{}=;") ≡ 8 ∷ 9 ∷ 10 ∷ 11 ∷ []
  -- a comment that ends with its line goes up to its LF
  pub line_ends : picked (λ b. not (is_line_byte b)) ≡ 10 ∷ []

pub classes : Classes
unfolding ascii is_space is_digit is_letter is_name_byte is_line_byte sign_of picked_from picked
classes =
    record {
      spaces = refl;
      digits = refl;
      letters = refl;
      name_bytes = refl;
      signs = refl;
      sign_sorts = refl;
      line_ends = refl;
    }

-- OIL's seven tokens, byte by byte, are sorts 1 to 7; whatever else letters and digits spell is a name, sort 12
pub record Spellings : Type 0 where
  pub tokens : task_token ∷ isr_token ∷ resource_token ∷ priority_token ∷ autostart_token ∷ true_token ∷ false_token ∷ []
      ≡ ascii "TASK" ∷ ascii "ISR" ∷ ascii "RESOURCE" ∷ ascii "PRIORITY" ∷ ascii "AUTOSTART" ∷ ascii "TRUE"
      ∷ ascii "FALSE" ∷ []
  pub sorts : map spelled_sort
      (ascii "TASK" ∷ ascii "ISR" ∷ ascii "RESOURCE" ∷ ascii "PRIORITY" ∷ ascii "AUTOSTART" ∷ ascii "TRUE"
      ∷ ascii "FALSE" ∷ [])
      ≡ 1 ∷ 2 ∷ 3 ∷ 4 ∷ 5 ∷ 6 ∷ 7 ∷ []
  pub names : map spelled_sort
      (ascii "task" ∷ ascii "Task" ∷ ascii "TAS" ∷ ascii "TASKS" ∷ ascii "TASK1" ∷ ascii "_TASK" ∷ ascii "isr"
      ∷ ascii "resource" ∷ ascii "priority" ∷ ascii "autostart" ∷ ascii "true" ∷ ascii "false" ∷ ascii "x" ∷ [])
      ≡ 12 ∷ 12 ∷ 12 ∷ 12 ∷ 12 ∷ 12 ∷ 12 ∷ 12 ∷ 12 ∷ 12 ∷ 12 ∷ 12 ∷ 12 ∷ []

pub spellings : Spellings
unfolding ascii same spelled_sort
spellings = record { tokens = refl; sorts = refl; names = refl }

-- in an object of a kind (1 TASK, 2 ISR, 3 RESOURCE), with what was given before
abbrev here : Want → ℕ → Bool → Bool → Progress
here v kind p a = record { want = v; kind = kind; priority = p; autostart = a }

pub wanted : Progress → List ℕ
wanted s =
    map (fault s) (1 ∷ 2 ∷ 3 ∷ 4 ∷ 5 ∷ 6 ∷ 7 ∷ 8 ∷ 9 ∷ 10 ∷ 11 ∷ 12 ∷ 13 ∷ 14 ∷ 15 ∷ [])

-- The refusals of every sort of token where the automaton wants something: TASK, ISR, RESOURCE, PRIORITY, AUTOSTART, TRUE,
-- FALSE, the signs { } = ; a name, a number, the text's end, and what is unreadable
pub record Wants : Type 0 where
  pub object : wanted (here Object 1 true true)
      ≡ 0 ∷ 0 ∷ 0 ∷ 62 ∷ 62 ∷ 62 ∷ 62 ∷ 61 ∷ 61 ∷ 61 ∷ 61 ∷ 62 ∷ 61 ∷ 0 ∷ 60 ∷ []
  pub name : wanted (here Name 1 false false)
      ≡ 61 ∷ 61 ∷ 61 ∷ 61 ∷ 61 ∷ 61 ∷ 61 ∷ 61 ∷ 61 ∷ 61 ∷ 61 ∷ 0 ∷ 61 ∷ 61 ∷ 60 ∷ []
  pub brace : wanted (here Open 1 false false)
      ≡ 61 ∷ 61 ∷ 61 ∷ 61 ∷ 61 ∷ 61 ∷ 61 ∷ 0 ∷ 61 ∷ 61 ∷ 61 ∷ 61 ∷ 61 ∷ 61 ∷ 60 ∷ []
  -- a TASK: the brace closes it after PRIORITY alone, and PRIORITY and AUTOSTART stand once
  pub of_task : wanted (here Attribute 1 false false)
      ≡ 62 ∷ 62 ∷ 0 ∷ 0 ∷ 0 ∷ 62 ∷ 62 ∷ 61 ∷ 61 ∷ 61 ∷ 61 ∷ 62 ∷ 61 ∷ 61 ∷ 60 ∷ []
  pub of_task_given : wanted (here Attribute 1 true true)
      ≡ 62 ∷ 62 ∷ 0 ∷ 63 ∷ 63 ∷ 62 ∷ 62 ∷ 61 ∷ 0 ∷ 61 ∷ 61 ∷ 62 ∷ 61 ∷ 61 ∷ 60 ∷ []
  -- an ISR has no AUTOSTART
  pub of_isr : wanted (here Attribute 2 false false)
      ≡ 62 ∷ 62 ∷ 0 ∷ 0 ∷ 62 ∷ 62 ∷ 62 ∷ 61 ∷ 61 ∷ 61 ∷ 61 ∷ 62 ∷ 61 ∷ 61 ∷ 60 ∷ []
  pub of_isr_given : wanted (here Attribute 2 true false)
      ≡ 62 ∷ 62 ∷ 0 ∷ 63 ∷ 62 ∷ 62 ∷ 62 ∷ 61 ∷ 0 ∷ 61 ∷ 61 ∷ 62 ∷ 61 ∷ 61 ∷ 60 ∷ []
  -- a RESOURCE has no attributes
  pub of_resource : wanted (here Attribute 3 false false)
      ≡ 62 ∷ 62 ∷ 62 ∷ 62 ∷ 62 ∷ 62 ∷ 62 ∷ 61 ∷ 0 ∷ 61 ∷ 61 ∷ 62 ∷ 61 ∷ 61 ∷ 60 ∷ []
  -- = after each attribute's token
  pub equals : map (λ v. wanted (here v 1 true true)) (PriorityEquals ∷ AutostartEquals ∷ UseEquals ∷ [])
      ≡ (61 ∷ 61 ∷ 61 ∷ 61 ∷ 61 ∷ 61 ∷ 61 ∷ 61 ∷ 61 ∷ 0 ∷ 61 ∷ 61 ∷ 61 ∷ 61 ∷ 60 ∷ [])
      ∷ (61 ∷ 61 ∷ 61 ∷ 61 ∷ 61 ∷ 61 ∷ 61 ∷ 61 ∷ 61 ∷ 0 ∷ 61 ∷ 61 ∷ 61 ∷ 61 ∷ 60 ∷ [])
      ∷ (61 ∷ 61 ∷ 61 ∷ 61 ∷ 61 ∷ 61 ∷ 61 ∷ 61 ∷ 61 ∷ 0 ∷ 61 ∷ 61 ∷ 61 ∷ 61 ∷ 60 ∷ []) ∷ []
  pub number : wanted (here PriorityNumber 1 true true)
      ≡ 61 ∷ 61 ∷ 61 ∷ 61 ∷ 61 ∷ 61 ∷ 61 ∷ 61 ∷ 61 ∷ 61 ∷ 61 ∷ 61 ∷ 0 ∷ 61 ∷ 60 ∷ []
  pub truth : wanted (here AutostartValue 1 true true)
      ≡ 61 ∷ 61 ∷ 61 ∷ 61 ∷ 61 ∷ 0 ∷ 0 ∷ 61 ∷ 61 ∷ 61 ∷ 61 ∷ 61 ∷ 61 ∷ 61 ∷ 60 ∷ []
  pub resource : wanted (here Use 1 true true)
      ≡ 61 ∷ 61 ∷ 61 ∷ 61 ∷ 61 ∷ 61 ∷ 61 ∷ 61 ∷ 61 ∷ 61 ∷ 61 ∷ 0 ∷ 61 ∷ 61 ∷ 60 ∷ []
  -- ; after an attribute and after an object
  pub semicolon : map (λ v. wanted (here v 1 true true)) (AttributeEnd ∷ ObjectEnd ∷ [])
      ≡ (61 ∷ 61 ∷ 61 ∷ 61 ∷ 61 ∷ 61 ∷ 61 ∷ 61 ∷ 61 ∷ 61 ∷ 0 ∷ 61 ∷ 61 ∷ 61 ∷ 60 ∷ [])
      ∷ (61 ∷ 61 ∷ 61 ∷ 61 ∷ 61 ∷ 61 ∷ 61 ∷ 61 ∷ 61 ∷ 61 ∷ 0 ∷ 61 ∷ 61 ∷ 61 ∷ 60 ∷ []) ∷ []

pub wants : Wants
unfolding wanted unexpected unknown only object_fault body_fault attribute_fault value_fault fault_at
wants =
    record {
      object = refl;
      name = refl;
      brace = refl;
      of_task = refl;
      of_task_given = refl;
      of_isr = refl;
      of_isr_given = refl;
      of_resource = refl;
      equals = refl;
      number = refl;
      truth = refl;
      resource = refl;
      semicolon = refl;
    }
