-- What the code goes over and answers, in the definitions' numbers.
--
--   number_of w, sort_number w  the number of a token's sort; 0 where there is no token
--   as_token w, as_progress s   a token, and how far a text has come
--   refusal_of a                the number of a refusal, 0 where there is none
--   refusal_at a, place_of a p  the same of a refusal with its place; its place, or p where there is none
--   as_found a                  what a walk over a text finds: how many tokens there are, or a refusal with its place
--   as_uses n a                 the same of a walk over n tokens that are in order
--   as_oil_read a               a configuration, or a refusal with its line and column
use Rattle.std.specs.Prelude.{ℕ, Option, Some, None, Result, Ok, Err, ⊤}
use Rattle.number.specs.declared.Refusal.{Refusal}
use Rattle.number.specs.declared.Refused.{Refused}
use Rattle.number.specs.Refusal.{none}
use Rattle.number.specs.Answer.{code}
use Rattle.config.specs.declared.Config.{Config}
use Rattle.config.specs.Value.{no_config}
use Rattle.oil_grammar.specs.Records as R
use Rattle.oil_grammar.specs.Token.{task_sort, isr_sort, resource_sort, priority_sort, autostart_sort, true_sort, false_sort, open_sort, close_sort, equals_sort, semicolon_sort, name_sort, number_sort, end_sort, unreadable_sort}
use Rattle.oil_grammar.specs.Walk.{found, refused_at}
use Rattle.oil.specs.declared.token.Sort.{Sort}
use Rattle.oil.specs.declared.token.Sort.TheVariants.{Task, Isr, Resource, Priority, Autostart, True, False, Open, Close, Equals, Semicolon, Name, Number, End, Unreadable}
use Rattle.oil.specs.declared.token.Token.{Token}
use Rattle.oil.specs.declared.automaton.Progress.{Progress}
use Rattle.oil.specs.declared.OilRefused.{OilRefused}

abbrev pub number_of : Sort → ℕ
number_of Task = task_sort
number_of Isr = isr_sort
number_of Resource = resource_sort
number_of Priority = priority_sort
number_of Autostart = autostart_sort
number_of True = true_sort
number_of False = false_sort
number_of Open = open_sort
number_of Close = close_sort
number_of Equals = equals_sort
number_of Semicolon = semicolon_sort
number_of Name = name_sort
number_of Number = number_sort
number_of End = end_sort
number_of Unreadable = unreadable_sort

abbrev pub sort_number : Option Sort → ℕ
sort_number None = 0
sort_number (Some w) = number_of w

abbrev pub as_token : Token → R.Token
as_token w = record { sort = number_of w.sort; start = w.start; end = w.end }

abbrev pub as_progress : Progress → R.Progress
as_progress s =
    record { want = s.want; kind = sort_number s.kind; priority = s.priority; autostart = s.autostart }

abbrev pub refusal_of : {T : Type 0} → Result T Refusal → ℕ
refusal_of (Ok x) = none
refusal_of (Err r) = code r

abbrev pub refusal_at : {T : Type 0} → Result T Refused → ℕ
refusal_at (Ok x) = none
refusal_at (Err e) = code e.refusal

abbrev pub place_of : {T : Type 0} → Result T Refused → ℕ → ℕ
place_of (Ok x) otherwise = otherwise
place_of (Err e) otherwise = e.place

abbrev pub as_found : Result ℕ Refused → R.Found
as_found (Ok n) = found n
as_found (Err e) = refused_at (code e.refusal) e.place

abbrev pub as_uses : ℕ → Result ⊤ Refused → R.Found
as_uses n (Ok x) = found n
as_uses n (Err e) = refused_at (code e.refusal) e.place

abbrev pub as_oil_read : Result Config OilRefused → R.OilRead
as_oil_read (Ok c) = record { config = c; refusal = none; line = 0; column = 0 }
as_oil_read (Err e) = record { config = no_config; refusal = code e.refusal; line = e.line; column = e.column }
