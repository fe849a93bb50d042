-- Worked examples: texts and what they are read as, worked out by hand, with the numbers written out. The checker
-- computes each.
--
--   told t   the refusal of a text, its line and its column
--   bytes t  the bytes of the configuration that it describes
use Prim.Native.Nat.{ℕ}
use mathlib.Core.Path.{◌≡◌, refl}
use mathlib.Core.List.{List, [], ◌∷◌, ◌++◌}
use lib.ListN.{replicate}
use Rattle.number.specs.Number.{number_bytes, group_bytes}
use Rattle.config.specs.Among.{among}
use Rattle.config.specs.Draft.{timed_in, fault_at as number_fault_at, put_at as number_put_at, asked_at, ended as numbers_ended}
use Rattle.config.specs.Writer.{fault_from, bytes_at, bytes_from, config_bytes}
use Rattle.word.specs.Word.{has, with}
use Rattle.oil_grammar.specs.Byte.{is_space, is_digit, is_letter, is_name_byte, is_line_byte, span}
use Rattle.oil_grammar.specs.Token.{same, spelled_sort, sign_of, decimal}
use Rattle.oil_grammar.specs.Meaning.{ended}
use Rattle.oil_grammar.specs.Next.{closing, comment, blank, blanks, token_at, next_token}
use Rattle.oil_grammar.specs.Automaton.{unexpected, unknown, only, object_fault, body_fault, attribute_fault, value_fault, fault_at, attribute_begun, after_at, names_at, uses_at}
use Rattle.oil_grammar.specs.Walk.{bears, borne, name_fault, fault_in, walk, unborne_at, unborne, numbered_at, marked, mask, put_at, fill}
use Rattle.oil_grammar.specs.Reader.{line_after, column_after, read_oil}
use Rattle.oil_grammar.proofs.Ascii.{ascii}

unfoldable pub told : List ℕ → List ℕ
unfolding ascii is_space is_digit is_letter is_name_byte is_line_byte span same spelled_sort sign_of decimal ended closing
    comment blank blanks token_at next_token unexpected unknown only object_fault body_fault attribute_fault value_fault fault_at
    attribute_begun after_at names_at uses_at bears borne name_fault fault_in walk unborne_at unborne numbered_at marked mask
    put_at fill line_after column_after read_oil has with among timed_in number_fault_at number_put_at asked_at numbers_ended
    fault_from
told t = let r = read_oil t in r.refusal ∷ r.line ∷ r.column ∷ []

unfoldable pub bytes : List ℕ → List ℕ
unfolding told bytes_at bytes_from number_bytes group_bytes
bytes t = config_bytes (read_oil t).config

-- source document 000, Table 4.1: three tasks, an ISR and two resources, each used by Task1 and Task3
abbrev table : List ℕ
table =
    ascii "TASK Task1 { PRIORITY = 1; AUTOSTART = TRUE; RESOURCE = Res1; RESOURCE = Res2; };\n"
    ++ (ascii "TASK Task3 { PRIORITY = 3; RESOURCE = Res1; RESOURCE = Res2; };\n"
    ++ ascii "TASK Task4 { PRIORITY = 4; };\nISR ISR2 { PRIORITY = 2; };\nRESOURCE Res1 { };\nRESOURCE Res2 { };\n")

pub table_accepted : told table ≡ 0 ∷ 0 ∷ 0 ∷ []
unfolding told
table_accepted = refl

-- version 1, four bodies, two resources of the users 0 and 1, no table
pub table_bytes : bytes table ≡ 1 ∷ 4 ∷ 0 ∷ 1 ∷ 1 ∷ 0 ∷ 3 ∷ 0 ∷ 0 ∷ 4 ∷ 0 ∷ 1 ∷ 2 ∷ 0 ∷ 2 ∷ 3 ∷ 3 ∷ 0 ∷ []
unfolding bytes
table_bytes = refl

-- 60: a sign that no token has
pub unreadable_sign_lem : told (ascii "TASK a { PRIORITY = 1; };\n #") ≡ 60 ∷ 2 ∷ 2 ∷ []
unfolding told
unreadable_sign_lem = refl

-- 60: a backslash outside comments
pub backslash : told (ascii "TASK a { \\\n") ≡ 60 ∷ 1 ∷ 10 ∷ []
unfolding told
backslash = refl

-- 60: an unclosed comment, where it opens
pub open_comment : told (ascii "TASK a { PRIORITY = 1; }; /* TASK") ≡ 60 ∷ 1 ∷ 27 ∷ []
unfolding told
open_comment = refl

-- 60: a slash that opens no comment
pub slash : told (ascii "TASK / a") ≡ 60 ∷ 1 ∷ 6 ∷ []
unfolding told
slash = refl

-- 60: the comment ends at its first */
pub comments_do_not_nest : told (ascii "/* /* */ */ TASK a { PRIORITY = 1; };") ≡ 60 ∷ 1 ∷ 10 ∷ []
unfolding told
comments_do_not_nest = refl

-- 61 before a 60 further on
pub earlier_refusal_first : told (ascii "TASK = #") ≡ 61 ∷ 1 ∷ 6 ∷ []
unfolding told
earlier_refusal_first = refl

-- 61: OIL's tokens are no names
pub token_for_a_name : told (ascii "TASK TASK { PRIORITY = 1; };") ≡ 61 ∷ 1 ∷ 6 ∷ []
unfolding told
token_for_a_name = refl

-- 61: nor names of resources
pub token_for_a_resource : told (ascii "TASK a { PRIORITY = 1; RESOURCE = TRUE; };") ≡ 61 ∷ 1 ∷ 35 ∷ []
unfolding told
token_for_a_resource = refl

-- 61: 2abc is the number 2 and the name abc
pub number_and_name : told (ascii "TASK a { PRIORITY = 2abc; };") ≡ 61 ∷ 1 ∷ 22 ∷ []
unfolding told
number_and_name = refl

-- 61: 0x10 is 0 and x10
pub hexadecimal : told (ascii "TASK a { PRIORITY = 0x10; };") ≡ 61 ∷ 1 ∷ 22 ∷ []
unfolding told
hexadecimal = refl

-- 61: a number where a name is wanted
pub name_with_a_digit_first : told (ascii "TASK 1a { PRIORITY = 2; };") ≡ 61 ∷ 1 ∷ 6 ∷ []
unfolding told
name_with_a_digit_first = refl

-- 61 at the closing brace where PRIORITY is missing
pub priority_missing : told (ascii "TASK a { AUTOSTART = TRUE; };") ≡ 61 ∷ 1 ∷ 28 ∷ []
unfolding told
priority_missing = refl

-- 61 just past the last byte where the text breaks off
pub broken_off_lem : told (ascii "TASK a { PRIORITY = 1; }") ≡ 61 ∷ 1 ∷ 25 ∷ []
unfolding told
broken_off_lem = refl

-- 61: after a final LF that is the next line, column 1
pub broken_off_after_a_line : told (ascii "TASK a\n") ≡ 61 ∷ 2 ∷ 1 ∷ []
unfolding told
broken_off_after_a_line = refl

-- 61: spaces and comments at the end count
pub broken_off_in_a_comment : told (ascii "TASK a // x") ≡ 61 ∷ 1 ∷ 12 ∷ []
unfolding told
broken_off_in_a_comment = refl

-- 61: a sign where an object is wanted
pub sign_for_an_object : told (ascii ";") ≡ 61 ∷ 1 ∷ 1 ∷ []
unfolding told
sign_for_an_object = refl

-- 61: a number where an attribute is wanted
pub number_for_an_attribute : told (ascii "TASK a { 1") ≡ 61 ∷ 1 ∷ 10 ∷ []
unfolding told
number_for_an_attribute = refl

-- 62: an object that is not known
pub unknown_object : told (ascii "ALARM a { };") ≡ 62 ∷ 1 ∷ 1 ∷ []
unfolding told
unknown_object = refl

-- 62: a token of attributes where an object is wanted
pub attribute_for_an_object : told (ascii "PRIORITY = 1;") ≡ 62 ∷ 1 ∷ 1 ∷ []
unfolding told
attribute_for_an_object = refl

-- 62: case matters
pub task_in_capitals_alone : told (ascii "Task a { PRIORITY = 1; };") ≡ 62 ∷ 1 ∷ 1 ∷ []
unfolding told
task_in_capitals_alone = refl

-- 62: TASKS is a name
pub longer_than_a_token : told (ascii "TASKS a { };") ≡ 62 ∷ 1 ∷ 1 ∷ []
unfolding told
longer_than_a_token = refl

-- 62: an attribute that is not known
pub unknown_attribute : told (ascii "TASK a { SCHEDULE = FULL; };") ≡ 62 ∷ 1 ∷ 10 ∷ []
unfolding told
unknown_attribute = refl

-- 62: AUTOSTART in an ISR
pub autostart_in_an_isr : told (ascii "ISR i { AUTOSTART = FALSE; };") ≡ 62 ∷ 1 ∷ 9 ∷ []
unfolding told
autostart_in_an_isr = refl

-- 62: a RESOURCE has no attributes
pub attribute_in_a_resource : told (ascii "RESOURCE r { PRIORITY = 1; };") ≡ 62 ∷ 1 ∷ 14 ∷ []
unfolding told
attribute_in_a_resource = refl

-- 63 at an earlier object's name, of whatever kind
pub name_twice : told (ascii "TASK a { PRIORITY = 1; };\r\nRESOURCE a { };") ≡ 63 ∷ 2 ∷ 10 ∷ []
unfolding told
name_twice = refl

-- 63 before a 62 further on
pub name_twice_first : told (ascii "RESOURCE a { }; RESOURCE a { }; ALARM") ≡ 63 ∷ 1 ∷ 26 ∷ []
unfolding told
name_twice_first = refl

-- 63 at the second PRIORITY
pub priority_twice : told (ascii "TASK a { PRIORITY = 1; PRIORITY = 1; };") ≡ 63 ∷ 1 ∷ 24 ∷ []
unfolding told
priority_twice = refl

-- 63 at the second AUTOSTART
pub autostart_twice : told (ascii "TASK a { AUTOSTART = TRUE; AUTOSTART = TRUE; };") ≡ 63 ∷ 1 ∷ 28 ∷ []
unfolding told
autostart_twice = refl

-- 64 at the first use in reading order
pub no_resource_lem : told (ascii "TASK a { PRIORITY = 1; RESOURCE = b; RESOURCE = c; };") ≡ 64 ∷ 1 ∷ 35 ∷ []
unfolding told
no_resource_lem = refl

-- 64: a task bears the name, and no RESOURCE
pub task_is_no_resource : told (ascii "TASK a { PRIORITY = 1; RESOURCE = a; };") ≡ 64 ∷ 1 ∷ 35 ∷ []
unfolding told
task_is_no_resource = refl

-- 62 before 64, which comes after the whole text
pub unknown_before_no_resource : told (ascii "TASK a { PRIORITY = 1; RESOURCE = b; }; X") ≡ 62 ∷ 1 ∷ 41 ∷ []
unfolding told
unknown_before_no_resource = refl

-- 64 before 5
pub no_resource_before_ranges : told (ascii "TASK a { PRIORITY = 0; RESOURCE = b; };") ≡ 64 ∷ 1 ∷ 35 ∷ []
unfolding told
no_resource_before_ranges = refl

-- 4: a text without bodies
pub empty_text : told (ascii "") ≡ 4 ∷ 0 ∷ 0 ∷ []
unfolding told
empty_text = refl

-- 5 at line 0, column 0
pub priority_zero : told (ascii "TASK a { PRIORITY = 0; };") ≡ 5 ∷ 0 ∷ 0 ∷ []
unfolding told
priority_zero = refl

-- 5: a priority of many digits does not wrap
pub priority_above : told (ascii "TASK a { PRIORITY = 18446744073709551617; };") ≡ 5 ∷ 0 ∷ 0 ∷ []
unfolding told
priority_above = refl

-- 6: the second body's priority
pub priority_used : told (ascii "TASK a { PRIORITY = 1; }; ISR b { PRIORITY = 1; };") ≡ 6 ∷ 0 ∷ 0 ∷ []
unfolding told
priority_used = refl

-- 5: a resource without users
pub resource_without_users : told (ascii "TASK a { PRIORITY = 1; }; RESOURCE r { };") ≡ 5 ∷ 0 ∷ 0 ∷ []
unfolding told
resource_without_users = refl

-- a name used before its RESOURCE, and twice: one bit
pub forward_use : bytes (ascii "TASK t { RESOURCE = r; PRIORITY = 00200; RESOURCE = r; }; RESOURCE r { };")
    ≡ 1 ∷ 1 ∷ 0 ∷ 200 ∷ 1 ∷ 0 ∷ 1 ∷ 1 ∷ 0 ∷ []
unfolding bytes
forward_use = refl

-- comments at every place, names that begin with OIL's tokens
pub comments_everywhere : bytes (ascii "/*1*/TASK/*2*/TRUE1/**/{/***/PRIORITY/*\n*/=/*5*/7/*6*/;//7\n}/*8*/;/*9*///")
    ≡ 1 ∷ 1 ∷ 0 ∷ 7 ∷ 0 ∷ 0 ∷ 0 ∷ []
unfolding bytes
comments_everywhere = refl

-- 400 zeros before a number
pub zeros_before : told (ascii "TASK a { PRIORITY = " ++ (replicate 400 48 ++ ascii "7; };")) ≡ 0 ∷ 0 ∷ 0 ∷ []
unfolding told
zeros_before = refl

-- 400 digits: 5
pub many_digits : told (ascii "TASK a { PRIORITY = " ++ (replicate 400 57 ++ ascii "; };")) ≡ 5 ∷ 0 ∷ 0 ∷ []
unfolding told
many_digits = refl

-- a RESOURCE takes no body's number, an ISR may use one, and AUTOSTART = FALSE starts nothing
pub resource_first : bytes
    (ascii "RESOURCE r { }; ISR i { PRIORITY = 9; RESOURCE = r; };"
    ++ ascii "TASK t { PRIORITY = 2; AUTOSTART = FALSE; RESOURCE = r; };")
    ≡ 1 ∷ 2 ∷ 1 ∷ 9 ∷ 0 ∷ 0 ∷ 2 ∷ 0 ∷ 1 ∷ 3 ∷ 0 ∷ []
unfolding bytes
resource_first = refl

-- bodies i, t, u and resources r, s, which u and t use
pub resources_between : bytes
    (ascii "ISR i { PRIORITY = 9; }; RESOURCE r { }; TASK t { AUTOSTART = TRUE; PRIORITY = 2; RESOURCE = s; };"
    ++ ascii "RESOURCE s { }; TASK u { PRIORITY = 3; RESOURCE = r; };")
    ≡ 1 ∷ 3 ∷ 1 ∷ 9 ∷ 0 ∷ 0 ∷ 2 ∷ 1 ∷ 0 ∷ 3 ∷ 0 ∷ 2 ∷ 4 ∷ 2 ∷ 0 ∷ []
unfolding bytes
resources_between = refl

-- HT, VT, FF, CR, LF and the space between tokens
pub every_space : bytes
    (ascii "TASK" ++ 9 ∷ 97 ∷ 11 ∷ 123 ∷ 12 ∷ (ascii "PRIORITY" ++ 13 ∷ 61 ∷ 10 ∷ 50 ∷ 32 ∷ ascii ";};"))
    ≡ 1 ∷ 1 ∷ 0 ∷ 2 ∷ 0 ∷ 0 ∷ 0 ∷ []
unfolding bytes
every_space = refl

-- names of letters, digits and _, which differ in case alone
pub names_accepted : told
    (ascii "TASK _Zz{PRIORITY=1;};TASK zZ_9{PRIORITY=2;};TASK A{PRIORITY=3;};TASK a{PRIORITY=4;};")
    ≡ 0 ∷ 0 ∷ 0 ∷ []
unfolding told
names_accepted = refl

-- names of 40 bytes that differ in the last; and one of them twice
pub long_names : (told
    (ascii "TASK " ++ (replicate 39 120 ++ ascii "a{PRIORITY=1;};TASK " ++ (replicate 39 120 ++ ascii "b{PRIORITY=2;};")))
    ≡ 0 ∷ 0 ∷ 0 ∷ [])
    × (told
    (ascii "TASK " ++ (replicate 39 120 ++ ascii "a{PRIORITY=1;};\nTASK " ++ (replicate 39 120 ++ ascii "a{PRIORITY=2;};")))
    ≡ 63 ∷ 2 ∷ 6 ∷ [])
unfolding told
long_names = (refl, refl)

-- OIL's tokens are in capitals
pub lower_case : (told (ascii "task a { PRIORITY = 1; };") ≡ 62 ∷ 1 ∷ 1 ∷ [])
    × (told (ascii "TASK a { priority = 1; };") ≡ 62 ∷ 1 ∷ 10 ∷ [])
unfolding told
lower_case = (refl, refl)

-- /*/ closes no comment
pub comment_of_three : told (ascii "/*/ TASK a { PRIORITY = 1; };") ≡ 60 ∷ 1 ∷ 1 ∷ []
unfolding told
comment_of_three = refl

-- no name has a -, a ., a $ or a byte above 127
pub no_name_byte : (told (ascii "TASK a-b") ≡ 60 ∷ 1 ∷ 7 ∷ []) × (told (ascii "TASK a.b") ≡ 60 ∷ 1 ∷ 7 ∷ [])
    × (told (ascii "TASK a$b") ≡ 60 ∷ 1 ∷ 7 ∷ []) × (told (ascii "TASK a" ++ 195 ∷ 169 ∷ []) ≡ 60 ∷ 1 ∷ 7 ∷ [])
unfolding told
no_name_byte = (refl, refl, refl, refl)

-- an ISR's name counts for 63
pub isr_name_twice : told (ascii "ISR a { PRIORITY = 1; }; TASK a { PRIORITY = 2; };") ≡ 63 ∷ 1 ∷ 31 ∷ []
unfolding told
isr_name_twice = refl

-- 61: neither TRUE nor FALSE
pub no_truth : told (ascii "TASK a { AUTOSTART = maybe; };") ≡ 61 ∷ 1 ∷ 22 ∷ []
unfolding told
no_truth = refl

-- a character of two bytes counts two columns, HT one
pub columns_are_bytes : (told (47 ∷ 42 ∷ 195 ∷ 169 ∷ 42 ∷ 47 ∷ 32 ∷ 35 ∷ []) ≡ 60 ∷ 1 ∷ 8 ∷ [])
    × (told (9 ∷ 35 ∷ []) ≡ 60 ∷ 1 ∷ 2 ∷ [])
unfolding told
columns_are_bytes = (refl, refl)

-- a // comment goes on after a CR
pub comment_past_a_return : told (ascii "// x\r # y\n#") ≡ 60 ∷ 2 ∷ 1 ∷ []
unfolding told
comment_past_a_return = refl
