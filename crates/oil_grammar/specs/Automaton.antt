-- What a token may be, and how far it takes the text.
--
--   fault s w  the refusal of a token of the sort w where the text has come as far as s, 0 where it is in order
--   after s w  how far the text has come after it
use Rattle.std.specs.Prelude.{ℕ, Bool, true, false, cond, ◌&&◌, ◌||◌, leb, eqb}
use Rattle.number.specs.Refusal.{none}
use Rattle.oil_grammar.specs.Records.{Progress}
use Rattle.oil_grammar.specs.declared.Want.{Want}
use Rattle.oil_grammar.specs.declared.Want.TheVariants.{Object, Name, Open, Attribute, PriorityEquals, PriorityNumber, AutostartEquals, AutostartValue, UseEquals, Use, AttributeEnd, ObjectEnd}
use Rattle.oil_grammar.specs.Refusal.{unreadable_sign, unexpected_token, unknown_there, given_twice}
use Rattle.oil_grammar.specs.Token.{task_sort, resource_sort, priority_sort, autostart_sort, true_sort, false_sort, open_sort, close_sort, equals_sort, semicolon_sort, name_sort, number_sort, end_sort, unreadable_sort}
use Rattle.oil_grammar.specs.Object.{is_resource}

-- a token of letters: one of OIL's, or a name
abbrev pub of_letters : ℕ → Bool
of_letters w = leb w false_sort || eqb w name_sort

-- "60 unreadable sign", "61 unexpected word"
unfoldable pub unexpected : ℕ → ℕ
unexpected w = cond (eqb w unreadable_sort) unreadable_sign unexpected_token

-- "62 object or attribute unknown there"; a sign or a number is no object or attribute
unfoldable pub unknown : ℕ → ℕ
unknown w = cond (of_letters w) unknown_there (unexpected w)

-- one sort of token is wanted
unfoldable pub only : ℕ → ℕ → ℕ
only wanted w = cond (eqb w wanted) none (unexpected w)

-- "PRIORITY or AUTOSTART given twice"
abbrev pub once : Bool → ℕ
once given = cond given given_twice none

-- TASK, ISR and RESOURCE are the first sorts; the text may end before an object
unfoldable pub object_fault : ℕ → ℕ
object_fault w = cond (leb w resource_sort) none (cond (eqb w end_sort) none (unknown w))

-- "61 .. at the closing brace where PRIORITY is missing"; a RESOURCE has no attributes
unfoldable pub body_fault : Progress → ℕ → ℕ
body_fault s w =
    cond (eqb w close_sort) (cond s.priority none unexpected_token)
    (cond (eqb w priority_sort) (once s.priority)
    (cond (eqb w resource_sort) none
    (cond (eqb w autostart_sort && eqb s.kind task_sort) (once s.autostart) (unknown w))))

-- an attribute, or the closing brace
unfoldable pub attribute_fault : Progress → ℕ → ℕ
attribute_fault s w = cond (is_resource s.kind) (cond (eqb w close_sort) none (unknown w)) (body_fault s w)

-- TRUE or FALSE
unfoldable pub value_fault : ℕ → ℕ
value_fault w = cond (eqb w true_sort) none (only false_sort w)

-- by what the text wants
unfoldable pub fault_at : Want → Progress → ℕ → ℕ
fault_at Object s w = object_fault w
fault_at Name s w = only name_sort w
fault_at Open s w = only open_sort w
fault_at Attribute s w = attribute_fault s w
fault_at PriorityEquals s w = only equals_sort w
fault_at PriorityNumber s w = only number_sort w
fault_at AutostartEquals s w = only equals_sort w
fault_at AutostartValue s w = value_fault w
fault_at UseEquals s w = only equals_sort w
fault_at Use s w = only name_sort w
fault_at AttributeEnd s w = only semicolon_sort w
fault_at ObjectEnd s w = only semicolon_sort w

abbrev pub fault : Progress → ℕ → ℕ
fault s w = fault_at s.want s w

-- the same object, at another want
abbrev pub to : Progress → Want → Progress
to s v = record { want = v; kind = s.kind; priority = s.priority; autostart = s.autostart }

-- a new object
abbrev pub opened : ℕ → Progress
opened w = record { want = Name; kind = w; priority = false; autostart = false }

-- PRIORITY and AUTOSTART are given from here on
unfoldable pub attribute_begun : Progress → ℕ → Progress
attribute_begun s w =
    cond (eqb w close_sort) (to s ObjectEnd)
    (cond (eqb w priority_sort) (record {
      want = PriorityEquals;
      kind = s.kind;
      priority = true;
      autostart = s.autostart;
    })
    (cond (eqb w resource_sort) (to s UseEquals) (record {
      want = AutostartEquals;
      kind = s.kind;
      priority = s.priority;
      autostart = true;
    })))

-- by what the text wanted
unfoldable pub after_at : Want → Progress → ℕ → Progress
after_at Object s w = opened w
after_at Name s w = to s Open
after_at Open s w = to s Attribute
after_at Attribute s w = attribute_begun s w
after_at PriorityEquals s w = to s PriorityNumber
after_at PriorityNumber s w = to s AttributeEnd
after_at AutostartEquals s w = to s AutostartValue
after_at AutostartValue s w = to s AttributeEnd
after_at UseEquals s w = to s Use
after_at Use s w = to s AttributeEnd
after_at AttributeEnd s w = to s Attribute
after_at ObjectEnd s w = to s Object

abbrev pub after : Progress → ℕ → Progress
after s w = after_at s.want s w

-- before the first token
abbrev pub fresh : Progress
fresh = record { want = Object; kind = 0; priority = false; autostart = false }

-- the name of an object is wanted; of a RESOURCE; the name of a RESOURCE attribute
unfoldable pub names_at : Want → Bool
names_at Object = false
names_at Name = true
names_at Open = false
names_at Attribute = false
names_at PriorityEquals = false
names_at PriorityNumber = false
names_at AutostartEquals = false
names_at AutostartValue = false
names_at UseEquals = false
names_at Use = false
names_at AttributeEnd = false
names_at ObjectEnd = false

-- the name of an object is wanted
abbrev pub names_object : Progress → Bool
names_object s = names_at s.want

-- the name of a RESOURCE object is wanted
abbrev pub names_resource : Progress → Bool
names_resource s = names_at s.want && is_resource s.kind

-- the name in a RESOURCE attribute is wanted
unfoldable pub uses_at : Want → Bool
uses_at Object = false
uses_at Name = false
uses_at Open = false
uses_at Attribute = false
uses_at PriorityEquals = false
uses_at PriorityNumber = false
uses_at AutostartEquals = false
uses_at AutostartValue = false
uses_at UseEquals = false
uses_at Use = true
uses_at AttributeEnd = false
uses_at ObjectEnd = false

-- the same of how far the text has come
abbrev pub uses_resource : Progress → Bool
uses_resource s = uses_at s.want
