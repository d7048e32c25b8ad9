-- The grammar's values for the steps of comparing two lists.
use Rattle.std.specs.Prelude.{ℕ, ◌==◌, ◌<◌, cond, List, [], length, Option, Some, None}
use Rattle.netlink_packet_core_grammar.specs.Attributes.{Attribute}
use Rattle.attribute_tables_grammar.specs.Lists.{ListForm}
use Rattle.attribute_tables_grammar.specs.Sameness.{continues}
use Rattle.link_interpreter.specs.declared.attribute.Attribute as declared
use Rattle.link_interpreter.specs.declared.same.Next.{Next}
use Rattle.link_interpreter.specs.declared.same.Next.TheVariants.{Kept, End, Cut}

-- 1 if b is this byte, else 0.
abbrev pub mark_of : ℕ → ℕ → ℕ
mark_of byte b = cond (b == byte) 1 0

-- The grammar's attribute for an attribute in code.
abbrev pub attribute_of : declared.Attribute → Attribute
attribute_of e = record { kind = e.kind; payload = e.payload.now }

-- The attributes that a list keeps, from its next one.
abbrev pub next_of : ListForm → Next → Option (List Attribute)
next_of form (Kept e after) = continues form (attribute_of e) after.now
next_of form End = Some []
next_of form Cut = None

-- The next attribute's payload, and the bytes after the attribute, are shorter than the bytes.
abbrev pub IsShorter : List ℕ → Next → Type 0
IsShorter bytes (Kept e after) = (length e.payload.now < length bytes) × (length after.now < length bytes)
IsShorter bytes End = Unit {0}
IsShorter bytes Cut = Unit {0}
