-- The first attribute of a list under its rows: everything that is checked before reading the list first allocates.
use Rattle.std.specs.Prelude.{ℕ, zero, suc, ◌&&◌, ◌||◌, Bool, true, false, cond, List, length, Option, Some, None}
use Rattle.std.specs.Prelude.{is_some}
use Rattle.std.specs.Option.{option_and_then}
use Rattle.netlink_packet_core_grammar.specs.Attributes.{Attribute, first_attribute, proper_kind}
use Rattle.netlink_packet_core_grammar.specs.AttributeViews.{viewed_kind, viewed_payload}
use Rattle.attribute_tables_grammar.specs.Lists.{Row, is_of_kind_one}
use Rattle.attribute_tables_grammar.specs.LookUps.{Line, line_at, payload_rule, payload_allocates}
use Rattle.attribute_tables_grammar.specs.Peers.{bytes_peer}
use Rattle.attribute_tables_grammar.specs.Tables.{Payload, Payload.list, Table}
use Rattle.netlink_packet_core.specs.Families.{family_row}
use Rattle.attribute_tables.specs.Views.{is_accepted_by}

-- The bytes begin with a whole attribute.
abbrev pub begins_with_attribute : List ℕ → Bool
begins_with_attribute b = is_some (first_attribute b)

-- The bytes begin with an attribute that its row accepts.
unfoldable pub begins_accepted : (ℕ → Row) → List ℕ → Bool
begins_accepted rows b = begins_with_attribute b && is_accepted_by rows b

-- The bytes begin with an attribute that its row accepts, or of which reading may run out of memory.
unfoldable pub begins_readable : (ℕ → Row) → (List ℕ → Bool) → List ℕ → Bool
begins_readable rows may b = begins_with_attribute b && (is_accepted_by rows b || may b)

-- Reading a payload may run out of memory: bytes and text if they are accepted, a list if its first attribute is.
abbrev pub payload_may_allocate : Option Payload → List ℕ → Bool
payload_may_allocate None p = true
payload_may_allocate (Some (list form t)) p = begins_accepted (family_row t) p
payload_may_allocate (Some s) p = payload_allocates s && (payload_rule bytes_peer s).accepted p

-- Reading the payload of an entry may run out of memory; the payload of a kind without one is kept as bytes.
abbrev pub line_may_allocate : Option Line → List ℕ → Bool
line_may_allocate None p = true
line_may_allocate (Some l) p = payload_may_allocate (Some l.payload) p

-- Reading the first attribute by its row in the table may run out of memory.
abbrev pub table_may_allocate : Table → List ℕ → Bool
table_may_allocate t b = line_may_allocate (line_at t (proper_kind (viewed_kind b))) (viewed_payload b)

-- ---- lists of which the attributes of kind 1 are kept

-- The first attribute of kind 1, found in at most n steps; whole attributes of other kinds may precede it.
unfoldable pub first_entry_within : ℕ → List ℕ → Option Attribute
first_entry_within zero b = None
first_entry_within (suc n) b =
    option_and_then (λ x. cond (is_of_kind_one x.0) (Some x.0) (first_entry_within n x.1)) (first_attribute b)

-- The first attribute of kind 1; whole attributes of other kinds may precede it.
abbrev pub first_entry : List ℕ → Option Attribute
first_entry b = first_entry_within (length b) b

-- The row accepts the attribute, or reading its payload may run out of memory.
abbrev pub is_readable_entry : Row → (List ℕ → Bool) → Option Attribute → Bool
is_readable_entry r may None = false
is_readable_entry r may (Some e) = r.rule.accepted e.payload || may e.payload

-- The row accepts the first attribute of kind 1, or reading its payload may run out of memory.
unfoldable pub entries_begin_readable : Row → (List ℕ → Bool) → List ℕ → Bool
entries_begin_readable r may b = is_readable_entry r may (first_entry b)
