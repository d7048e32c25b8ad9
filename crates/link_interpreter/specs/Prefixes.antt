-- The canonical prefix of a payload: the leading bytes that are already canonical.
use Rattle.std.specs.Prelude.{◌≡◌, ℕ, ◌+◌, ◌-◌, ◌*◌, ◌≤◌, true, false, List, ◌++◌, length, take, drop, Some}
use Rattle.netlink_packet_core_grammar.specs.Attributes.{Attribute, attribute_length, attribute_text, first_attribute}
use Rattle.attribute_tables_grammar.specs.AlreadyCanonical.{CanonicalSoFar}
use Rattle.attribute_tables_grammar.specs.Lists.{Row, ListForm, any, is_kept, list_rule, no_kind_in_force, row_at, without_context}
use Rattle.attribute_tables_grammar.specs.Lists.{canonical_kind}
use Rattle.attribute_tables_grammar.specs.Rules.{Rule}
use Rattle.attribute_tables_grammar.specs.Walks.{Measure, MeasuredSoFar, measure}

-- The rest is accepted and fits, and the canonical encoding of the whole is `prefix` followed by that of the rest.
pub record RestIsIndependent (r : Rule) (bytes prefix rest : List ℕ) : Type 0 where
  pub accepted : r.accepted rest ≡ true
  pub fits : r.fits rest ≡ true
  pub text : r.canonical bytes ≡ prefix ++ r.canonical rest

-- If the payload is accepted and fits, its first n bytes are a prefix of its canonical encoding, and the rest is
-- encoded independently.
pub record IsCanonicalPrefix (r : Rule) (bytes : List ℕ) (n : ℕ) : Type 0 where
  pub within : n ≤ length bytes
  pub continues : r.accepted bytes ≡ true → r.fits bytes ≡ true →
      RestIsIndependent r bytes (take n bytes) (drop n bytes)

-- The measure of this many attributes that take `size` bytes, hold no others and are already canonical.
abbrev pub canonical_measure : ℕ → ℕ → Measure
canonical_measure size count = record { size = size; attributes = count; fits = true; empty_ports = false }

-- The attribute at the start of a list is kept, holds no others and is already canonical; the bytes `after` follow it.
pub record IsCanonicalValue (form : ListForm) (row : ℕ → Row) (bytes after : List ℕ) : Type 0 where
  pub attribute : Attribute
  pub first : first_attribute bytes ≡ Some (attribute, after)
  pub kept : is_kept form attribute ≡ true
  pub kind : canonical_kind (row_at row attribute) attribute.kind ≡ attribute.kind
  pub payload : (row_at row attribute).rule.canonical attribute.payload ≡ attribute.payload
  pub measured : Some (canonical_measure (length attribute.payload) 0) ≡
      measure (row_at row attribute).rule attribute.payload
  pub text : bytes ≡ attribute_text attribute ++ after
  pub short : attribute_length attribute ≤ 65535

-- The first `count` attributes of a list are kept, hold no others and are already canonical; `rest` follows them.
pub record PassesCanonical (form : ListForm) (row : ℕ → Row) (bytes : List ℕ) (count : ℕ) (rest : List ℕ) : Type 0 where
  pub within : length rest ≤ length bytes
  pub offset : drop (length bytes - length rest) bytes ≡ rest
  pub few : 4 * count + length rest ≤ length bytes
  pub so_far : MeasuredSoFar form (without_context row) bytes (canonical_measure (length bytes - length rest) count)
      no_kind_in_force rest
  pub already_canonical : CanonicalSoFar form (without_context row) bytes no_kind_in_force rest
  pub prefix : IsCanonicalPrefix (list_rule any (without_context row)) bytes (length bytes - length rest)
