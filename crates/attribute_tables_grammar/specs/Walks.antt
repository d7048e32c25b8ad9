-- The measure of a list, found in one walk: whether it is accepted, and then the size of its canonical encoding, its
-- attributes, whether it fits, and whether a list of ports in it is empty.
use Rattle.std.specs.Prelude.{◌≡◌, ℕ, ◌+◌, ◌*◌, ◌==◌, ◌<◌, ◌≤◌, ◌&&◌, ◌||◌, nat_le, Bool, true, false, cond, List, []}
use Rattle.std.specs.Prelude.{◌∷◌, length, Option, Some, None, option_map}
use Rattle.std.specs.Option.{option_and_then}
use Rattle.netlink_packet_core_grammar.specs.Attributes.{nla_align, Attribute, attributes_of}
use Rattle.attribute_tables_grammar.specs.Rules.{Rule}
use Rattle.attribute_tables_grammar.specs.Lists.{Context, no_kind_in_force, Grammar, row_of, ListForm, any, non_empty}
use Rattle.attribute_tables_grammar.specs.Lists.{of_kind_one, ports, first_only, read_as, kept, is_kept, is_empty_ports}

-- The measure of an accepted payload.
pub record Measure : Type 0 where
  pub size : ℕ
  -- The number of attributes, at all depths.
  pub attributes : ℕ
  pub fits : Bool
  pub empty_ports : Bool

-- The measure of a payload under a rule; None if it is rejected.
abbrev pub measure : Rule → List ℕ → Option Measure
measure r p =
    cond (r.accepted p) (Some (record {
      size = length (r.canonical p);
      attributes = r.attributes p;
      fits =
          r.fits p;
      empty_ports = r.empty_ports p;
    })) None

-- The measure of two attributes or lists, one after the other.
abbrev pub plus : Measure → Measure → Measure
plus m n = record {
  size = m.size + n.size;
  attributes = m.attributes + n.attributes;
  fits = m.fits &&
      n.fits;
  empty_ports = m.empty_ports || n.empty_ports;
}

-- The measure of the empty list.
abbrev pub none_yet : Measure
none_yet = record { size = 0; attributes = 0; fits = true; empty_ports = false }

-- The measure of an attribute that its list drops.
abbrev pub dropped : Measure
dropped = record { size = 0; attributes = 1; fits = true; empty_ports = false }

-- The measure of an attribute, from that of its payload.
abbrev pub with_header : Measure → Measure
with_header m =
    record {
      size = nla_align (4 + m.size);
      attributes = 1 + m.attributes;
      fits = nat_le (4 + m.size) 65535 &&
          m.fits;
      empty_ports = m.empty_ports;
    }

-- The sum of two measures, if there are both.
abbrev pub both : Option Measure → Option Measure → Option Measure
both None n = None
both (Some m) None = None
both (Some m) (Some n) = Some (plus m n)

-- The measure of a list's attributes; None if one is rejected.
unfoldable pub list_measure : ListForm → Grammar → Context → List Attribute → Option Measure
list_measure form g c [] = Some none_yet
list_measure form g c (e ∷ es) =
    cond (is_kept form e)
    (both (option_map with_header (measure (row_of g c e).rule e.payload)) (list_measure form g (g.next c e) es))
    (both (Some dropped) (list_measure form g c es))

-- The measure of the rest of a list, in the context at its start.
unfoldable pub measure_of_rest : ListForm → Grammar → Context → List ℕ → Option Measure
measure_of_rest form g c bytes = option_and_then (list_measure form g c) (attributes_of bytes)

-- The measure, with an empty list of ports noted if b is true.
abbrev pub or_empty : Bool → Measure → Measure
or_empty b m = record { size = m.size; attributes = m.attributes; fits = m.fits; empty_ports = b || m.empty_ports }

-- The measure of whole bytes, by their list kind.
unfoldable pub measure_as : ListForm → Grammar → List ℕ → Option Measure
measure_as form g bytes =
    option_and_then (λ es. option_map (or_empty (is_empty_ports form (kept form es))) (list_measure form g no_kind_in_force es))
    (read_as form bytes)

-- ---- the state of a loop

-- The measure of the whole list is that of the attributes so far plus that of the rest in its context.
pub record MeasuredSoFar (form : ListForm) (g : Grammar) (bytes : List ℕ) (m : Measure) (c : Context) (rest : List ℕ) :
    Type 0 where
  pub whole : measure_of_rest form g no_kind_in_force bytes ≡ both (Some m) (measure_of_rest form g c rest)

-- The measure of a whole list, from that of its attributes: a list of ports keeps no entry if and only if nothing is
-- written for it.
abbrev pub whole_measure : ListForm → Measure → Measure
whole_measure ports m = or_empty (m.size == 0) m
whole_measure _ m = m

-- The list kind is one whose attributes are walked, and the bytes aren't empty if it requires an attribute.
abbrev pub IsWalked : ListForm → List ℕ → Type 0
IsWalked any bytes = Unit {0}
IsWalked non_empty bytes = 0 < length bytes
IsWalked of_kind_one bytes = Unit {0}
IsWalked ports bytes = 0 < length bytes
IsWalked first_only bytes = ⊥

-- The list kind is one whose attributes are walked, and rejects the empty list.
abbrev pub RequiresAttribute : ListForm → Type 0
RequiresAttribute non_empty = Unit {0}
RequiresAttribute ports = Unit {0}
RequiresAttribute _ = ⊥

-- Let `bytes` be an attribute, whose payload has the measure m, and then `rest`. Its canonical form is at most 77 times as
-- long, it has at least 4 bytes for itself and each attribute in it, and the rest is shorter than the bytes.
pub record IsSmall (bytes rest : List ℕ) (m : Measure) : Type 0 where
  pub within : nla_align (4 + m.size) + 77 * length rest ≤ 77 * length bytes
  pub few : 4 * (1 + m.attributes) + length rest ≤ length bytes
  pub shorter : length rest < length bytes

-- The measure of a payload that the rule accepts.
pub record IsMeasure (r : Rule) (p : List ℕ) (m : Measure) : Type 0 where
  pub accepted : r.accepted p ≡ true
  pub size : m.size ≡ length (r.canonical p)
  pub attributes : m.attributes ≡ r.attributes p
  pub fits : m.fits ≡ r.fits p
  pub empty_ports : m.empty_ports ≡ r.empty_ports p
