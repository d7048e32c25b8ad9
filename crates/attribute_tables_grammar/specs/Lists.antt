-- The rule of a list of attributes, made from the rules of its rows.
use Rattle.std.specs.Prelude.{◌≡◌, ℕ, ◌+◌, ◌==◌, ◌&&◌, ◌||◌, nat_le, Bool, true, false, cond, List, [], ◌∷◌, length}
use Rattle.std.specs.Prelude.{filter, Option, Some, None, option_map}
use Rattle.std.specs.Option.{option_and_then, option_map_or}
use Rattle.netlink_packet_core_grammar.specs.Attributes.{Attribute, proper_kind, list_text, first_attribute}
use Rattle.netlink_packet_core_grammar.specs.Attributes.{attributes_of}
use Rattle.attribute_tables_grammar.specs.Rules.{Rule, Lawful, raw_rule}

-- The names of the link kind in force and of the port kind in force before an attribute of link info, on which later
-- data depend.
pub record Context : Type 0 where
  pub kind : Option (List ℕ)
  pub port_kind : Option (List ℕ)

-- The context at the start of a list: no kind is in force, and no port kind.
abbrev pub no_kind_in_force : Context
no_kind_in_force = record { kind = None; port_kind = None }

-- A row of a table. A typed attribute is written with the kind proper, and the nested bit if the row has it; a raw one
-- keeps its kind with the flag bits.
pub record Row : Type 0 where
  pub is_typed : Bool
  pub is_nested : Bool
  pub rule : Rule

-- The row of a raw attribute.
abbrev pub raw_row : Row
raw_row = record { is_typed = false; is_nested = false; rule = raw_rule }

-- The rows of a list, by context and kind proper, and the context after each attribute.
pub record Grammar : Type 0 where
  pub row : Context → ℕ → Row
  pub next : Context → Attribute → Context

-- Rows that don't depend on the context.
abbrev pub without_context : (ℕ → Row) → Grammar
without_context f = record { row = λ c k. f k; next = λ c e. c }

-- The row of an attribute, from rows without context.
abbrev pub row_at : (ℕ → Row) → Attribute → Row
row_at f e = f (proper_kind e.kind)

-- The row of an attribute in a context.
abbrev pub row_of : Grammar → Context → Attribute → Row
row_of g c e = g.row c (proper_kind e.kind)

-- The canonical kind under a row: for a typed one the kind proper, with the nested bit if the row has it; for a raw one
-- all 16 bits.
abbrev pub canonical_kind : Row → ℕ → ℕ
canonical_kind r k = cond r.is_typed (proper_kind k + cond r.is_nested 0x8000 0) k

-- The kinds proper are equal; if one of the two attributes is raw, all 16 bits are.
abbrev pub same_kind : Row → Row → ℕ → ℕ → Bool
same_kind r s k l = cond (r.is_typed && s.is_typed) (proper_kind k == proper_kind l) (k == l)

-- Two attributes are equivalent: their kinds are the same, and their payloads are equivalent under both rows.
abbrev pub same_attribute : Row → Row → Attribute → Attribute → Bool
same_attribute r s e f = same_kind r s e.kind f.kind &&
    (r.rule.same e.payload f.payload && s.rule.same e.payload f.payload)

-- ---- attributes in order, each in its context

-- Each attribute's row accepts its payload.
unfoldable pub all_accepted : Grammar → Context → List Attribute → Bool
all_accepted g c [] = true
all_accepted g c (e ∷ es) = (row_of g c e).rule.accepted e.payload && all_accepted g (g.next c e) es

-- An empty list of ports is inside one of the attributes.
unfoldable pub some_empty_ports : Grammar → Context → List Attribute → Bool
some_empty_ports g c [] = false
some_empty_ports g c (e ∷ es) = (row_of g c e).rule.empty_ports e.payload || some_empty_ports g (g.next c e) es

-- The canonical form of an attribute: its written kind and its canonical payload.
abbrev pub canonical_form : Row → Attribute → Attribute
canonical_form r e = record { kind = canonical_kind r e.kind; payload = r.rule.canonical e.payload }

-- The canonical forms of the attributes of a list.
unfoldable pub canonical_forms : Grammar → Context → List Attribute → List Attribute
canonical_forms g c [] = []
canonical_forms g c (e ∷ es) = canonical_form (row_of g c e) e ∷ canonical_forms g (g.next c e) es

-- Each canonical attribute's length fits 16 bits, and so do those inside it.
unfoldable pub all_fit : Grammar → Context → List Attribute → Bool
all_fit g c [] = true
all_fit g c (e ∷ es) =
    nat_le (4 + length ((row_of g c e).rule.canonical e.payload)) 65535 && (row_of g c e).rule.fits e.payload &&
    all_fit g (g.next c e) es

-- The number of attributes inside those of a list, at all depths.
unfoldable pub attributes_inside : Grammar → Context → List Attribute → ℕ
attributes_inside g c [] = 0
attributes_inside g c (e ∷ es) = (row_of g c e).rule.attributes e.payload + attributes_inside g (g.next c e) es

-- The attributes of two lists are pairwise equivalent, each list in its own context.
unfoldable pub all_same : Grammar → Context → Context → List Attribute → List Attribute → Bool
all_same g c d [] [] = true
all_same g c d [] (f ∷ fs) = false
all_same g c d (e ∷ es) [] = false
all_same g c d (e ∷ es) (f ∷ fs) = same_attribute (row_of g c e) (row_of g d f) e f &&
    all_same g (g.next c e) (g.next d f) es fs

-- ---- lists as bytes

-- The list kind: how bytes hold a list, and which of its attributes are kept.
pub data ListForm : Type 0 where
  any : ListForm  -- any attributes
  non_empty : ListForm  -- at least one attribute
  of_kind_one : ListForm  -- any attributes, of which those of kind 1 are kept
  ports : ListForm  -- at least one attribute; those of kind 1 are kept, and if there is none, nothing is written
  first_only : ListForm  -- one attribute, followed by any bytes

-- The list, unless it is empty.
abbrev pub unless_empty : List Attribute → Option (List Attribute)
unless_empty [] = None
unless_empty (e ∷ es) = Some (e ∷ es)

-- The attributes of a list of this kind; None if the bytes aren't such a list.
abbrev pub read_as : ListForm → List ℕ → Option (List Attribute)
read_as any b = attributes_of b
read_as non_empty b = option_and_then unless_empty (attributes_of b)
read_as of_kind_one b = attributes_of b
read_as ports b = option_and_then unless_empty (attributes_of b)
read_as first_only b = option_map (λ x. x.0 ∷ []) (first_attribute b)

-- The kind proper is 1.
abbrev pub is_of_kind_one : Attribute → Bool
is_of_kind_one e = proper_kind e.kind == 1

-- Lists of this kind keep the attribute.
abbrev pub is_kept : ListForm → Attribute → Bool
is_kept of_kind_one e = is_of_kind_one e
is_kept ports e = is_of_kind_one e
is_kept _ e = true

-- The attributes that a list of this kind keeps.
abbrev pub kept : ListForm → List Attribute → List Attribute
kept of_kind_one es = filter is_of_kind_one es
kept ports es = filter is_of_kind_one es
kept _ es = es

-- A list of ports that keeps no entry: nothing is written for it.
abbrev pub is_empty_ports : ListForm → List Attribute → Bool
is_empty_ports ports [] = true
is_empty_ports _ _ = false

-- The rule of a list of this kind. `option_map_or f o d` is f of the attributes that were read, or d if the bytes are no
-- list.
abbrev pub list_rule : ListForm → Grammar → Rule
list_rule form g = record {
  accepted = λ b. option_map_or (λ es. all_accepted g no_kind_in_force (kept form es)) (read_as form b) false;
  same = λ a b. option_map_or
      (λ es. option_map_or (λ fs. all_same g no_kind_in_force no_kind_in_force (kept form es) (kept form fs)) (read_as form b) false)
      (read_as form a) false;
  canonical = λ b. option_map_or (λ es. list_text (canonical_forms g no_kind_in_force (kept form es))) (read_as form b) [];
  attributes = λ b. option_map_or (λ es. length es + attributes_inside g no_kind_in_force (kept form es)) (read_as form b) 0;
  fits = λ b. option_map_or (λ es. all_fit g no_kind_in_force (kept form es)) (read_as form b) true;
  empty_ports =
      λ b. option_map_or (λ es. is_empty_ports form (kept form es) ||
      some_empty_ports g no_kind_in_force (kept form es)) (read_as form b) false;
}

-- Every row is lawful, and the context after an attribute depends only on its kind proper and its canonical payload.
pub record LawfulGrammar (g : Grammar) : Type 0 where
  pub rows : (c : Context) (k : ℕ) → Lawful (g.row c k).rule
  pub steps : (c : Context) (e f : Attribute) → proper_kind e.kind ≡ proper_kind f.kind →
      (row_of g c e).rule.canonical e.payload ≡ (row_of g c e).rule.canonical f.payload → g.next c e ≡ g.next c f

-- The context after a list.
unfoldable pub context_after : Grammar → Context → List Attribute → Context
context_after g c [] = c
context_after g c (e ∷ es) = context_after g (g.next c e) es
