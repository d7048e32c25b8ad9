-- The laws of walks and of written attributes, as the functions of `laws` state them.
use Rattle.std.specs.Prelude.{true, ◌≡◌, ◌↔◌, ◌<◌, ◌≤◌, ◌+◌, ◌*◌, ℕ, List, [], ◌∷◌, ◌++◌, length, map, Option, Some}
use Rattle.std.specs.Prelude.{None}
use Rattle.netlink_packet_core_grammar.specs.Attributes.{Attribute, proper_kind, attribute_text, list_text}
use Rattle.netlink_packet_core_grammar.specs.Attributes.{attributes_of}
use Rattle.attribute_tables_grammar.specs.Lists.{Row, canonical_form}
use Rattle.netlink_packet_core_grammar.specs.AttributeViews.{viewed_attribute, BeginsWithAttribute, after_first}
use Rattle.netlink_packet_core_attributes.specs.Walks.{IsWalk, attribute_walk}

-- The function `attribute_walk` computes the relation `IsWalk`.
abbrev pub WalkIsTheRelation : Type 0
WalkIsTheRelation = (bytes : List ℕ) (items : List (Option Attribute)) →
    (attribute_walk bytes ≡ items) ↔ IsWalk bytes items

-- The walk over a list has no fault, and yields the list's attributes.
abbrev pub ListsAreWalked : Type 0
ListsAreWalked = (bytes : List ℕ) (es : List Attribute) →
    (attributes_of bytes ≡ Some es) ↔ (attribute_walk bytes ≡ map (λ e. Some e) es)

-- The walk over bytes that are no list ends with one fault.
abbrev pub OthersEndInAFault : Type 0
OthersEndInAFault = (bytes : List ℕ) → attributes_of bytes ≡ None →
    (es : List Attribute) × (attribute_walk bytes ≡ map (λ e. Some e) es ++ None ∷ [])

-- The walk over a written list yields its attributes, and continues with the bytes after it.
abbrev pub TextsAreWalked : Type 0
TextsAreWalked = (es : List Attribute) (bytes : List ℕ) →
    attribute_walk (list_text es ++ bytes) ≡ map (λ e. Some e) es ++ attribute_walk bytes

-- A written attribute is read back with its kind and payload.
abbrev pub TextsAreReadBack : Type 0
TextsAreReadBack = (e : Attribute) (bytes : List ℕ) →
    BeginsWithAttribute (attribute_text e ++ bytes) × (viewed_attribute (attribute_text e ++ bytes) ≡ e)

-- A walk yields at most one item for every 4 bytes begun.
abbrev pub WalksAreShort : Type 0
WalksAreShort = (bytes : List ℕ) → 4 * length (attribute_walk bytes) ≤ length bytes + 3

-- The first step of a walk: without bytes it ends; if the bytes begin with a whole attribute, it yields a view of it
-- and continues after it; otherwise it yields a fault and ends.
pub record WalksUnfold : Type 0 where
  pub empty : (bytes : List ℕ) → length bytes ≡ 0 → attribute_walk bytes ≡ []
  pub attribute : (bytes : List ℕ) → BeginsWithAttribute bytes →
      attribute_walk bytes ≡ Some (viewed_attribute bytes) ∷ attribute_walk (after_first bytes)
  pub fault : (bytes : List ℕ) → 0 < length bytes → (BeginsWithAttribute bytes → ⊥) → attribute_walk bytes ≡ None ∷ []

-- A typed row writes an attribute in the same way whatever flag bits its kind has.
abbrev pub TypedRowsWriteTheKind : Type 0
TypedRowsWriteTheKind = (r : Row) (e : Attribute) → r.is_typed ≡ true →
    canonical_form r (record { kind = proper_kind e.kind; payload = e.payload }) ≡ canonical_form r e
