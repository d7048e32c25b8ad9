-- The laws of these definitions, as the functions of `laws` state them.
use Rattle.std.specs.Prelude.{◌≡◌, ℕ, ◌-◌, ◌%◌, ◌≤◌, ◌↔◌, List, ◌++◌, length, Some, None, option_map}
use Rattle.netlink_packet_core_grammar.specs.Attributes.{Attribute, nla_align, attribute_length, attribute_text}
use Rattle.netlink_packet_core_grammar.specs.Attributes.{first_attribute, list_text, list_size, IsAttributeList}
use Rattle.netlink_packet_core_grammar.specs.Attributes.{attributes_of}
use Rattle.netlink_packet_core_grammar.specs.Numbers.{u16_at, u32_at}
use Rattle.netlink_packet_core_grammar.specs.AttributeViews.{viewed_attribute, BeginsWithAttribute, after_first}

-- A byte string is a list of attributes in at most one way.
abbrev pub SplittingIsUnique : Type 0
SplittingIsUnique = (bytes : List ℕ) (es fs : List Attribute) → IsAttributeList bytes es → IsAttributeList bytes fs → es ≡ fs

-- The function `attributes_of` computes the relation `IsAttributeList`.
abbrev pub SplittingIsTheRelation : Type 0
SplittingIsTheRelation = (bytes : List ℕ) (es : List Attribute) → (attributes_of bytes ≡ Some es) ↔ IsAttributeList bytes es

-- The bytes after a list whose size is a multiple of 4 are split into attributes independently of it.
abbrev pub JoinedListsAreSplit : Type 0
JoinedListsAreSplit = (a b : List ℕ) (es : List Attribute) → length a % 4 ≡ 0 → attributes_of a ≡ Some es →
    attributes_of (a ++ b) ≡ option_map (λ fs. es ++ fs) (attributes_of b)

-- The encoding of attributes is split into the same attributes, and its length is their size.
abbrev pub EncodingsAreSplit : Type 0
EncodingsAreSplit = (es : List Attribute) → (attributes_of (list_text es) ≡ Some es) × (length (list_text es) ≡ list_size es)

-- The first attribute of a byte string is the one that a view of it shows; bytes that don't begin with a whole
-- attribute have none.
pub record FirstIsViewed : Type 0 where
  pub whole : (bytes : List ℕ) → BeginsWithAttribute bytes →
      first_attribute bytes ≡ Some (viewed_attribute bytes, after_first bytes)
  pub none : (bytes : List ℕ) → (BeginsWithAttribute bytes → ⊥) → first_attribute bytes ≡ None

-- The first attribute ends within the bytes; after it there are as many bytes as remain after its padding.
pub record FirstIsWithin : Type 0 where
  pub within : (bytes : List ℕ) (e : Attribute) (rest : List ℕ) → first_attribute bytes ≡ Some (e, rest) →
      attribute_length e ≤ length bytes
  pub rest_length : (bytes : List ℕ) (e : Attribute) (rest : List ℕ) → first_attribute bytes ≡ Some (e, rest) →
      length rest ≡ length bytes - nla_align (attribute_length e)

-- If an attribute's encoding is followed by other bytes, the attribute is the first one, and these bytes are the rest.
abbrev pub WrittenIsFirst : Type 0
WrittenIsFirst = (e : Attribute) (rest : List ℕ) → first_attribute (attribute_text e ++ rest) ≡ Some (e, rest)

-- A number at the start of a byte string doesn't depend on the bytes that follow it.
pub record NumbersAreIndependent : Type 0 where
  pub two_bytes : (c d : List ℕ) → 2 ≤ length c → u16_at 0 (c ++ d) ≡ u16_at 0 c
  pub four_bytes : (c d : List ℕ) → 4 ≤ length c → u32_at 0 (c ++ d) ≡ u32_at 0 c
