-- Lists of attributes (netlink.h, struct nlattr): each is a length, a kind, the payload, and zeros up to a multiple of
-- 4.
use Rattle.std.specs.Prelude.{◌≡◌, ℕ, zero, suc, ◌+◌, ◌-◌, ◌*◌, ◌/◌, ◌%◌, ◌&&◌, nat_le, List, [], ◌∷◌, ◌++◌, length}
use Rattle.std.specs.Prelude.{take, drop, replicate, Option, Some, None, option_map, cond}
use Rattle.std.specs.Option.{option_and_then}

-- The least multiple of 4 that is at least n.
abbrev pub nla_align : ℕ → ℕ
nla_align n = (n + 3) / 4 * 4

-- An attribute: its kind with both flag bits, and its payload.
pub record Attribute : Type 0 where
  pub kind : ℕ
  pub payload : List ℕ

-- The kind without its two flag bits.
abbrev pub proper_kind : ℕ → ℕ
proper_kind k = k % 0x4000

-- The length in an attribute's header: that of the header and the payload, without padding.
abbrev pub attribute_length : Attribute → ℕ
attribute_length e = 4 + length e.payload

-- n zero bytes.
abbrev pub zeros : ℕ → List ℕ
zeros n = replicate n 0

-- The header of an attribute: the length and the kind, each as 2 bytes, little-endian. The second byte of a number from
-- 65536 on is no byte: such an attribute doesn't fit.
abbrev pub attribute_header : ℕ → ℕ → List ℕ
attribute_header size kind = size % 256 ∷ size / 256 ∷ kind % 256 ∷ kind / 256 ∷ []

-- The encoding of an attribute: header, payload, and zeros up to a multiple of 4.
unfoldable pub attribute_text : Attribute → List ℕ
attribute_text e =
    attribute_header (attribute_length e) e.kind ++
    (e.payload ++ zeros (nla_align (attribute_length e) - attribute_length e))

-- The encoding of a list: those of its attributes, one after another.
unfoldable pub list_text : List Attribute → List ℕ
list_text [] = []
list_text (e ∷ es) = attribute_text e ++ list_text es

-- The length of a list's encoding.
abbrev pub list_size : List Attribute → ℕ
list_size [] = 0
list_size (e ∷ es) = nla_align (attribute_length e) + list_size es

-- The attribute of this size and kind whose payload is at the start of the bytes, and the bytes after its padding, which
-- may be missing at the end, and isn't looked at. The size counts the 4 bytes of the header, which the bytes don't have. None
-- if it is under 4 or over 4 + the number of bytes.
abbrev pub attribute_of_size : ℕ → ℕ → List ℕ → Option (Attribute × List ℕ)
attribute_of_size size kind bytes =
    cond (nat_le 4 size && nat_le size (4 + length bytes))
    (Some (record { kind = kind; payload = take (size - 4) bytes }, drop (nla_align size - 4) bytes))
    None

-- The attribute at the start of the bytes, and the bytes after its padding; None if they begin with no whole attribute.
unfoldable pub first_attribute : List ℕ → Option (Attribute × List ℕ)
first_attribute (a ∷ b ∷ c ∷ d ∷ bytes) = attribute_of_size (a + 256 * b) (c + 256 * d) bytes
first_attribute _ = None

-- The bytes are a list of exactly these attributes.
abbrev pub IsAttributeList : List ℕ → List Attribute → Type 0
IsAttributeList bytes [] = bytes ≡ []
IsAttributeList bytes (e ∷ es) = (rest : List ℕ) × (first_attribute bytes ≡ Some (e, rest)) × IsAttributeList rest es

-- The attributes of which the bytes are a list; None if they aren't a list of at most n attributes.
unfoldable pub attributes_within : ℕ → List ℕ → Option (List Attribute)
attributes_within n [] = Some []
attributes_within zero (b ∷ bytes) = None
attributes_within (suc n) (b ∷ bytes) =
    option_and_then (λ x. option_map (λ es. x.0 ∷ es) (attributes_within n x.1)) (first_attribute (b ∷ bytes))

-- The attributes of which the bytes are a list; None if they are no list.
abbrev pub attributes_of : List ℕ → Option (List Attribute)
attributes_of bytes = attributes_within (length bytes) bytes
