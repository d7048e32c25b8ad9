-- Attributes as C has them.
use Rattle.std.specs.Prelude.{◌≡◌, ℕ, ◌+◌, ◌-◌, List, [], ◌++◌, length, drop, take, replicate, Option, None, Some}
use Rattle.netlink_packet_core_grammar.specs.Attributes.{proper_kind}
use Rattle.link_capture_attributes.specs.Attributes.{Found, first_from, frame_attributes}
use Rattle.linkcap_c.specs.Messages.{IsMessage}
use Rattle.linkcap_c.specs.declared.attributes.LinkcapAttribute.{LinkcapAttribute}

-- The first 63 bytes of a name, and zeros up to 64 bytes.
abbrev pub padded : List ℕ → List ℕ
padded n = n ++ replicate (64 - length n) 0

-- A name as C has it.
abbrev pub name_of : Option (List ℕ) → List ℕ
name_of None = padded []
name_of (Some n) = padded (take 63 n)

-- An attribute as C has it.
abbrev pub attribute_of : Found → LinkcapAttribute
attribute_of f =
    record {
      offset = f.offset;
      payload = f.offset + 4;
      length = length f.attribute.payload;
      attribute_type = proper_kind f.attribute.kind;
      flags = f.attribute.kind - proper_kind f.attribute.kind;
      depth = f.depth;
      name = name_of f.name;
      link_kind = name_of f.link_kind;
    }

-- An attribute is the first at a position or after it, of the message at the offset `message` of c; and c has its payload
-- where it says.
pub record IsNextAttribute (c : List ℕ) (message position : ℕ) (a : LinkcapAttribute) : Type 0 where
  pub found : Found
  pub first : first_from position (frame_attributes message (drop message c)) ≡ Some found
  pub is : a ≡ attribute_of found
  pub payload : take a.length (drop a.payload c) ≡ found.attribute.payload

-- The message at the offset `message` of c is legal, and has no attribute at a position or after it.
pub record HasNoneFrom (limit : ℕ) (c : List ℕ) (message position : ℕ) : Type 0 where
  pub size : ℕ
  pub kind : ℕ
  pub legal : IsMessage limit (drop message c) size kind
  pub none : first_from position (frame_attributes message (drop message c)) ≡ None
