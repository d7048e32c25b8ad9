-- The attribute at the start of a byte string, by offsets: length u16, kind u16, payload (netlink.h, struct nlattr).
use Rattle.std.specs.Prelude.{ℕ, ◌-◌, ◌≤◌, List, length, take, drop}
use Rattle.netlink_packet_core_grammar.specs.Attributes.{nla_align, Attribute}
use Rattle.netlink_packet_core_grammar.specs.Numbers.{u16_at}

-- The length in the header, which counts the 4 bytes of the header itself.
abbrev pub viewed_length : List ℕ → ℕ
viewed_length b = u16_at 0 b

-- The kind with its flag bits.
abbrev pub viewed_kind : List ℕ → ℕ
viewed_kind b = u16_at 2 b

-- The payload: the bytes after the header, up to the length.
abbrev pub viewed_payload : List ℕ → List ℕ
viewed_payload b = take (viewed_length b - 4) (drop 4 b)

-- The attribute that the header describes.
abbrev pub viewed_attribute : List ℕ → Attribute
viewed_attribute b = record { kind = viewed_kind b; payload = viewed_payload b }

-- The byte string begins with a whole attribute.
pub record BeginsWithAttribute (b : List ℕ) : Type 0 where
  pub has_header : 4 ≤ length b
  pub covers_header : 4 ≤ viewed_length b
  pub within : viewed_length b ≤ length b

-- The bytes after the first attribute and its padding.
abbrev pub after_first : List ℕ → List ℕ
after_first b = drop (nla_align (viewed_length b)) b
