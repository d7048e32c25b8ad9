-- The data of veth and of vxcan: the kind and the payload of each value.
use Rattle.std.specs.Prelude.{ℕ}
use Rattle.netlink_packet_core.specs.Attributes.{Attribute, proper_kind}
use Rattle.netlink_packet_core.specs.Families.{attribute}
use Rattle.attribute_tables_grammar.specs.LookUps.{HasNoRow}
use Rattle.link_info_grammar.specs.Families.{pair}
use Rattle.link_info_devices.specs.declared.veth.PairData.{PairData}
use Rattle.link_info_devices.specs.declared.veth.PairData.TheVariants as Pair

-- The number of the kind of link: 0 for veth, 1 for vxcan.
abbrev pub pair_number : {n : ℕ} → PairData n → ℕ
pair_number {n} v = n

-- The attribute of a value.
abbrev pub pair_entry : {n : ℕ} → PairData n → Attribute
pair_entry (Pair.Peer b) = attribute 1 b.items
pair_entry (Pair.Other a) = a

-- The value is the variant of its row: an attribute whose kind has a row is no `Other`.
abbrev pub pair_is_row_variant : {n : ℕ} → PairData n → Type 0
pair_is_row_variant (Pair.Other a) = HasNoRow pair (proper_kind a.kind)
pair_is_row_variant _ = Unit {0}
