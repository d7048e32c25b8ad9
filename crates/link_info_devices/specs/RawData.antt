-- Data of kinds of links and of ports whose attributes aren't typed: each value is a raw attribute.
use Rattle.std.specs.Prelude.{ℕ}
use Rattle.netlink_packet_core.specs.Attributes.{Attribute}
use Rattle.link_info_devices.specs.declared.raw_data.RawData.{RawData}
use Rattle.link_info_devices.specs.declared.raw_data.RawData.TheVariants as Raw

-- The number of the kind of link or port.
abbrev pub raw_number : {n : ℕ} → RawData n → ℕ
raw_number {n} v = n

-- The attribute of a value.
abbrev pub raw_entry : {n : ℕ} → RawData n → Attribute
raw_entry (Raw.Other a) = a
