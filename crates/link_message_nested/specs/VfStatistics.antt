-- Statistics of virtual functions: the kind and the payload of each value.
use Rattle.netlink_packet_core.specs.Attributes.{Attribute, proper_kind}
use Rattle.netlink_packet_core.specs.Families.{attribute}
use Rattle.netlink_packet_core.specs.Numbers.{le8}
use Rattle.attribute_tables_grammar.specs.LookUps.{HasNoRow}
use Rattle.link_message_grammar.specs.NestedTables.{vf_stats}
use Rattle.link_message_nested.specs.declared.vf_stats.VfStats.{VfStats}
use Rattle.link_message_nested.specs.declared.vf_stats.VfStats.TheVariants.{RxPackets, TxPackets, RxBytes, TxBytes}
use Rattle.link_message_nested.specs.declared.vf_stats.VfStats.TheVariants.{Broadcast, Multicast, RxDropped, TxDropped}
use Rattle.link_message_nested.specs.declared.vf_stats.VfStats.TheVariants.{Other}

-- The kind and the payload of a value.
abbrev pub vf_stats_entry : VfStats → Attribute
vf_stats_entry (RxPackets n) = attribute 0 (le8 n)
vf_stats_entry (TxPackets n) = attribute 1 (le8 n)
vf_stats_entry (RxBytes n) = attribute 2 (le8 n)
vf_stats_entry (TxBytes n) = attribute 3 (le8 n)
vf_stats_entry (Broadcast n) = attribute 4 (le8 n)
vf_stats_entry (Multicast n) = attribute 5 (le8 n)
vf_stats_entry (RxDropped n) = attribute 7 (le8 n)
vf_stats_entry (TxDropped n) = attribute 8 (le8 n)
vf_stats_entry (Other a) = a

-- The value is the variant that its row names: a kind with a row isn't kept as `Other`.
abbrev pub vf_stats_names_row : VfStats → Type 0
vf_stats_names_row (Other a) = HasNoRow vf_stats (proper_kind a.kind)
vf_stats_names_row _ = Unit {0}
