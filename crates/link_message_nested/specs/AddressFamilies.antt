-- The attributes of all address families: the kind and the payload of each value.
use Rattle.std.specs.Prelude.{Bool, true}
use Rattle.std.specs.List.{All}
use Rattle.netlink_packet_core.specs.Attributes.{Attribute, proper_kind}
use Rattle.netlink_packet_core.specs.Families.{attribute}
use Rattle.netlink_packet_core.specs.Lists.{text_by, all_fit_by}
use Rattle.attribute_tables_grammar.specs.LookUps.{HasNoRow}
use Rattle.link_message_grammar.specs.NestedTables.{specific}
use Rattle.link_message_nested.specs.Mctp.{af_spec_mctp_entry, af_spec_mctp_names_row}
use Rattle.link_message_nested.specs.InetSettings.{af_spec_inet_entry, af_spec_inet_names_row}
use Rattle.link_message_nested.specs.Inet6Settings.{af_spec_inet_6_entry, af_spec_inet_6_names_row}
use Rattle.link_message_nested.specs.declared.unspec.AfSpecUnspec.{AfSpecUnspec}

-- The kind and the payload of an address family's attributes.
abbrev pub af_spec_unspec_entry : AfSpecUnspec → Attribute
af_spec_unspec_entry (AfSpecUnspec.Inet vs) = attribute 2 (text_by af_spec_inet_entry vs.items)
af_spec_unspec_entry (AfSpecUnspec.Inet6 vs) = attribute 10 (text_by af_spec_inet_6_entry vs.items)
af_spec_unspec_entry (AfSpecUnspec.Mctp vs) = attribute 45 (text_by af_spec_mctp_entry vs.items)
af_spec_unspec_entry (AfSpecUnspec.Other a) = a

-- Each length inside a value fits the 2 bytes of its header.
abbrev pub af_spec_unspec_fits : AfSpecUnspec → Bool
af_spec_unspec_fits (AfSpecUnspec.Inet vs) = all_fit_by af_spec_inet_entry (λ _. true) vs.items
af_spec_unspec_fits (AfSpecUnspec.Inet6 vs) = all_fit_by af_spec_inet_6_entry (λ _. true) vs.items
af_spec_unspec_fits (AfSpecUnspec.Mctp vs) = all_fit_by af_spec_mctp_entry (λ _. true) vs.items
af_spec_unspec_fits (AfSpecUnspec.Other a) = true

-- The value is the variant that its row names, and so is each value inside: a kind with a row isn't kept as `Other`.
abbrev pub af_spec_unspec_names_row : AfSpecUnspec → Type 0
af_spec_unspec_names_row (AfSpecUnspec.Inet vs) = All af_spec_inet_names_row vs.items
af_spec_unspec_names_row (AfSpecUnspec.Inet6 vs) = All af_spec_inet_6_names_row vs.items
af_spec_unspec_names_row (AfSpecUnspec.Mctp vs) = All af_spec_mctp_names_row vs.items
af_spec_unspec_names_row (AfSpecUnspec.Other a) = HasNoRow specific (proper_kind a.kind)
