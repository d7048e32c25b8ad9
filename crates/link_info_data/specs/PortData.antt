-- The data of a kind of port: the rule of each port kind, and the payload of each value.
use Rattle.std.specs.Prelude.{ℕ, Bool, true, ⊤, List, Option, None}
use Rattle.std.specs.List.{All}
use Rattle.netlink_packet_core.specs.Attributes.{Attribute}
use Rattle.netlink_packet_core.specs.Lists.{text_by, all_fit_by}
use Rattle.attribute_tables_grammar.specs.LookUps.{payload_at, rule_or_raw}
use Rattle.attribute_tables_grammar.specs.Peers.{RuleOfPeers, bytes_peer}
use Rattle.attribute_tables_grammar.specs.Rules.{Rule}
use Rattle.attribute_tables_grammar.specs.Tables.{Payload}
use Rattle.link_info_grammar.specs.Families.{port_kinds}
use Rattle.link_info_devices.specs.Vrf.{vrf_entry, vrf_is_row_variant}
use Rattle.link_info_devices.specs.RawData.{raw_entry}
use Rattle.link_info_kinds.specs.PortKinds.{info_port_kind_text}
use Rattle.link_info_kinds.specs.declared.info_port_kind.InfoPortKind.{InfoPortKind}
use Rattle.link_info_kinds.specs.declared.info_port_kind.InfoPortKind.TheVariants as PortKind
use Rattle.link_info_data.specs.declared.info_port.InfoPortData.{InfoPortData}
use Rattle.link_info_data.specs.declared.info_port.InfoPortData.TheVariants as PortData

-- The payload of the data of a port kind, if it has a table. The variant decides, not the name: `Other` has none.
abbrev pub port_data_payload_of : InfoPortKind → Option Payload
port_data_payload_of (PortKind.Other s) = None
port_data_payload_of k = payload_at port_kinds (info_port_kind_text k)

-- The rule of the data of a port kind; data of a port kind without a table are kept as bytes.
abbrev pub port_data_rule_of_under : RuleOfPeers → InfoPortKind → Rule
port_data_rule_of_under p k = rule_or_raw p (port_data_payload_of k)

-- The rule of the data of a port kind, with peers as bytes.
abbrev pub port_data_rule_of : InfoPortKind → Rule
port_data_rule_of = port_data_rule_of_under bytes_peer

-- The payload of a value.
abbrev pub info_port_data_payload : InfoPortData → List ℕ
info_port_data_payload (PortData.BondPort vs) = text_by raw_entry vs.items
info_port_data_payload (PortData.BridgePort vs) = text_by raw_entry vs.items
info_port_data_payload (PortData.VrfPort vs) = text_by vrf_entry vs.items
info_port_data_payload (PortData.TeamPort vs) = text_by raw_entry vs.items
info_port_data_payload (PortData.Other b) = b.items

-- Each length inside a value fits the 2 bytes of its header.
abbrev pub info_port_data_fits : InfoPortData → Bool
info_port_data_fits (PortData.BondPort vs) = all_fit_by raw_entry (λ _. true) vs.items
info_port_data_fits (PortData.BridgePort vs) = all_fit_by raw_entry (λ _. true) vs.items
info_port_data_fits (PortData.VrfPort vs) = all_fit_by vrf_entry (λ _. true) vs.items
info_port_data_fits (PortData.TeamPort vs) = all_fit_by raw_entry (λ _. true) vs.items
info_port_data_fits (PortData.Other b) = true

-- The attribute of a value: IFLA_INFO_SLAVE_DATA with its payload.
abbrev pub info_port_data_entry : InfoPortData → Attribute
info_port_data_entry d = record { kind = 5; payload = info_port_data_payload d }

-- The value is the variant of the port kind, and so is each value inside, of its row.
abbrev pub info_port_data_is_row_variant : InfoPortKind → InfoPortData → Type 0
info_port_data_is_row_variant PortKind.Bond (PortData.BondPort vs) = ⊤
info_port_data_is_row_variant PortKind.Bridge (PortData.BridgePort vs) = ⊤
info_port_data_is_row_variant PortKind.Vrf (PortData.VrfPort vs) = All vrf_is_row_variant vs.items
info_port_data_is_row_variant PortKind.Team (PortData.TeamPort vs) = ⊤
info_port_data_is_row_variant (PortKind.Other s) (PortData.Other b) = ⊤
info_port_data_is_row_variant _ _ = ⊥
