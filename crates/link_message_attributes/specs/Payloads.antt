-- The payloads of a link's attributes, as bytes.
use Rattle.std.specs.Prelude.{ℕ, Bool, true, List}
use Rattle.netlink_packet_core.specs.Fields.{field_bytes}
use Rattle.netlink_packet_core.specs.Lists.{text_by, all_fit_by}
use Rattle.link_info.specs.LinkInfo.{link_info_entry, link_info_fits}
use Rattle.link_message_nested.specs.AddressFamilies.{af_spec_unspec_entry, af_spec_unspec_fits}
use Rattle.link_message_nested.specs.ProtocolInfos.{link_proto_info_inet_6_entry}
use Rattle.link_message_nested.specs.Devlink.{devlink_port_entry}
use Rattle.link_message_nested.specs.DownReasons.{link_protocol_down_reason_entry}
use Rattle.link_message_nested.specs.Dpll.{dpll_pin_entry}
use Rattle.link_message_nested.specs.Props.{prop_entry}
use Rattle.link_message_nested.specs.Xdp.{link_xdp_entry}
use Rattle.link_message_records.specs.Maps.{map_bytes}
use Rattle.link_message_records.specs.ValueRecords.{u32_values_bytes, u64_values_bytes}
use Rattle.link_message_nested.specs.VfInfos.{link_vf_info_entry, link_vf_info_fits}
use Rattle.link_message_nested.specs.VfPorts.{vf_port_entry, link_vf_port_entry, link_vf_port_fits}
use Rattle.link_message_attributes.specs.declared.payload.LinkPayload.{LinkPayload}
use Rattle.link_message_attributes.specs.declared.payload.LinkPayload.TheVariants as Payload

-- The bytes of a payload.
abbrev pub link_payload_bytes : LinkPayload → List ℕ
link_payload_bytes (Payload.Field f) = field_bytes f
link_payload_bytes (Payload.Stats r) = u32_values_bytes r.now
link_payload_bytes (Payload.Stats64 r) = u64_values_bytes r.now
link_payload_bytes (Payload.Map r) = map_bytes r.now
link_payload_bytes (Payload.LinkInfo vs) = text_by link_info_entry vs.now
link_payload_bytes (Payload.VfInfos vs) = text_by link_vf_info_entry vs.now
link_payload_bytes (Payload.VfPorts vs) = text_by link_vf_port_entry vs.now
link_payload_bytes (Payload.Port vs) = text_by vf_port_entry vs.now
link_payload_bytes (Payload.Xdp vs) = text_by link_xdp_entry vs.now
link_payload_bytes (Payload.ProtocolInfos vs) = text_by link_proto_info_inet_6_entry vs.now
link_payload_bytes (Payload.Families vs) = text_by af_spec_unspec_entry vs.now
link_payload_bytes (Payload.Raw vs) = text_by (λ a. a) vs.now
link_payload_bytes (Payload.Props vs) = text_by prop_entry vs.now
link_payload_bytes (Payload.DownReasons vs) = text_by link_protocol_down_reason_entry vs.now
link_payload_bytes (Payload.DevlinkPort vs) = text_by devlink_port_entry vs.now
link_payload_bytes (Payload.DpllPin vs) = text_by dpll_pin_entry vs.now

-- Each length inside a payload fits the 2 bytes of its header.
abbrev pub link_payload_fits : LinkPayload → Bool
link_payload_fits (Payload.Field f) = true
link_payload_fits (Payload.Stats r) = true
link_payload_fits (Payload.Stats64 r) = true
link_payload_fits (Payload.Map r) = true
link_payload_fits (Payload.LinkInfo vs) = all_fit_by link_info_entry link_info_fits vs.now
link_payload_fits (Payload.VfInfos vs) = all_fit_by link_vf_info_entry link_vf_info_fits vs.now
link_payload_fits (Payload.VfPorts vs) = all_fit_by link_vf_port_entry link_vf_port_fits vs.now
link_payload_fits (Payload.Port vs) = all_fit_by vf_port_entry (λ _. true) vs.now
link_payload_fits (Payload.Xdp vs) = all_fit_by link_xdp_entry (λ _. true) vs.now
link_payload_fits (Payload.ProtocolInfos vs) = all_fit_by link_proto_info_inet_6_entry (λ _. true) vs.now
link_payload_fits (Payload.Families vs) = all_fit_by af_spec_unspec_entry af_spec_unspec_fits vs.now
link_payload_fits (Payload.Raw vs) = all_fit_by (λ a. a) (λ _. true) vs.now
link_payload_fits (Payload.Props vs) = all_fit_by prop_entry (λ _. true) vs.now
link_payload_fits (Payload.DownReasons vs) = all_fit_by link_protocol_down_reason_entry (λ _. true) vs.now
link_payload_fits (Payload.DevlinkPort vs) = all_fit_by devlink_port_entry (λ _. true) vs.now
link_payload_fits (Payload.DpllPin vs) = all_fit_by dpll_pin_entry (λ _. true) vs.now
