-- The attributes of a link: the kind and the payload of each value, and the variant that its row names.
use Rattle.std.specs.Prelude.{◌≡◌, ◌==◌, ◌&&◌, ◌||◌, ◌++◌, cond, ℕ, Bool, true, false, Option, Some, None, List, []}
use Rattle.std.specs.Prelude.{◌∷◌, string_bytes}
use Rattle.std.specs.List.{All}
use Rattle.netlink_packet_core.specs.Attributes.{Attribute, proper_kind}
use Rattle.netlink_packet_core.specs.AttributeViews.{viewed_kind, viewed_payload}
use Rattle.netlink_packet_core.specs.Families.{attribute, family_row}
use Rattle.netlink_packet_core.specs.Lists.{text_by, all_fit_by}
use Rattle.netlink_packet_core.specs.Numbers.{le4, signed_bits}
use Rattle.attribute_tables_grammar.specs.Lists.{no_kind_in_force, Row}
use Rattle.attribute_tables_grammar.specs.LookUps.{Line, line_allocates}
use Rattle.attribute_tables_grammar.specs.Peers.{bytes_peer}
use Rattle.attribute_tables_grammar.specs.Readings.{AreRowVariants}
use Rattle.attribute_tables_grammar.specs.Shapes.{raw}
use Rattle.attribute_tables_grammar.specs.Tables.{Payload, Payload.plain, Payload.list, Payload.link_info}
use Rattle.attribute_tables.specs.Beginnings.{begins_readable, line_may_allocate, table_may_allocate}
use Rattle.link_info_grammar.specs.LinkInfo.{info_grammar}
use Rattle.link_info.specs.LinkInfo.{link_info_entry, link_info_fits, link_info_is_row_variant}
use Rattle.link_message_grammar.specs.LinkMessage.{Family, unspec, bridge, inet_6, family_payload, HasNoLinkRow}
use Rattle.link_message_grammar.specs.LinkMessage.{link_line}
use Rattle.link_message_grammar.specs.Body.{attribute_row, info_payload_rule, link_peer}
use Rattle.link_message_grammar.specs.NestedTables.{specific}
use Rattle.link_message_nested.specs.AddressFamilies.{af_spec_unspec_entry, af_spec_unspec_fits}
use Rattle.link_message_nested.specs.AddressFamilies.{af_spec_unspec_names_row}
use Rattle.link_message_nested.specs.ProtocolInfos.{link_proto_info_inet_6_entry}
use Rattle.link_message_nested.specs.Devlink.{devlink_port_entry, devlink_port_names_row}
use Rattle.link_message_nested.specs.DownReasons.{link_protocol_down_reason_entry, link_protocol_down_reason_names_row}
use Rattle.link_message_nested.specs.Dpll.{dpll_pin_entry, dpll_pin_names_row}
use Rattle.link_message_nested.specs.Props.{prop_entry, prop_names_row}
use Rattle.link_message_nested.specs.Xdp.{link_xdp_entry, link_xdp_names_row}
use Rattle.link_message_records.specs.Maps.{map_bytes}
use Rattle.link_message_records.specs.ValueRecords.{u32_values_bytes, u64_values_bytes}
use Rattle.link_message_types.specs.Events.{link_event_number, link_event_of}
use Rattle.link_message_types.specs.ExtentMasks.{joined_extent_masks, link_extent_masks_of}
use Rattle.link_message_types.specs.LinkModes.{link_mode_number, link_mode_of}
use Rattle.link_message_types.specs.LinkStates.{state_number, state_of}
use Rattle.link_message_types.specs.PhysIds.{link_phys_id_bytes}
use Rattle.link_message_nested.specs.VfInfos.{link_vf_info_entry, link_vf_info_fits, link_vf_info_names_row}
use Rattle.link_message_nested.specs.VfInfos.{vf_infos_begin_readable}
use Rattle.link_message_nested.specs.VfPorts.{vf_port_entry, link_vf_port_entry, link_vf_port_fits}
use Rattle.link_message_nested.specs.VfPorts.{vf_ports_begin_readable}
use Rattle.link_message_attributes.specs.declared.attributes.LinkAttribute.{LinkAttribute}
use Rattle.link_message_attributes.specs.declared.attributes.LinkAttribute.TheVariants as Link

-- The kind and the payload of a value.
abbrev pub link_attribute_entry : LinkAttribute → Attribute
link_attribute_entry (Link.VfInfoList vs) = attribute 22 (text_by link_vf_info_entry vs.items)
link_attribute_entry (Link.VfPorts vs) = attribute 24 (text_by link_vf_port_entry vs.items)
link_attribute_entry (Link.PortSelf v) = attribute 25 (text_by vf_port_entry v.0.items)
link_attribute_entry (Link.PhysPortId i) = attribute 34 (link_phys_id_bytes i)
link_attribute_entry (Link.PhysSwitchId i) = attribute 36 (link_phys_id_bytes i)
link_attribute_entry (Link.Xdp vs) = attribute 43 (text_by link_xdp_entry vs.items)
link_attribute_entry (Link.Event e) = attribute 44 (le4 (link_event_number e))
link_attribute_entry (Link.NewNetnsId n) = attribute 45 (le4 n)
link_attribute_entry (Link.IfNetnsId n) = attribute 46 (le4 n)
link_attribute_entry (Link.CarrierUpCount n) = attribute 47 (le4 n)
link_attribute_entry (Link.CarrierDownCount n) = attribute 48 (le4 n)
link_attribute_entry (Link.NewIfIndex n) = attribute 49 (le4 n)
link_attribute_entry (Link.LinkInfo vs) = attribute 18 (text_by link_info_entry vs.items)
link_attribute_entry (Link.ProtoInfoBridge vs) = attribute 12 (text_by (λ a. a) vs.items)
link_attribute_entry (Link.ProtoInfoInet6 vs) = attribute 12 (text_by link_proto_info_inet_6_entry vs.items)
link_attribute_entry (Link.ProtoInfoUnknown a) = a
link_attribute_entry (Link.PropList vs) = attribute 0x8034 (text_by prop_entry vs.items)
link_attribute_entry (Link.ProtoDownReason vs) = attribute 0x8037 (text_by link_protocol_down_reason_entry vs.items)
link_attribute_entry (Link.Address b) = attribute 1 b.items
link_attribute_entry (Link.Broadcast b) = attribute 2 b.items
link_attribute_entry (Link.PermAddress b) = attribute 54 b.items
link_attribute_entry (Link.IfName s) = attribute 3 (string_bytes s ++ 0 ∷ [])
link_attribute_entry (Link.Qdisc s) = attribute 6 (string_bytes s ++ 0 ∷ [])
link_attribute_entry (Link.IfAlias s) = attribute 20 (string_bytes s ++ 0 ∷ [])
link_attribute_entry (Link.PhysPortName s) = attribute 38 (string_bytes s ++ 0 ∷ [])
link_attribute_entry (Link.Mode m) = attribute 17 (link_mode_number m ∷ [])
link_attribute_entry (Link.Carrier n) = attribute 33 (n ∷ [])
link_attribute_entry (Link.ProtoDown n) = attribute 39 (n ∷ [])
link_attribute_entry (Link.Mtu n) = attribute 4 (le4 n)
link_attribute_entry (Link.Link n) = attribute 5 (le4 n)
link_attribute_entry (Link.Controller n) = attribute 10 (le4 n)
link_attribute_entry (Link.TxQueueLen n) = attribute 13 (le4 n)
link_attribute_entry (Link.NetNsPid n) = attribute 19 (le4 n)
link_attribute_entry (Link.NumVf n) = attribute 21 (le4 n)
link_attribute_entry (Link.Group n) = attribute 27 (le4 n)
link_attribute_entry (Link.NetNsFd z) = attribute 28 (le4 (signed_bits z))
link_attribute_entry (Link.ExtMask ms) = attribute 29 (le4 (joined_extent_masks ms.items))
link_attribute_entry (Link.Promiscuity n) = attribute 30 (le4 n)
link_attribute_entry (Link.NumTxQueues n) = attribute 31 (le4 n)
link_attribute_entry (Link.NumRxQueues n) = attribute 32 (le4 n)
link_attribute_entry (Link.CarrierChanges n) = attribute 35 (le4 n)
link_attribute_entry (Link.GsoMaxSegs n) = attribute 40 (le4 n)
link_attribute_entry (Link.GsoMaxSize n) = attribute 41 (le4 n)
link_attribute_entry (Link.MinMtu n) = attribute 50 (le4 n)
link_attribute_entry (Link.MaxMtu n) = attribute 51 (le4 n)
link_attribute_entry (Link.LinkNetnsId n) = attribute 37 (le4 n)
link_attribute_entry (Link.OperState s) = attribute 16 (state_number s ∷ [])
link_attribute_entry (Link.Stats r) = attribute 7 (u32_values_bytes r)
link_attribute_entry (Link.Stats64 r) = attribute 23 (u64_values_bytes r)
link_attribute_entry (Link.Map m) = attribute 14 (map_bytes m)
link_attribute_entry (Link.AfSpecUnspec vs) = attribute 26 (text_by af_spec_unspec_entry vs.items)
link_attribute_entry (Link.AfSpecBridge vs) = attribute 26 (text_by (λ a. a) vs.items)
link_attribute_entry (Link.AfSpecUnknown b) = attribute 26 b.items
link_attribute_entry (Link.ParentDevName s) = attribute 56 (string_bytes s ++ 0 ∷ [])
link_attribute_entry (Link.ParentDevBusName s) = attribute 57 (string_bytes s ++ 0 ∷ [])
link_attribute_entry (Link.GroMaxSize n) = attribute 58 (le4 n)
link_attribute_entry (Link.TsoMaxSize n) = attribute 59 (le4 n)
link_attribute_entry (Link.TsoMaxSegs n) = attribute 60 (le4 n)
link_attribute_entry (Link.AllMulti n) = attribute 61 (le4 n)
link_attribute_entry (Link.DevlinkPort vs) = attribute 0x803e (text_by devlink_port_entry vs.items)
link_attribute_entry (Link.GsoIpv4MaxSize n) = attribute 63 (le4 n)
link_attribute_entry (Link.GroIpv4MaxSize n) = attribute 64 (le4 n)
link_attribute_entry (Link.DpllPin vs) = attribute 0x8041 (text_by dpll_pin_entry vs.items)
link_attribute_entry (Link.Other a) = a

-- Each length inside a value fits the 2 bytes of its header.
abbrev pub link_attribute_fits : LinkAttribute → Bool
link_attribute_fits (Link.VfInfoList vs) = all_fit_by link_vf_info_entry link_vf_info_fits vs.items
link_attribute_fits (Link.VfPorts vs) = all_fit_by link_vf_port_entry link_vf_port_fits vs.items
link_attribute_fits (Link.PortSelf v) = link_vf_port_fits v
link_attribute_fits (Link.Xdp vs) = all_fit_by link_xdp_entry (λ _. true) vs.items
link_attribute_fits (Link.LinkInfo vs) = all_fit_by link_info_entry link_info_fits vs.items
link_attribute_fits (Link.ProtoInfoBridge vs) = all_fit_by (λ a. a) (λ _. true) vs.items
link_attribute_fits (Link.ProtoInfoInet6 vs) = all_fit_by link_proto_info_inet_6_entry (λ _. true) vs.items
link_attribute_fits (Link.PropList vs) = all_fit_by prop_entry (λ _. true) vs.items
link_attribute_fits (Link.ProtoDownReason vs) = all_fit_by link_protocol_down_reason_entry (λ _. true) vs.items
link_attribute_fits (Link.AfSpecUnspec vs) = all_fit_by af_spec_unspec_entry af_spec_unspec_fits vs.items
link_attribute_fits (Link.AfSpecBridge vs) = all_fit_by (λ a. a) (λ _. true) vs.items
link_attribute_fits (Link.DevlinkPort vs) = all_fit_by devlink_port_entry (λ _. true) vs.items
link_attribute_fits (Link.DpllPin vs) = all_fit_by dpll_pin_entry (λ _. true) vs.items
link_attribute_fits _ = true

-- The value is the variant that its row names under the family: a kind with a row isn't kept as `Other`, nor a named
-- number as `Other`; a mask is the list of its bits in order; and an attribute that depends on the family is the
-- family's own variant.
abbrev pub link_attribute_names_row : Family → LinkAttribute → Type 0
link_attribute_names_row f (Link.VfInfoList vs) = All link_vf_info_names_row vs.items
link_attribute_names_row f (Link.Xdp vs) = All link_xdp_names_row vs.items
link_attribute_names_row f (Link.Event e) = e ≡ link_event_of (link_event_number e)
link_attribute_names_row f (Link.LinkInfo vs) =
    AreRowVariants (info_grammar link_peer) link_info_entry link_info_is_row_variant no_kind_in_force vs.items
link_attribute_names_row f (Link.ProtoInfoBridge vs) = f ≡ bridge
link_attribute_names_row f (Link.ProtoInfoInet6 vs) = f ≡ inet_6
link_attribute_names_row f (Link.ProtoInfoUnknown a) = (proper_kind a.kind ≡ 12) ×
    HasNoLinkRow f (proper_kind a.kind)
link_attribute_names_row f (Link.PropList vs) = All prop_names_row vs.items
link_attribute_names_row f (Link.ProtoDownReason vs) = All link_protocol_down_reason_names_row vs.items
link_attribute_names_row f (Link.Mode m) = m ≡ link_mode_of (link_mode_number m)
link_attribute_names_row f (Link.ExtMask ms) = ms.items ≡ link_extent_masks_of (joined_extent_masks ms.items)
link_attribute_names_row f (Link.OperState s) = s ≡ state_of (state_number s)
link_attribute_names_row f (Link.AfSpecUnspec vs) = (f ≡ unspec) × All af_spec_unspec_names_row vs.items
link_attribute_names_row f (Link.AfSpecBridge vs) = f ≡ bridge
link_attribute_names_row f (Link.AfSpecUnknown b) = family_payload f ≡ plain raw
link_attribute_names_row f (Link.DevlinkPort vs) = All devlink_port_names_row vs.items
link_attribute_names_row f (Link.DpllPin vs) = All dpll_pin_names_row vs.items
link_attribute_names_row f (Link.Other a) = ((proper_kind a.kind == 12) ≡ false) ×
    HasNoLinkRow f (proper_kind a.kind)
link_attribute_names_row f _ = Unit {0}

-- The row of a kind under the rule by which peers are bytes, which is the row in force of every kind except link
-- info's.
abbrev pub plain_row : Family → ℕ → Row
plain_row = attribute_row bytes_peer

-- Whether a payload is a list of attributes.
abbrev pub payload_holds_list : Payload → Bool
payload_holds_list (list form t) = true
payload_holds_list (link_info form data' port_data) = true
payload_holds_list _ = false

-- Whether a row's payload is a list of attributes.
abbrev pub line_holds_list : Option Line → Bool
line_holds_list None = false
line_holds_list (Some l) = payload_holds_list l.payload

-- Whether reading the attributes of all address families may allocate; only a row with a list of them does.
abbrev pub families_may_allocate : Family → List ℕ → Bool
families_may_allocate unspec p = begins_readable (family_row specific) (table_may_allocate specific) p
families_may_allocate f p = line_may_allocate (link_line f 26) p

-- Whether reading a list may allocate: link info if it is accepted; another list of attributes if its first attribute
-- is accepted, or is a list whose reading may allocate.
abbrev pub list_may_allocate : Family → ℕ → List ℕ → Bool
list_may_allocate f k p =
    cond (k == 18) ((info_payload_rule link_peer).accepted p)
    (cond (k == 22) (vf_infos_begin_readable p)
    (cond (k == 24) (vf_ports_begin_readable p)
    (cond (k == 26) (families_may_allocate f p)
    (line_may_allocate (link_line f k) p))))

-- Whether reading a payload may allocate: for a list of attributes this depends on its start; for bytes, a text and the
-- bits of a mask, on whether the row accepts them.
abbrev pub row_may_allocate : Family → ℕ → List ℕ → Bool
row_may_allocate f k p =
    cond (line_holds_list (link_line f k)) (list_may_allocate f k p) ((k == 29 || line_allocates (link_line f k)) &&
    (attribute_row link_peer f k).rule.accepted p)

-- Whether reading the attribute at the start of some bytes may allocate.
abbrev pub link_attribute_may_allocate : Family → List ℕ → Bool
link_attribute_may_allocate f b = row_may_allocate f (proper_kind (viewed_kind b)) (viewed_payload b)

-- The kind isn't that of link info, nor one of those whose payload is a text.
abbrev pub IsNoText : ℕ → Type 0
IsNoText k =
    ((k == 3) ≡ false) × ((k == 6) ≡ false) × ((k == 18) ≡ false) × ((k == 20) ≡ false) × ((k == 38) ≡ false) ×
    ((k == 56) ≡ false) × ((k == 57) ≡ false)

-- The kind isn't one of those whose payload is no number.
abbrev pub IsReadAsNumber : ℕ → Type 0
IsReadAsNumber k =
    ((k == 1) ≡ false) × ((k == 2) ≡ false) × ((k == 3) ≡ false) × ((k == 6) ≡ false) × ((k == 7) ≡ false) ×
    ((k == 12) ≡ false) × ((k == 14) ≡ false)
    × ((k == 18) ≡ false) × ((k == 20) ≡ false) × ((k == 22) ≡ false) × ((k == 23) ≡ false) × ((k == 24) ≡ false) ×
    ((k == 25) ≡ false) × ((k == 26) ≡ false)
    × ((k == 29) ≡ false) × ((k == 34) ≡ false) × ((k == 36) ≡ false) × ((k == 38) ≡ false) × ((k == 43) ≡ false) ×
    ((k == 52) ≡ false) × ((k == 54) ≡ false)
    × ((k == 55) ≡ false) × ((k == 56) ≡ false) × ((k == 57) ≡ false) × ((k == 62) ≡ false) × ((k == 65) ≡ false)
