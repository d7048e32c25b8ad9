-- Attributes of links that are written as equal attributes are equal.
use Rattle.std.proofs.Common.{◌≡◌, ◌<◌, ℕ, List, [], ◌∷◌, take, drop, cond, true, Some, refl, sym, ap, ◌∙◌, arith, append_assoc}
use Rattle.std.specs.Prelude.{◌==◌, slice_index}
use lib.Pointwise.{bytes_decides}
use Rattle.netlink_packet_core.specs.Attributes.{Attribute, proper_kind}
use Rattle.attribute_tables_grammar.specs.LookUps.{Line}
use Rattle.attribute_tables_grammar.specs.Shapes.{raw}
use Rattle.attribute_tables_grammar.specs.Tables.{Payload.plain}
use Rattle.link_message_grammar.specs.LinkMessage.{Family, unspec, bridge, inet_6, family_payload, link_line}
use Rattle.link_message_types.specs.declared.phys_id.LinkPhysId.{LinkPhysId}
use Rattle.link_message_records.specs.Maps.{map_bytes}
use Rattle.link_message_records.specs.declared.map.Map.{Map}
use Rattle.link_message_types.specs.Events.{link_event_of}
use Rattle.link_message_types.specs.ExtentMasks.{link_extent_masks_of}
use Rattle.link_message_types.specs.LinkModes.{link_mode_of}
use Rattle.link_message_types.specs.LinkStates.{state_of}
use Rattle.link_message_types.specs.contracts.ext_mask.LinkExtentMaskPartialEq.TheImpl as mask_equality
use Rattle.link_message_types.specs.contracts.ext_mask.LinkExtentMaskEq.TheImpl.Laws as mask_laws
use Rattle.link_message_attributes.specs.declared.attributes.LinkAttribute.{LinkAttribute}
use Rattle.link_message_attributes.specs.declared.attributes.LinkAttribute.TheVariants as Link
use Rattle.link_message_attributes.specs.LinkAttributes.{link_attribute_entry, link_attribute_names_row}
use Rattle.link_message_attributes.specs.contracts.attributes.LinkAttributePartialEq.TheImpl as equality
use Rattle.link_message_attributes.specs.contracts.attributes.LinkAttributeEq.TheImpl.Laws.{laws-law}
use Rattle.link_message.specs.Injective.{IsInjective}
use Rattle.link_message.proofs.Decoders.{Decoders, Otherwise, has_decoder, RoundTripIfDecoded, injective_or, value_of, round_trips, byte_of, le2_of, le4_of, le8_of, signed_of, u32_values_of, u64_values_of}
use Rattle.link_message.proofs.Records.{le4_injective, string_same, raw_injective}
use Rattle.link_message.proofs.LinkInfos.{infos_injective}
use Rattle.link_message.proofs.Lists.{lists_injective, pointwise_same}
use Rattle.link_message.proofs.Xdp.{xdp_injective}
use Rattle.link_message.proofs.Props.{props_injective}
use Rattle.link_message.proofs.DownReasons.{downreasons_injective}
use Rattle.link_message.proofs.Devlink.{devlink_injective}
use Rattle.link_message.proofs.Dpll.{dpll_injective}
use Rattle.link_message.proofs.Families.{families_injective}
use Rattle.link_message.proofs.VirtualFunctions.{vf_infos_injective}
use Rattle.link_message.proofs.Ports.{port_injective, ports_injective, protocol_injective}

abbrev phys_id_of : List ℕ → LinkPhysId
phys_id_of p = record { bytes = p }

map_of : List ℕ → Map
map_of p =
    let rest = drop 8 (drop 8 (drop 8 p)) in
    record { memory_start = le8_of (take 8 p); memory_end = le8_of (take 8 (drop 8 p)); base_address = le8_of (take 8 (drop 8 (drop 8 p))); irq = le2_of (take 2 rest); dma = slice_index (drop 2 rest) 0; port = slice_index (drop 2 rest) 1 }

map_round_trip : (m : Map) → map_of (map_bytes m) ≡ m
unfolding map_of
map_round_trip m = simp (append_assoc, round_trips)

mask_refl : (m : _) → (mask_equality.ghosts).eq m m ≡ true
mask_refl m = mask_laws.laws-law.refl m

-- The decoder of each kind whose value owns neither bytes nor text.
abbrev decoders : Decoders LinkAttribute
decoders =
    (34, λ p. Link.PhysPortId (phys_id_of p)) ∷
    (36, λ p. Link.PhysSwitchId (phys_id_of p)) ∷
    (44, λ p. Link.Event (link_event_of (le4_of p))) ∷
    (45, λ p. Link.NewNetnsId (le4_of p)) ∷
    (46, λ p. Link.IfNetnsId (le4_of p)) ∷
    (47, λ p. Link.CarrierUpCount (le4_of p)) ∷
    (48, λ p. Link.CarrierDownCount (le4_of p)) ∷
    (49, λ p. Link.NewIfIndex (le4_of p)) ∷
    (17, λ p. Link.Mode (link_mode_of (byte_of p))) ∷
    (33, λ p. Link.Carrier (byte_of p)) ∷
    (39, λ p. Link.ProtoDown (byte_of p)) ∷
    (4, λ p. Link.Mtu (le4_of p)) ∷
    (5, λ p. Link.Link (le4_of p)) ∷
    (10, λ p. Link.Controller (le4_of p)) ∷
    (13, λ p. Link.TxQueueLen (le4_of p)) ∷
    (19, λ p. Link.NetNsPid (le4_of p)) ∷
    (21, λ p. Link.NumVf (le4_of p)) ∷
    (27, λ p. Link.Group (le4_of p)) ∷
    (28, λ p. Link.NetNsFd (signed_of p)) ∷
    (30, λ p. Link.Promiscuity (le4_of p)) ∷
    (31, λ p. Link.NumTxQueues (le4_of p)) ∷
    (32, λ p. Link.NumRxQueues (le4_of p)) ∷
    (35, λ p. Link.CarrierChanges (le4_of p)) ∷
    (40, λ p. Link.GsoMaxSegs (le4_of p)) ∷
    (41, λ p. Link.GsoMaxSize (le4_of p)) ∷
    (50, λ p. Link.MinMtu (le4_of p)) ∷
    (51, λ p. Link.MaxMtu (le4_of p)) ∷
    (37, λ p. Link.LinkNetnsId (le4_of p)) ∷
    (16, λ p. Link.OperState (state_of (byte_of p))) ∷
    (7, λ p. Link.Stats (u32_values_of p)) ∷
    (23, λ p. Link.Stats64 (u64_values_of p)) ∷
    (14, λ p. Link.Map (map_of p)) ∷
    (58, λ p. Link.GroMaxSize (le4_of p)) ∷
    (59, λ p. Link.TsoMaxSize (le4_of p)) ∷
    (60, λ p. Link.TsoMaxSegs (le4_of p)) ∷
    (61, λ p. Link.AllMulti (le4_of p)) ∷
    (63, λ p. Link.GsoIpv4MaxSize (le4_of p)) ∷
    (64, λ p. Link.GroIpv4MaxSize (le4_of p)) ∷ []

-- A kind without a row is `Other`, unless it is IFLA_PROTINFO.
abbrev other : Attribute → LinkAttribute
other a = cond (proper_kind a.kind == 12) (Link.ProtoInfoUnknown a) (Link.Other a)

round_trip : (f : Family) → RoundTripIfDecoded link_attribute_entry (link_attribute_names_row f) (value_of (link_line f) other decoders)
round_trip f (Link.ProtoInfoUnknown a) h = rw h.1 (rw h.0 refl)
round_trip f (Link.ProtoInfoBridge vs) h = rw h (simp round_trips)
round_trip f (Link.ProtoInfoInet6 vs) h = rw h (simp round_trips)
round_trip f (Link.Other a) h = rw h.1 (rw h.0 refl)
round_trip f (Link.PhysPortId i) h = refl
round_trip f (Link.PhysSwitchId i) h = refl
round_trip f (Link.Map m) h = ap (λ r. Some (Link.Map r)) (map_round_trip m)
round_trip f v h = simp round_trips cc

-- 1 if the value has no row, and 0 otherwise: a number, because `omega` decides a pair of variants much faster than `cc`.
abbrev without_row : LinkAttribute → ℕ
without_row (Link.ProtoInfoUnknown a) = 1
without_row (Link.Other a) = 1
without_row v = 0

with_row : (f : Family) (v : LinkAttribute) (l : Line) → link_line f (proper_kind (link_attribute_entry v).kind) ≡ Some l → link_attribute_names_row f v → without_row v < 1
with_row f (Link.ProtoInfoUnknown a) l i p = let h = sym i ∙ p.1 in absurd cc
with_row f (Link.Other a) l i p = let h = sym i ∙ p.1 in absurd cc
with_row f v l i p = omega arith

by_variant : (f : Family) (v w : LinkAttribute) → without_row v < 1 → without_row w < 1 → has_decoder decoders (proper_kind (link_attribute_entry v).kind) < 1 → link_attribute_names_row f v → link_attribute_names_row f w
    → (link_attribute_entry v).kind ≡ (link_attribute_entry w).kind → (link_attribute_entry v).payload ≡ (link_attribute_entry w).payload → (equality.ghosts).eq v w ≡ true
by_variant f (Link.VfInfoList x) (Link.VfInfoList y) a b d p q k e = lists_injective _ _ _ vf_infos_injective _ _ p q e
by_variant f (Link.VfPorts x) (Link.VfPorts y) a b d p q k e = lists_injective _ _ _ ports_injective _ _ (λ _ _ _. tt) (λ _ _ _. tt) e
by_variant f (Link.PortSelf x) (Link.PortSelf y) a b d p q k e = lists_injective _ _ _ port_injective _ _ (λ _ _ _. tt) (λ _ _ _. tt) e
by_variant f (Link.Xdp x) (Link.Xdp y) a b d p q k e = lists_injective _ _ _ xdp_injective _ _ p q e
by_variant f (Link.LinkInfo x) (Link.LinkInfo y) a b d p q k e = infos_injective x.items y.items p q e
by_variant f (Link.ProtoInfoBridge x) (Link.ProtoInfoBridge y) a b d p q k e = lists_injective _ _ _ raw_injective _ _ (λ _ _ _. tt) (λ _ _ _. tt) e
by_variant f (Link.ProtoInfoInet6 x) (Link.ProtoInfoInet6 y) a b d p q k e = lists_injective _ _ _ protocol_injective _ _ (λ _ _ _. tt) (λ _ _ _. tt) e
by_variant f (Link.PropList x) (Link.PropList y) a b d p q k e = lists_injective _ _ _ props_injective _ _ p q e
by_variant f (Link.ProtoDownReason x) (Link.ProtoDownReason y) a b d p q k e = lists_injective _ _ _ downreasons_injective _ _ p q e
by_variant f (Link.Address x) (Link.Address y) a b d p q k e = (bytes_decides x.items y.items).1 e
by_variant f (Link.Broadcast x) (Link.Broadcast y) a b d p q k e = (bytes_decides x.items y.items).1 e
by_variant f (Link.PermAddress x) (Link.PermAddress y) a b d p q k e = (bytes_decides x.items y.items).1 e
by_variant f (Link.IfName x) (Link.IfName y) a b d p q k e = string_same x y e
by_variant f (Link.Qdisc x) (Link.Qdisc y) a b d p q k e = string_same x y e
by_variant f (Link.IfAlias x) (Link.IfAlias y) a b d p q k e = string_same x y e
by_variant f (Link.PhysPortName x) (Link.PhysPortName y) a b d p q k e = string_same x y e
by_variant f (Link.ExtMask x) (Link.ExtMask y) a b d p q k e = pointwise_same (mask_equality.ghosts).eq mask_refl _ _ (p ∙ ap link_extent_masks_of (le4_injective _ _ e) ∙ sym q)
by_variant f (Link.AfSpecUnspec x) (Link.AfSpecUnspec y) a b d p q k e = lists_injective _ _ _ families_injective _ _ p.1 q.1 e
by_variant f (Link.AfSpecBridge x) (Link.AfSpecBridge y) a b d p q k e = lists_injective _ _ _ raw_injective _ _ (λ _ _ _. tt) (λ _ _ _. tt) e
by_variant f (Link.AfSpecUnknown x) (Link.AfSpecUnknown y) a b d p q k e = (bytes_decides x.items y.items).1 e
by_variant f (Link.ParentDevName x) (Link.ParentDevName y) a b d p q k e = string_same x y e
by_variant f (Link.ParentDevBusName x) (Link.ParentDevBusName y) a b d p q k e = string_same x y e
by_variant f (Link.DevlinkPort x) (Link.DevlinkPort y) a b d p q k e = lists_injective _ _ _ devlink_injective _ _ p q e
by_variant f (Link.DpllPin x) (Link.DpllPin y) a b d p q k e = lists_injective _ _ _ dpll_injective _ _ p q e
by_variant f (Link.ProtoInfoBridge x) (Link.ProtoInfoInet6 y) a b d p q k e = let h : bridge ≡ inet_6 = sym p ∙ q in absurd cc
by_variant f (Link.ProtoInfoInet6 x) (Link.ProtoInfoBridge y) a b d p q k e = let h : bridge ≡ inet_6 = sym q ∙ p in absurd cc
by_variant f (Link.AfSpecUnspec x) (Link.AfSpecBridge y) a b d p q k e = let h : unspec ≡ bridge = sym p.0 ∙ q in absurd cc
by_variant f (Link.AfSpecBridge x) (Link.AfSpecUnspec y) a b d p q k e = let h : unspec ≡ bridge = sym q.0 ∙ p in absurd cc
by_variant f (Link.AfSpecUnspec x) (Link.AfSpecUnknown y) a b d p q k e = let h : family_payload unspec ≡ plain raw = sym (ap family_payload p.0) ∙ q in absurd cc
by_variant f (Link.AfSpecUnknown x) (Link.AfSpecUnspec y) a b d p q k e = let h : family_payload unspec ≡ plain raw = sym (ap family_payload q.0) ∙ p in absurd cc
by_variant f (Link.AfSpecBridge x) (Link.AfSpecUnknown y) a b d p q k e = let h : family_payload bridge ≡ plain raw = sym (ap family_payload p) ∙ q in absurd cc
by_variant f (Link.AfSpecUnknown x) (Link.AfSpecBridge y) a b d p q k e = let h : family_payload bridge ≡ plain raw = sym (ap family_payload q) ∙ p in absurd cc
by_variant f v w a b d _ _ k _ = absurd (omega arith)

otherwise : (f : Family) → Otherwise (equality.ghosts).eq link_attribute_entry (link_attribute_names_row f) (link_line f) decoders
otherwise f v w l m i j d p q k e = by_variant f v w (with_row f v l i p) (with_row f w m j q) d p q k e

pub attribute_injective : (f : Family) → IsInjective (equality.ghosts).eq link_attribute_entry (link_attribute_names_row f)
attribute_injective f = injective_or _ laws-law.refl _ _ (link_line f) other decoders (round_trip f) (otherwise f)
