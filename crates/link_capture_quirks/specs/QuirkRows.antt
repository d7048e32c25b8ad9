-- Which encoding quirk an attribute has, by its list, its kind and its payload: an encoding that some kernels treat
-- differently from its normal text.
use Rattle.std.specs.Prelude.{ℕ, ◌==◌, ◌&&◌, ◌||◌, not, nat_le, nat_lt, Bool, false, cond, List, length, slice_index}
use Rattle.std.specs.Prelude.{Option, Some, None}
use Rattle.std.specs.List.{list_any}
use Rattle.netlink_packet_core_grammar.specs.Attributes.{proper_kind}
use Rattle.netlink_packet_core_grammar.specs.Numbers.{u32_at}
use Rattle.link_capture_quirks.specs.declared.quirk_at.Quirk.{Quirk}
use Rattle.link_capture_quirks.specs.declared.quirk_at.Quirk.TheVariants.{NestedPortSettings, ResizedSettings}
use Rattle.link_capture_quirks.specs.declared.quirk_at.Quirk.TheVariants.{PathDiscoveryOverOne, TrailingPeer, LongAlias}
use Rattle.link_capture_quirks.specs.declared.quirk_at.Quirk.TheVariants.{NameWithoutNul, FlagWithPayload}
use Rattle.link_capture_quirks.specs.declared.quirk_at.Quirk.TheVariants.{BooleanOverOne, StrayNestedBit}
use Rattle.link_capture_quirks.specs.declared.quirk_at.Quirk.TheVariants.{UnexpectedFunction, HeaderByte, ShortMap}
use Rattle.link_capture_quirks.specs.declared.tables.Data.{Data}
use Rattle.link_capture_quirks.specs.declared.tables.Data.TheVariants.{Vxlan, Geneve, Gre, Gre6, IpTunnel, BareUdp}
use Rattle.link_capture_quirks.specs.declared.tables.Data.TheVariants.{Batadv, Netkit, AfterFirst}
use Rattle.link_capture_quirks.specs.declared.tables.Table.{Table}
use Rattle.link_capture_quirks.specs.declared.tables.Table.TheVariants.{Unspec, Bridge, Link, Inet, Programs, Functions}
use Rattle.link_capture_quirks.specs.declared.tables.Table.TheVariants.{OfKind}

-- The quirk, if the condition holds.
abbrev pub quirk_if : Bool → Quirk → Option Quirk
quirk_if holds s = cond holds (Some s) None

-- ---- payloads

-- One byte over 1.
abbrev pub is_byte_over_one : List ℕ → Bool
is_byte_over_one p = (length p == 1) && nat_lt 1 (slice_index p 0)

-- A number of 4 bytes over 1.
abbrev pub is_u32_over_one : List ℕ → Bool
is_u32_over_one p = (length p == 4) && nat_lt 1 (u32_at 0 p)

-- The payload has a NUL.
abbrev pub has_nul : List ℕ → Bool
has_nul p = list_any (λ b. b == 0) p

-- An alias of 255 bytes that has 256 in the normal text, since a NUL is appended.
abbrev pub is_long_alias : List ℕ → Bool
is_long_alias p = (length p == 255) && not (slice_index p 254 == 0)

-- The quirk of a payload of a link's attribute: IFLA_IFNAME, IFLA_MAP, IFLA_IFALIAS, IFLA_PARENT_DEV_NAME.
unfoldable pub link_quirk : ℕ → List ℕ → Option Quirk
link_quirk k p =
    cond (k == 3) (quirk_if (length p == 0) NameWithoutNul)
    (cond (k == 14) (quirk_if (nat_lt (length p) 32) ShortMap)
    (cond (k == 20) (quirk_if (is_long_alias p) LongAlias)
    (cond (k == 56) (quirk_if (not (has_nul p)) NameWithoutNul) None)))

-- The kinds of flags, which are set by being present: IFLA_VXLAN_GBP, _REMCSUM_NOPARTIAL and _GPE;
-- IFLA_GENEVE_COLLECT_METADATA and _INNER_PROTO_INHERIT; IFLA_GRE_COLLECT_METADATA; IFLA_IPTUN_COLLECT_METADATA;
-- IFLA_BAREUDP_MULTIPROTO_MODE.
abbrev pub is_flag : Data → ℕ → Bool
is_flag Vxlan k = (k == 23) || ((k == 24) || (k == 27))
is_flag Geneve k = (k == 6) || (k == 14)
is_flag Gre k = k == 18
is_flag Gre6 k = k == 18
is_flag IpTunnel k = k == 19
is_flag BareUdp k = k == 4
is_flag _ k = false

-- The quirk of a payload of another kind: IFLA_VXLAN_LOCALBYPASS and _MC_ROUTE, IFLA_GRE_PMTUDISC,
-- IFLA_BATADV_ALGO_NAME, IFLA_NETKIT_SCRUB and _PEER_SCRUB, and a peer after the first attribute of a pair.
abbrev pub value_quirk : Data → ℕ → List ℕ → Option Quirk
value_quirk Vxlan k p = cond ((k == 31) || (k == 34)) (quirk_if (is_byte_over_one p) BooleanOverOne) None
value_quirk Gre k p = cond (k == 10) (quirk_if (is_byte_over_one p) PathDiscoveryOverOne) None
value_quirk Batadv k p = cond (k == 1) (quirk_if (not (has_nul p)) NameWithoutNul) None
value_quirk Netkit k p = cond ((k == 6) || (k == 7)) (quirk_if (is_u32_over_one p) BooleanOverOne) None
value_quirk AfterFirst k p = quirk_if (k == 1) TrailingPeer
value_quirk _ k p = None

-- The quirk of a payload in the data of a kind of link.
abbrev pub data_quirk : Data → ℕ → List ℕ → Option Quirk
data_quirk d k p = cond (is_flag d k) (quirk_if (not (length p == 0)) FlagWithPayload) (value_quirk d k p)

-- The quirk of a payload in a list, by its kind without flag bits.
abbrev pub payload_quirk : Table → ℕ → List ℕ → Option Quirk
payload_quirk Unspec k p = link_quirk k p
payload_quirk Bridge k p = link_quirk k p
payload_quirk Link k p = link_quirk k p
payload_quirk Inet k p = quirk_if ((k == 1) && not (length p == 132)) ResizedSettings
payload_quirk Functions k p = quirk_if (not (k == 1)) UnexpectedFunction
payload_quirk (OfKind d) k p = data_quirk d k p
payload_quirk _ k p = None

-- ---- the nested bit

-- The kinds on which kernels refuse the nested bit: IFLA_VXLAN_LOCALBYPASS, _LABEL_POLICY, _RESERVED_BITS and _MC_ROUTE,
-- and IFLA_GENEVE_INNER_PROTO_INHERIT.
abbrev pub is_strict : Data → ℕ → Bool
is_strict Vxlan k = nat_le 31 k && nat_le k 34
is_strict Geneve k = k == 14
is_strict _ k = false

-- The quirk of the nested bit on a kind of a list: IFLA_PROTINFO of a bridge, IFLA_XDP_EXPECTED_FD, and the strict
-- kinds.
abbrev pub nested_bit_quirk : Table → ℕ → Option Quirk
nested_bit_quirk Bridge k = quirk_if (k == 12) NestedPortSettings
nested_bit_quirk Programs k = quirk_if (k == 8) StrayNestedBit
nested_bit_quirk (OfKind d) k = quirk_if (is_strict d k) StrayNestedBit
nested_bit_quirk _ k = None

-- The quirk of a kind whose nested bit is set.
abbrev pub bit_quirk : Table → ℕ → Option Quirk
bit_quirk t k = cond (nat_le 0x8000 k) (nested_bit_quirk t (proper_kind k)) None

-- ---- the header

-- The quirk of a link's header: its second byte in an RTM_GETLINK, which is 18.
abbrev pub header_quirk : ℕ → List ℕ → Option Quirk
header_quirk t b = quirk_if ((t == 18) && not (slice_index b 1 == 0)) HeaderByte
