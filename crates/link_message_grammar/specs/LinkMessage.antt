-- The tables of link messages (IFLA_*, if_link.h), by the address family of the message: one row a line, in the order
-- of the header, as in `Families`.
use Rattle.std.specs.Prelude.{◌≡◌, ℕ, ◌==◌, false, cond, Option, Some, None}
use Rattle.attribute_tables_grammar.specs.Shapes.{exact, text, raw, fixed_record}
use Rattle.attribute_tables_grammar.specs.Lists.{any, non_empty, of_kind_one, ports}
use Rattle.attribute_tables_grammar.specs.LookUps.{Line, line_at}
use Rattle.attribute_tables_grammar.specs.Tables.{Payload, Payload.plain, Payload.list, Payload.link_info}
use Rattle.attribute_tables_grammar.specs.Tables.{Table, Table.end}
use Rattle.attribute_tables_grammar.specs.Rows.{◌↪◌, ◌↠◌, ◌⇉◌, ◌⸴◌, raw_list}
use Rattle.link_info_grammar.specs.Families.{kinds, port_kinds}
use Rattle.link_message_grammar.specs.NestedTables.{resized, props, protocol_down_reason, vf_infos, vf_ports, xdp}
use Rattle.link_message_grammar.specs.NestedTables.{devlink_port, dpll_pin, specific}

-- The address families whose tables differ.
pub data Family : Type 0 where
  unspec bridge inet_6 other : Family

-- The family of an address family's number: AF_UNSPEC, AF_BRIDGE, AF_INET6, or any other.
abbrev pub family_of : ℕ → Family
family_of n = cond (n == 0) unspec (cond (n == 7) bridge (cond (n == 10) inet_6 other))

-- The payload of IFLA_LINKINFO: link info, with at least one attribute.
abbrev pub info : Payload
info = link_info non_empty kinds port_kinds

-- The payload of IFLA_AF_SPEC: a list for each address family, the attributes of a bridge, or else bytes.
abbrev pub family_payload : Family → Payload
family_payload unspec = list any specific
family_payload bridge = raw_list
family_payload inet_6 = plain raw
family_payload other = plain raw

-- The line of IFLA_PROTINFO: raw attributes for bridges and for IPv6; under any other family the kind has no row.
abbrev pub protocol_line : Family → Option Line
protocol_line unspec = None
protocol_line bridge = Some (record { is_nested = false; payload = raw_list })
protocol_line inet_6 = Some (record { is_nested = false; payload = raw_list })
protocol_line other = None

-- The row of IFLA_PROTINFO, if the family has one, and the rows after it.
abbrev pub with_protocol : Family → Table → Table
with_protocol unspec t = t
with_protocol bridge t =
    12 ↠ raw_list ⸴  -- IFLA_PROTINFO
    t
with_protocol inet_6 t =
    12 ↠ raw_list ⸴  -- IFLA_PROTINFO
    t
with_protocol other t = t

-- The rows before IFLA_PROTINFO, followed by others.
abbrev pub before_protinfo : Table → Table
before_protinfo t =
    1 ↪ raw ⸴  -- IFLA_ADDRESS
    2 ↪ raw ⸴  -- IFLA_BROADCAST
    3 ↪ text ⸴  -- IFLA_IFNAME
    4 ↪ exact 4 ⸴  -- IFLA_MTU
    5 ↪ exact 4 ⸴  -- IFLA_LINK
    6 ↪ text ⸴  -- IFLA_QDISC
    7 ↠ resized 96 ⸴  -- IFLA_STATS
    10 ↪ exact 4 ⸴  -- IFLA_MASTER
    t

-- The rows after IFLA_PROTINFO.
abbrev pub after_protinfo : Family → Table
after_protinfo f =
    13 ↪ exact 4 ⸴  -- IFLA_TXQLEN
    14 ↪ fixed_record 28 32 ⸴  -- IFLA_MAP
    16 ↪ exact 1 ⸴  -- IFLA_OPERSTATE
    17 ↪ exact 1 ⸴  -- IFLA_LINKMODE
    18 ↠ info ⸴  -- IFLA_LINKINFO
    19 ↪ exact 4 ⸴  -- IFLA_NET_NS_PID
    20 ↪ text ⸴  -- IFLA_IFALIAS
    21 ↪ exact 4 ⸴  -- IFLA_NUM_VF
    22 ↠ list of_kind_one vf_infos ⸴  -- IFLA_VFINFO_LIST
    23 ↠ resized 200 ⸴  -- IFLA_STATS64
    24 ↠ list ports vf_ports ⸴  -- IFLA_VF_PORTS
    25 ↠ raw_list ⸴  -- IFLA_PORT_SELF
    26 ↠ family_payload f ⸴  -- IFLA_AF_SPEC
    27 ↪ exact 4 ⸴  -- IFLA_GROUP
    28 ↪ exact 4 ⸴  -- IFLA_NET_NS_FD
    29 ↪ exact 4 ⸴  -- IFLA_EXT_MASK
    30 ↪ exact 4 ⸴  -- IFLA_PROMISCUITY
    31 ↪ exact 4 ⸴  -- IFLA_NUM_TX_QUEUES
    32 ↪ exact 4 ⸴  -- IFLA_NUM_RX_QUEUES
    33 ↪ exact 1 ⸴  -- IFLA_CARRIER
    34 ↪ raw ⸴  -- IFLA_PHYS_PORT_ID
    35 ↪ exact 4 ⸴  -- IFLA_CARRIER_CHANGES
    36 ↪ raw ⸴  -- IFLA_PHYS_SWITCH_ID
    37 ↪ exact 4 ⸴  -- IFLA_LINK_NETNSID
    38 ↪ text ⸴  -- IFLA_PHYS_PORT_NAME
    39 ↪ exact 1 ⸴  -- IFLA_PROTO_DOWN
    40 ↪ exact 4 ⸴  -- IFLA_GSO_MAX_SEGS
    41 ↪ exact 4 ⸴  -- IFLA_GSO_MAX_SIZE
    43 ↠ list any xdp ⸴  -- IFLA_XDP
    44 ↪ exact 4 ⸴  -- IFLA_EVENT
    45 ↪ exact 4 ⸴  -- IFLA_NEW_NETNSID
    46 ↪ exact 4 ⸴  -- IFLA_IF_NETNSID
    47 ↪ exact 4 ⸴  -- IFLA_CARRIER_UP_COUNT
    48 ↪ exact 4 ⸴  -- IFLA_CARRIER_DOWN_COUNT
    49 ↪ exact 4 ⸴  -- IFLA_NEW_IFINDEX
    50 ↪ exact 4 ⸴  -- IFLA_MIN_MTU
    51 ↪ exact 4 ⸴  -- IFLA_MAX_MTU
    52 ⇉ list any props ⸴  -- IFLA_PROP_LIST
    54 ↪ raw ⸴  -- IFLA_PERM_ADDRESS
    55 ⇉ list any protocol_down_reason ⸴  -- IFLA_PROTO_DOWN_REASON
    56 ↪ text ⸴  -- IFLA_PARENT_DEV_NAME
    57 ↪ text ⸴  -- IFLA_PARENT_DEV_BUS_NAME
    58 ↪ exact 4 ⸴  -- IFLA_GRO_MAX_SIZE
    59 ↪ exact 4 ⸴  -- IFLA_TSO_MAX_SIZE
    60 ↪ exact 4 ⸴  -- IFLA_TSO_MAX_SEGS
    61 ↪ exact 4 ⸴  -- IFLA_ALLMULTI
    62 ⇉ list any devlink_port ⸴  -- IFLA_DEVLINK_PORT
    63 ↪ exact 4 ⸴  -- IFLA_GSO_IPV4_MAX_SIZE
    64 ↪ exact 4 ⸴  -- IFLA_GRO_IPV4_MAX_SIZE
    65 ⇉ list any dpll_pin ⸴  -- IFLA_DPLL_PIN
    end

-- The table of IFLA_* under a family; a kind that isn't listed is a raw attribute.
abbrev pub link_table : Family → Table
link_table f = before_protinfo (with_protocol f (after_protinfo f))

-- The row of a kind without its flag bits. IFLA_PROTINFO, which only some families list, is looked up separately.
abbrev pub link_line : Family → ℕ → Option Line
link_line f k = cond (k == 12) (protocol_line f) (line_at (before_protinfo (after_protinfo f)) k)

-- No row of the table is that kind's.
abbrev pub HasNoLinkRow : Family → ℕ → Type 0
HasNoLinkRow f k = link_line f k ≡ None
