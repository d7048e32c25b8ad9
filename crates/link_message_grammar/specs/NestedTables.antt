-- The tables of the lists inside attributes of link messages: one row a line, in the order of their header, as in
-- `Families`.
use Rattle.std.specs.Prelude.{ℕ}
use Rattle.attribute_tables_grammar.specs.Shapes as shapes
use Rattle.attribute_tables_grammar.specs.Shapes.{exact, text, fixed_record, id_and_boolean}
use Rattle.attribute_tables_grammar.specs.Lists.{any}
use Rattle.attribute_tables_grammar.specs.Tables.{Payload, Payload.plain, Payload.list, Table, Table.end}
use Rattle.attribute_tables_grammar.specs.Rows.{◌↪◌, ◌↠◌, ◌⸴◌, raw_list}

-- A payload of the shape `resized n`, unfolded only by proofs that ask for it, since its rule shows n zeros.
unfoldable pub resized : ℕ → Payload
resized n = plain (shapes.resized n)

-- ---- if_link.h

-- The table of IFLA_PROP_LIST: alternative names of the link, under a kind of IFLA_*.
abbrev pub props : Table
props =
    53 ↪ text ⸴  -- IFLA_ALT_IFNAME
    end

-- The table of IFLA_PROTO_DOWN_REASON: IFLA_PROTO_DOWN_REASON_*.
abbrev pub protocol_down_reason : Table
protocol_down_reason =
    1 ↪ exact 4 ⸴  -- IFLA_PROTO_DOWN_REASON_MASK
    2 ↪ exact 4 ⸴  -- IFLA_PROTO_DOWN_REASON_VALUE
    end

-- The table of IPv4 in IFLA_AF_SPEC: IFLA_INET_*.
abbrev pub inet : Table
inet =
    1 ↠ resized 132 ⸴  -- IFLA_INET_CONF
    end

-- The table of IPv6 in IFLA_AF_SPEC: IFLA_INET6_*.
abbrev pub inet6 : Table
inet6 =
    1 ↪ exact 4 ⸴  -- IFLA_INET6_FLAGS
    2 ↠ resized 236 ⸴  -- IFLA_INET6_CONF
    3 ↠ resized 304 ⸴  -- IFLA_INET6_STATS
    5 ↪ fixed_record 16 16 ⸴  -- IFLA_INET6_CACHEINFO
    6 ↠ resized 56 ⸴  -- IFLA_INET6_ICMP6STATS
    7 ↪ exact 16 ⸴  -- IFLA_INET6_TOKEN
    8 ↪ exact 1 ⸴  -- IFLA_INET6_ADDR_GEN_MODE
    9 ↪ exact 4 ⸴  -- IFLA_INET6_RA_MTU
    end

-- The table of IFLA_VF_STATS: IFLA_VF_STATS_*.
abbrev pub vf_stats : Table
vf_stats =
    0 ↪ exact 8 ⸴  -- IFLA_VF_STATS_RX_PACKETS
    1 ↪ exact 8 ⸴  -- IFLA_VF_STATS_TX_PACKETS
    2 ↪ exact 8 ⸴  -- IFLA_VF_STATS_RX_BYTES
    3 ↪ exact 8 ⸴  -- IFLA_VF_STATS_TX_BYTES
    4 ↪ exact 8 ⸴  -- IFLA_VF_STATS_BROADCAST
    5 ↪ exact 8 ⸴  -- IFLA_VF_STATS_MULTICAST
    7 ↪ exact 8 ⸴  -- IFLA_VF_STATS_RX_DROPPED
    8 ↪ exact 8 ⸴  -- IFLA_VF_STATS_TX_DROPPED
    end

-- The table of IFLA_VF_VLAN_LIST: IFLA_VF_VLAN_*.
abbrev pub vf_vlans : Table
vf_vlans =
    1 ↪ fixed_record 14 16 ⸴  -- IFLA_VF_VLAN_INFO
    end

-- The table of one virtual function, IFLA_VF_INFO: IFLA_VF_*.
abbrev pub vf : Table
vf =
    1 ↪ fixed_record 36 36 ⸴  -- IFLA_VF_MAC
    2 ↪ fixed_record 12 12 ⸴  -- IFLA_VF_VLAN
    3 ↪ fixed_record 8 8 ⸴  -- IFLA_VF_TX_RATE
    4 ↪ id_and_boolean ⸴  -- IFLA_VF_SPOOFCHK
    5 ↪ fixed_record 8 8 ⸴  -- IFLA_VF_LINK_STATE
    6 ↪ fixed_record 12 12 ⸴  -- IFLA_VF_RATE
    7 ↪ id_and_boolean ⸴  -- IFLA_VF_RSS_QUERY_EN
    8 ↠ list any vf_stats ⸴  -- IFLA_VF_STATS
    9 ↪ id_and_boolean ⸴  -- IFLA_VF_TRUST
    12 ↠ list any vf_vlans ⸴  -- IFLA_VF_VLAN_LIST
    13 ↪ fixed_record 32 32 ⸴  -- IFLA_VF_BROADCAST
    end

-- The table of IFLA_VFINFO_LIST: IFLA_VF_INFO_*, of which only kind 1 is kept.
abbrev pub vf_infos : Table
vf_infos =
    1 ↠ list any vf ⸴  -- IFLA_VF_INFO
    end

-- The table of IFLA_VF_PORTS: IFLA_VF_PORT_*, of which only kind 1 is kept.
abbrev pub vf_ports : Table
vf_ports =
    1 ↠ raw_list ⸴  -- IFLA_VF_PORT
    end

-- The table of IFLA_XDP: IFLA_XDP_*.
abbrev pub xdp : Table
xdp =
    1 ↪ exact 4 ⸴  -- IFLA_XDP_FD
    2 ↪ exact 1 ⸴  -- IFLA_XDP_ATTACHED
    3 ↪ exact 4 ⸴  -- IFLA_XDP_FLAGS
    4 ↪ exact 4 ⸴  -- IFLA_XDP_PROG_ID
    5 ↪ exact 4 ⸴  -- IFLA_XDP_DRV_PROG_ID
    6 ↪ exact 4 ⸴  -- IFLA_XDP_SKB_PROG_ID
    7 ↪ exact 4 ⸴  -- IFLA_XDP_HW_PROG_ID
    8 ↪ exact 4 ⸴  -- IFLA_XDP_EXPECTED_FD
    end

-- The table of MCTP in IFLA_AF_SPEC: IFLA_MCTP_*.
abbrev pub mctp : Table
mctp =
    1 ↪ exact 4 ⸴  -- IFLA_MCTP_NET
    2 ↪ exact 1 ⸴  -- IFLA_MCTP_PHYS_BINDING
    end

-- ---- other headers

-- The table of IFLA_DEVLINK_PORT: DEVLINK_ATTR_* (devlink.h).
abbrev pub devlink_port : Table
devlink_port =
    1 ↪ text ⸴  -- DEVLINK_ATTR_BUS_NAME
    2 ↪ text ⸴  -- DEVLINK_ATTR_DEV_NAME
    3 ↪ exact 4 ⸴  -- DEVLINK_ATTR_PORT_INDEX
    end

-- The table of IFLA_DPLL_PIN: DPLL_A_PIN_* (dpll.h).
abbrev pub dpll_pin : Table
dpll_pin =
    1 ↪ exact 4 ⸴  -- DPLL_A_PIN_ID
    end

-- The table of IFLA_AF_SPEC under AF_UNSPEC: a list for each address family, by its number (AF_*, linux/socket.h).
abbrev pub specific : Table
specific =
    2 ↠ list any inet ⸴  -- AF_INET
    10 ↠ list any inet6 ⸴  -- AF_INET6
    45 ↠ list any mctp ⸴  -- AF_MCTP
    end
