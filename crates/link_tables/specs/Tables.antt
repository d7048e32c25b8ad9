-- The tables of the grammar, at the index of their constants in code.
use Rattle.std.specs.Prelude.{◌≡◌, ℕ, ◌==◌, Bool, cond, List, [], ◌∷◌, get_or}
use Rattle.attribute_tables_grammar.specs.LookUps.{payload_rule}
use Rattle.attribute_tables_grammar.specs.Peers.{RuleOfPeers}
use Rattle.attribute_tables_grammar.specs.Rules.{Rule}
use Rattle.attribute_tables_grammar.specs.Shapes.{exact}
use Rattle.attribute_tables_grammar.specs.Tables.{Payload, Table, Table.end}
use Rattle.link_info_grammar.specs.Families.{amt, bareudp, batadv, geneve, gre, gre6, gtp, ip_tunnel, ipoib, ipvlan}
use Rattle.link_info_grammar.specs.Families.{macsec, macvlan, macvlan_address, netkit, pair, rmnet, vrf, vti, vxlan}
use Rattle.link_info_grammar.specs.Families.{wwan, xfrm}
use Rattle.link_message_grammar.specs.LinkMessage.{unspec, bridge, inet_6, other, info, link_table}
use Rattle.link_message_grammar.specs.NestedTables.{devlink_port, dpll_pin, inet, inet6, mctp, props}
use Rattle.link_message_grammar.specs.NestedTables.{protocol_down_reason, specific, vf, vf_infos, vf_ports, vf_stats}
use Rattle.link_message_grammar.specs.NestedTables.{vf_vlans, xdp}
use Rattle.link_tables.specs.declared.rows.Held.{Held}
use Rattle.link_tables.specs.declared.table.Table.{Table as Named}
use Rattle.link_tables.specs.declared.table.TheConstants.{LINK_INFO, LINK_UNSPEC, LINK_BRIDGE, LINK_INET6, LINK_OTHER}
use Rattle.link_tables.specs.declared.rows.TableRows.{TableRows}
use Rattle.link_tables.specs.Rows.{build, payload_of, rows_in, IsIndexed}

-- All tables of the grammar, in the order of the constants. `end` fills the positions of raw attributes and of link
-- info, whose rows depend on the kinds in force.
abbrev pub all_tables : List Table
all_tables =
    xdp ∷ props ∷ protocol_down_reason ∷ devlink_port ∷ dpll_pin ∷ mctp ∷ inet ∷ inet6 ∷ specific ∷ vf_stats ∷
    vf_vlans ∷ vf ∷ vf_infos ∷ vf_ports
    ∷ end ∷ link_table unspec ∷ link_table bridge ∷ link_table inet_6 ∷ link_table other ∷ end
    ∷ amt ∷ bareudp ∷ batadv ∷ geneve ∷ gre ∷ gre6 ∷ gtp ∷ ipoib ∷ ipvlan ∷ ip_tunnel (exact 2) ∷ ip_tunnel (exact 4) ∷
    macvlan ∷ macvlan_address
    ∷ macsec ∷ netkit ∷ pair ∷ rmnet ∷ vrf ∷ wwan ∷ xfrm ∷ vti ∷ vxlan ∷ pair ∷ []

-- The table at this index; a table of raw attributes has no rows.
unfoldable pub table_of : ℕ → Table
table_of n = get_or all_tables n end

-- The payload of IFLA_LINKINFO, by a name that the prover doesn't unfold in goals.
unfoldable pub info_payload : Payload
info_payload = info

-- The grammar's payload for a payload in code.
abbrev pub held_payload : Held → Payload
held_payload held = payload_of table_of info_payload held

-- The rule of a payload in code, under a rule of peers.
abbrev pub held_rule : RuleOfPeers → Held → Rule
held_rule p held = payload_rule p (held_payload held)

-- These are the rows of the table.
pub record AreRowsOf (t : Named) (r : TableRows) : Type 0 where
  pub indexed : IsIndexed r
  pub built : build table_of info_payload (rows_in r) ≡ table_of t.0

-- The table of a link's attributes under an address family.
abbrev pub family_table : ℕ → Named
family_table n = cond (n == 0) LINK_UNSPEC (cond (n == 7) LINK_BRIDGE (cond (n == 10) LINK_INET6 LINK_OTHER))

-- The table is that of link info, whose payloads depend on the kinds in force.
abbrev pub is_link_info : Named → Bool
is_link_info t = t.0 == LINK_INFO.0
