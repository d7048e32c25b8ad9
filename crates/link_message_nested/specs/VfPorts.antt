-- Ports of virtual functions: each value is the attribute that it keeps.
use Rattle.std.specs.Prelude.{◌≡◌, ◌&&◌, ℕ, Bool, true, false, List, Some}
use Rattle.netlink_packet_core.specs.Attributes.{Attribute}
use Rattle.netlink_packet_core.specs.AttributeViews.{viewed_attribute, viewed_payload}
use Rattle.netlink_packet_core.specs.Families.{attribute, family_row}
use Rattle.netlink_packet_core.specs.Lists.{text_by, all_fit_by}
use Rattle.attribute_tables_grammar.specs.Lists.{Row, is_of_kind_one, canonical_form}
use Rattle.attribute_tables_grammar.specs.LookUps.{row_of_line}
use Rattle.attribute_tables_grammar.specs.Peers.{bytes_peer}
use Rattle.attribute_tables_grammar.specs.Rows.{raw_list}
use Rattle.attribute_tables_grammar.specs.Tables.{Table.end}
use Rattle.attribute_tables.specs.Beginnings.{begins_accepted, entries_begin_readable}
use Rattle.link_message_nested.specs.declared.vf_port.VfPort.{VfPort}
use Rattle.link_message_nested.specs.declared.vf_port.LinkVfPort.{LinkVfPort}
use Rattle.link_message_nested.specs.declared.vf_port.VfPort.TheVariants.{Other}

-- The kind and the payload of an attribute of a port.
abbrev pub vf_port_entry : VfPort → Attribute
vf_port_entry (Other a) = a

-- The kind and the payload of a port.
abbrev pub link_vf_port_entry : LinkVfPort → Attribute
link_vf_port_entry v = attribute 1 (text_by vf_port_entry v.0.items)

-- Each length inside a port fits the 2 bytes of its header.
abbrev pub link_vf_port_fits : LinkVfPort → Bool
link_vf_port_fits v = all_fit_by vf_port_entry (λ _. true) v.0.items

-- The row of a port in the list: a list of raw attributes.
abbrev pub vf_port_row : Row
vf_port_row = row_of_line bytes_peer (Some (record { is_nested = false; payload = raw_list }))

-- The bytes begin with a port: an attribute of kind 1 that holds a list.
abbrev pub is_vf_port : List ℕ → Bool
is_vf_port b = is_of_kind_one (viewed_attribute b) && vf_port_row.rule.accepted (viewed_payload b)

-- The value is read from the attribute at the start of the bytes.
abbrev pub IsVfPortOf : List ℕ → LinkVfPort → Type 0
IsVfPortOf b v =
    (link_vf_port_entry v ≡ canonical_form vf_port_row (viewed_attribute b))
    × (link_vf_port_fits v ≡ vf_port_row.rule.fits (viewed_payload b))

-- The first port of a list is accepted, or its first attribute is.
unfoldable pub vf_ports_begin_readable : List ℕ → Bool
vf_ports_begin_readable b = entries_begin_readable vf_port_row (begins_accepted (family_row end)) b
