use Rattle.std.proofs.Common.{◌≡◌, map, Some}
use Rattle.attribute_tables_grammar.specs.Lists.{any, without_context}
use Rattle.attribute_tables_grammar.specs.Readings.{reading_as}
use Rattle.attribute_tables.specs.Written.{written_as}
use Rattle.link_message_grammar.specs.Body.{attribute_bytes, attribute_row, family, link_peer}
use Rattle.link_message_types.specs.AddressFamilies.{table_family}
use Rattle.link_message_attributes.specs.LinkAttributes.{link_attribute_entry, link_attribute_fits}
use Rattle.link_message.proofs.Bodies.{body-family, body-empty_ports}
use Rattle.link_message.proofs.message.LinkMessage.parse.Goals as goal

pub returns-clause-empty_ports : goal.returns-clause-empty_ports
returns-clause-empty_ports c =
    let b = c.args.bytes.now in
    let f = table_family c.in_ok-header.header.interface_family in
    let vs = c.in_ok-attributes.attributes.items in
    let named : f ≡ family b = body-family b _ c.in_ok-header.ensures.family in
    let read : reading_as any (without_context (attribute_row link_peer f)) (attribute_bytes b) ≡ Some (map (written_as link_attribute_entry link_attribute_fits) vs) = rw c.split_at.ensures.back at c.in_ok-attributes.ensures.read in
    body-empty_ports c.bodies_are_headers_and_attributes.ensures c.empty_ports_are_determined.ensures b f named vs read
