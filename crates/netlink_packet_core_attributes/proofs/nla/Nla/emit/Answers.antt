use Rattle.std.proofs.lemmas.Bool.{and_parts, leb-true}
use Rattle.netlink_packet_core_grammar.specs.Attributes.{attribute_length}
use Rattle.netlink_packet_core_attributes.proofs.Headers.{header_and_payload}
use Rattle.netlink_packet_core_attributes.proofs.nla.Nla.emit.Goals as goal

pub returns : goal.returns
returns g c =
    let e = g.Self.Nla.entry c.args.self.now in
    let fits = leb-true (attribute_length e) 65535 (and_parts _ _ c.requires.fits).0 in
    header_and_payload e c.kind.result c.value_len-size.result c.args.buffer.now c.emit_header.new.buffer c.emit_value.new.buffer fits c.requires.capacity c.kind.ensures c.value_len-size.ensures c.emit_header.ensures c.emit_value.ensures
