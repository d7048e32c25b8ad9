use Rattle.std.proofs.Common.{◌∙◌, ap, arith, rules}
use Rattle.netlink_packet_core.specs.Numbers.{le2}
use Rattle.link_message_types.specs.LinkLayerTypes.{link_layer_type_number, link_layer_type_of}
use Rattle.link_message_types.proofs.HeaderBytes.{number_of, layer_bytes, header_text_of}
use Rattle.link_message_types.proofs.header.LinkHeader.parse.Goals as goal

pub returns-clause-text : goal.returns-clause-text
returns-clause-text c =
    let layer = ap (λ t. le2 (link_layer_type_number t)) c.from-2.ensures.named ∙ layer_bytes c.in_ok-parse_u16.field-0 c.args.bytes.now (search rules) (omega arith) c.in_ok-parse_u16.ensures.ok in
    header_text_of _ c.args.bytes.now (omega arith) c.from.ensures.keeps_the_number layer c.in_ok-parse_u32.ensures.ok (search rules) (search rules)

pub returns-clause-layer_type : goal.returns-clause-layer_type
returns-clause-layer_type c = c.from-2.ensures.named ∙ ap link_layer_type_of (number_of c.in_ok-parse_u16.field-0 _ (search rules) c.in_ok-parse_u16.ensures.ok)
