use Rattle.std.proofs.Common.{◌≡◌, ◌++◌, length, drop, ap, ◌∙◌, arith}
use Rattle.netlink_packet_core.specs.Lists.{text_by, size_by}
use Rattle.attribute_tables.proofs.Lists.{length-text_by}
use Rattle.link_message_types.specs.Headers.{link_header_bytes}
use Rattle.link_message_attributes.specs.LinkAttributes.{link_attribute_entry}
use Rattle.link_message.proofs.Texts.{header_only, header_then}
use Rattle.link_message.proofs.message.LinkMessageEmitable.emit.Goals as goal

pub returns : goal.returns
returns c =
    let h = link_header_bytes c.args.self.now.header in
    let vs = c.args.self.now.attributes.items in
    let t = text_by link_attribute_entry vs in
    let n = size_by link_attribute_entry vs in
    let size : length h ≡ 16 = c.headers_are_sixteen_bytes.ensures c.args.self.now.header in
    let prefix : length c.split_at_mut-header.result.0.now ≡ length h = omega (arith, size, c.split_at_mut-header.ensures.front_len) in
    let header : c.emit.new.buffer ≡ h = c.emit.ensures ∙ header_only h c.split_at_mut-header.result.0.now prefix in
    let list : c.emit_all.new.buffer ≡ t ++ drop n (drop 16 c.args.buffer.now) = cc in
    ap (λ x. x ++ c.emit_all.new.buffer) header ∙ ap (λ x. h ++ x) list ∙ header_then h t c.args.buffer.now n size (length-text_by link_attribute_entry vs)
