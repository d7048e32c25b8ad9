use Rattle.std.proofs.Common.{◌++◌, ◌-◌, length, sym, ap, ◌∙◌, arith}
use Rattle.std.proofs.lemmas.List.{length-append}
use Rattle.netlink_packet_core_grammar.specs.Attributes.{nla_align, zeros}
use Rattle.netlink_packet_core.specs.Messages.{unpadded_text}
use Rattle.link_capture_checks.specs.Measures.{text_or_empty}
use Rattle.link_capture_checks.proofs.Written.{unpadded_size, with_padding}
use Rattle.link_capture_checks.proofs.frames.push_frame.Goals as goal

pub write_unpadded-requires-clause-capacity : goal.write_unpadded-requires-clause-capacity
write_unpadded-requires-clause-capacity c =
    let ok = c.in_ok-len.ensures.ok in
    let capacity = c.in-Ok.ensures.ok in
    let len = c.reserve.new.self.ok.0 in
    omega (arith, ok.aligned, capacity, len)

pub append_padding-requires : goal.append_padding-requires
append_padding-requires c =
    let ok = c.in_ok-len.ensures.ok in
    let text = ap text_or_empty ok.judged in
    let written = ap length (c.write_unpadded.ensures.text ∙ ap (λ x. c.reserve.new.self.items ++ unpadded_text c.args.bytes.now x) text) ∙ length-append c.reserve.new.self.items (unpadded_text c.args.bytes.now ok.body) in
    omega (arith, written, unpadded_size c.args.bytes.now ok.body ok.whole, ok.size, ok.aligned, c.in-Ok.ensures.ok, c.reserve.new.self.ok.0, c.write_unpadded.ensures.capacity)

pub returns-clause-ok : goal.returns-clause-ok
returns-clause-ok c =
    let ok = c.in_ok-len.ensures.ok in
    let bytes = c.args.bytes.now in
    let size = c.in_ok-len.field-0.size in
    let written = c.write_unpadded.ensures.text ∙ ap (λ x. c.reserve.new.self.items ++ unpadded_text bytes x) (ap text_or_empty ok.judged) ∙ ap (λ x. x ++ unpadded_text bytes ok.body) c.in-Ok.ensures.items in (
      ok.text,
      ok.is,
      c.append_padding.ensures.text
          ∙ ap (λ x. x ++ zeros (nla_align size - size)) written
          ∙ with_padding bytes ok.body c.args.out.now.items size ok.size
          ∙ ap (λ x. c.args.out.now.items ++ x) (sym ok.written),
    )
