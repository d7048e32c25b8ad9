use Rattle.std.proofs.Common.{◌≡◌, ◌+◌, ◌++◌, length, take, ap, sym, ◌∙◌, arith}
use Rattle.netlink_packet_core.specs.Frames.{frame_length}
use Rattle.netlink_packet_core.specs.Messages.{unpadded_text}
use Rattle.link_capture_checks.specs.Measures.{text_or_empty}
use Rattle.link_capture_checks.proofs.Written.{canonical_frame_text, frame_size}
use Rattle.link_capture_checks.proofs.frames.write_unpadded.Goals as goal

pub returns-then-is_canonical-clause-text : goal.returns-then-is_canonical-clause-text
returns-then-is_canonical-clause-text c =
    let bytes = c.args.bytes.now in
    let out = c.args.out.now.items in
    let text = ap text_or_empty (c.requires.canonical c.if-is_canonical.true) in
    let size : c.args.size ≡ frame_length bytes = c.requires.size ∙ ap (λ x. 16 + length x) text ∙ sym (frame_size bytes c.requires.frame) in
    c.append.ensures.text
    ∙ ap (λ n. out ++ take n bytes) size
    ∙ ap (λ x. out ++ x) (canonical_frame_text bytes c.requires.frame (λ i. let b = c.type_inv.bytes i in omega (arith, b)))
    ∙ ap (λ x. out ++ unpadded_text bytes x) (sym text)
