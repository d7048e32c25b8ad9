use Rattle.std.proofs.Common.{◌≡◌, ◌++◌, ◌∷◌, codes, decimal, ap, refl, ◌∙◌}
use Rattle.netlink_packet_core_grammar.specs.Numbers.{u32_at}
use Rattle.link_lines_values.proofs.Appending.{added, as_text, last, start, step}
use Rattle.link_lines_texts.specs.Frames.{header_line, request_line}
use Rattle.link_lines_texts.specs.Links.{labelled}
use Rattle.link_lines_texts.proofs.frames.push_request.Goals as goal

pub returns : goal.returns
unfolding request_line
returns c =
    let header = c.args.header.now in
    let size : c.length.result ≡ u32_at 0 header = c.length.ensures ∙ ap (λ b. u32_at 0 b.now) c.new.ensures in
    let text : labelled (codes "  request length ") (decimal c.length.result) ++ (32 ∷ header_line c.args.numbers header) ≡ request_line c.args.numbers header =
    λ t. labelled (codes "  request length ") (decimal (size t)) ++ (32 ∷ header_line c.args.numbers header) in
    let first = step _ (start c.args.out.now _) c.in_ok-push_labelled_decimal.ensures refl in
    let e = c.in_ok-extend_from_slice.ensures in
    let second = added c.extend_from_slice.new.self _ _ first e.items e.capacity refl in
    as_text text (last c.push_header.result second c.push_header.ensures)
