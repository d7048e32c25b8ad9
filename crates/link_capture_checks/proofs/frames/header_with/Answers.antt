use Rattle.std.proofs.Common.{◌++◌, drop, ap, ◌∙◌}
use Rattle.std.proofs.lemmas.List.{drop-take}
use Rattle.netlink_packet_core_grammar.proofs.Numbers.{le4-bytes}
use Rattle.link_capture_checks.proofs.frames.header_with.Goals as goal

pub returns : goal.returns
returns c =
    let length = c.copy_from_slice-2.ensures.after ∙ c.to_le_bytes.ensures ∙ le4-bytes c.args.size c.ranges.size.fits in
    let rest = ap (drop 4) c.copy_from_slice.ensures.after ∙ drop-take 4 12 c.args.bytes.now in
    λ i. length i ++ rest i
