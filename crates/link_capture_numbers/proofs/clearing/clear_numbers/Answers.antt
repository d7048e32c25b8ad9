use Rattle.std.proofs.Common.{◌≡◌, true, ◌+◌, ◌-◌, ◌++◌, length, take, drop, min, sym, ap, ◌∙◌, arith}
use borrow.Rule.Slice.PartMut.{put_mid}
use Rattle.netlink_packet_core_grammar.specs.Attributes.{nla_align}
use Rattle.netlink_packet_core_grammar.specs.Frames.{frame_length, begins_with_frame}
use Rattle.link_capture_numbers.specs.Cleared.{first_frame_cleared, numbers_cleared}
use Rattle.link_capture_numbers.proofs.RestOfText.{put_rest, put_mid_rest, kept_size, stepped}
use Rattle.link_capture_numbers.proofs.clearing.clear_numbers.Goals as goal

pub frames-preserved : goal.frames-preserved
frames-preserved c =
    let text = c.frames.text in
    let at = c.frames.at in
    let inside = c.frames.invariant.inside in
    let found = c.in-Some.ensures.some in
    let following = put_mid_rest at text inside in
    let frame : begins_with_frame (drop at text) ≡ true = ap begins_with_frame (sym following) ∙ found.0 in
    let now : put_mid at (length text - at) text c.clear_first_frame.new.bytes ≡ take at text ++ first_frame_cleared (drop at text) =
    put_rest at text c.clear_first_frame.new.bytes inside ∙ ap (λ z. take at text ++ z) (c.clear_first_frame.ensures ∙ ap first_frame_cleared following) in
    let size : length (put_mid at (length text - at) text c.clear_first_frame.new.bytes) ≡ length text = ap length now ∙ kept_size at text inside frame in
    let aligned : c.nla_align.result ≡ nla_align (frame_length (drop at text)) = c.nla_align.ensures ∙ ap nla_align (found.1 ∙ ap frame_length following) in
    let small : c.min-at.result ≡ min c.nla_align.result (length text - at) = c.min-at.ensures ∙ ap (λ k. min c.nla_align.result (k - at)) size in
    record {
      inside = omega (arith, small, size, inside);
      size = size ∙ c.frames.invariant.size;
      done = ap (λ z. take (at + c.min-at.result) z ++ numbers_cleared (drop (at + c.min-at.result) z)) now
          ∙ stepped at c.nla_align.result c.min-at.result text _ inside frame aligned small c.frames.invariant.done;
    }
