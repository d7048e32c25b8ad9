use Rattle.std.proofs.Common.{◌≡◌, ◌-◌, true, false, length, sym, ap, ◌∙◌, arith, length-drop}
use Rattle.netlink_packet_core_grammar.specs.Attributes.{nla_align}
use Rattle.netlink_packet_core.specs.Frames.{frame_length}
use Rattle.linkcap_c.proofs.Apart.{some_bytes, no_bytes, further, frames_differ, left_longer, left_ended}
use Rattle.linkcap_c.proofs.numbers.same_but_numbers.Goals as goal
use Rattle.linkcap_c.proofs.numbers.same_but_numbers.Goals.{then-is_empty-via-then-is_empty, then-is_empty-via-else-is_empty+then-not-same_frame}

pub same_frame-requires-clause-left : goal.same_frame-requires-clause-left
same_frame-requires-clause-left c =
    c.sameness_unfolds_by_frames.ensures.leading c.args.limit c.frames.left.now c.frames.invariant.left_legal (some_bytes c.frames.left.now c.is_empty.result c.frames-test.true c.is_empty.ensures)

pub same_frame-requires-clause-right : goal.same_frame-requires-clause-right
same_frame-requires-clause-right c =
    c.sameness_unfolds_by_frames.ensures.leading c.args.limit c.frames.right.now c.frames.invariant.right_legal (some_bytes c.frames.right.now c.is_empty-in-frames.result c.if-is_empty.false c.is_empty-in-frames.ensures)

pub returns-then-is_empty : goal.returns-then-is_empty
returns-then-is_empty c =
    let law = c.sameness_unfolds_by_frames.ensures in
    let cleared = c.cleared_captures_have_cleared_texts.ensures in
    let a = c.frames.left.now in
    let b = c.frames.right.now in
    let w = c.frames.invariant in
    let p = law.leading c.args.limit a w.left_legal (some_bytes a c.is_empty.result c.frames-test.true c.is_empty.ensures) in
    elim c.then-is_empty.branch [
      | then-is_empty-via-then-is_empty v ↦ (
        λ h. absurd (let z : false ≡ true = h in cc),
        λ s. absurd (left_longer law cleared c.args.limit c.ranges.limit.fits c.args.left.now c.args.right.now a b w p (no_bytes b c.is_empty-in-frames.result v.if-is_empty.true c.is_empty-in-frames.ensures) s),
      )
      | then-is_empty-via-else-is_empty+then-not-same_frame v ↦ (
        λ h. absurd (let z : false ≡ true = h in cc),
        λ s. absurd (
            let q = law.leading c.args.limit b w.right_legal (some_bytes b c.is_empty-in-frames.result v.if-is_empty.false c.is_empty-in-frames.ensures) in
            frames_differ law cleared c.args.limit c.ranges.limit.fits c.args.left.now c.args.right.now a b w p q (λ t. let z : true ≡ false = sym (v.same_frame.ensures.1 t) ∙ v.if-not-same_frame.true in absurd cc) s
            ),
      )
    ]

pub rest_after_frame-left-requires : goal.rest_after_frame-left-requires
rest_after_frame-left-requires c =
    (c.sameness_unfolds_by_frames.ensures.leading c.args.limit c.frames.left.now c.frames.invariant.left_legal (some_bytes c.frames.left.now c.is_empty.result c.frames-test.true c.is_empty.ensures)).frame

pub rest_after_frame-right-requires : goal.rest_after_frame-right-requires
rest_after_frame-right-requires c =
    (c.sameness_unfolds_by_frames.ensures.leading c.args.limit c.frames.right.now c.frames.invariant.right_legal (some_bytes c.frames.right.now c.is_empty-in-frames.result c.if-is_empty.false c.is_empty-in-frames.ensures)).frame

pub frames-smaller : goal.frames-smaller
frames-smaller c =
    let a = c.frames.left.now in
    let p = c.sameness_unfolds_by_frames.ensures.leading c.args.limit a c.frames.invariant.left_legal (some_bytes a c.is_empty.result c.frames-test.true c.is_empty.ensures) in
    let size : length c.rest_after_frame-left.result.now ≡ length a - nla_align (frame_length a) = ap length c.rest_after_frame-left.ensures ∙ length-drop (nla_align (frame_length a)) a in
    omega (arith, size, p.frame.covers_header, p.frame.within)

pub frames-preserved : goal.frames-preserved
frames-preserved c =
    let law = c.sameness_unfolds_by_frames.ensures in
    let a = c.frames.left.now in
    let b = c.frames.right.now in
    let w = c.frames.invariant in
    let p = law.leading c.args.limit a w.left_legal (some_bytes a c.is_empty.result c.frames-test.true c.is_empty.ensures) in
    let q = law.leading c.args.limit b w.right_legal (some_bytes b c.is_empty-in-frames.result c.if-is_empty.false c.is_empty-in-frames.ensures) in
    further law c.cleared_captures_have_cleared_texts.ensures c.args.limit c.ranges.limit.fits c.args.left.now c.args.right.now a b w p q (c.same_frame.ensures.0 c.if-not-same_frame.false) c.rest_after_frame-left.result.now c.rest_after_frame-right.result.now c.rest_after_frame-left.ensures c.rest_after_frame-right.ensures

pub returns : goal.returns
returns c =
    let a = c.frames.left.now in
    let b = c.frames.right.now in
    left_ended c.sameness_unfolds_by_frames.ensures c.cleared_captures_have_cleared_texts.ensures c.args.limit c.ranges.limit.fits c.args.left.now c.args.right.now a b c.frames.invariant (no_bytes a c.is_empty.result c.frames-test.false c.is_empty.ensures) c.is_empty-2.result c.is_empty-2.ensures
