use Rattle.std.proofs.Common.{refl, sym, ap, ◌∙◌}
use Rattle.netlink_packet_core.specs.Frames.{frame_length}
use Rattle.link_capture_checks.proofs.Steps.{of_one_bytes}
use Rattle.link_capture_checks.proofs.sameness.is_same_frame.Goals as goal

pub returns-then-eq : goal.returns-then-eq
returns-then-eq c =
    let frame = of_one_bytes c.sameness_unfolds_by_frames.ensures c.args.limit c.args.left.now c.args.right.now c.length-len.result c.requires
    (c.length-len.ensures ∙ ap (λ v. frame_length v.now) c.new.ensures) (sym c.eq.ensures ∙ c.if-eq.true) in
    (λ _. frame, λ _. refl)

pub same_frame-requires-clause-right : goal.same_frame-requires-clause-right
same_frame-requires-clause-right c = c.sameness_unfolds_by_frames.ensures.judged c.args.limit c.args.right.now _ c.in-Ok.ensures.ok.is

pub returns-in-Ok : goal.returns-in-Ok
returns-in-Ok c = (
  λ h. (c.sameness_unfolds_by_frames.ensures.judged c.args.limit c.args.right.now _ c.in-Ok.ensures.ok.is, c.same_frame.ensures.0 h),
  λ s. c.same_frame.ensures.1 s.1,
)

pub returns-in-Err : goal.returns-in-Err
returns-in-Err c = (λ h. absurd cc, λ s. absurd (cc (s.0.is, c.in-Err.ensures.err)))
