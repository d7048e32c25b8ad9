-- one frame further, or a fault
use Rattle.std.proofs.Common.{◌∙◌, ◌<◌, ◌≤◌, ◌^◌, ℕ, Option, Ok, length, sym, ap, subst, arith}
use Rattle.std.proofs.lemmas.Result.{err_from_is_err_and}
use Rattle.link_capture_grammar.specs.Captures.{first_frame}
use Rattle.link_capture_reader.specs.States.{source_state}
use Rattle.link_capture_comparing.specs.Readings.{HasRead}
use Rattle.link_capture_comparing.specs.Sides.{SideState, FindsFrame, IsAtFrame, state_of, offset_of, rest_of}
use Rattle.link_capture_grammar.specs.Body.{link_body}
use Rattle.link_capture_comparing.proofs.Counting.{stops_later}
use Rattle.link_capture_comparing.proofs.Finding.{extends_trans, found_fault, frame_inside, not_memory, passes, passes_offset, whole_not_cut}
use Rattle.link_capture_comparing.proofs.Standing.{fault_at, stuck_fault}
use Rattle.link_capture_comparing.proofs.side.Side.judge_frames.Goals as goal

pub returns-in_err-frame-clause-judged : goal.returns-in_err-frame-clause-judged
returns-in_err-frame-clause-judged g c =
    let p = err_from_is_err_and c.from_residual.result c.from_residual.ensures.1 in
    rw (p.1, p.2) (λ initial s h w.
    let z = c.frames.invariant.so_far initial s h w in
    stops_later initial _ s z.0 c.in_err-frame.field-0.0 z.1.0 (c.in_err-frame.ensures.found initial z.0 z.2 z.3))

pub returns-in-Err-clause-judged : goal.returns-in-Err-clause-judged
returns-in-Err-clause-judged g c = λ initial s h w.
    let r = state_of c.frame.new.self in
    let z = c.frames.invariant.so_far initial s h w in
    let now = source_state g.S.Source.to_come g.S.Source.failures g.S.Source.ends_reported c.frame.new.source in
    let f = subst (λ (o : Option ℕ). FindsFrame initial now (state_of c.frames.self) r z.0 (Ok o)) c.in-Some.is (c.in_ok-frame.ensures.found initial z.0 z.2 z.3) in
    let at = subst (λ (o : Option ℕ). IsAtFrame r o) c.in-Some.is c.in_ok-frame.ensures.frame in
    let stuck = ap (first_frame link_body r.limit) (sym c.rest.ensures) ∙ c.in-Err.ensures.err in
    let more : 0 < length (rest_of r) = omega (arith, at.0.has_header) in
    let found = found_fault initial now (state_of c.frames.self) r (state_of c.fail.new.self) z.0 f.0 c.in-Err.kind (offset_of r) c.fail.ensures f.1 f.2
    (fault_at r.limit f.0 c.in-Err.kind (offset_of r) (not_memory c.in-Err.kind c.in-Err.ensures.of_frames) (stuck_fault c.captures_unfold_by_frames.ensures r.limit f.0 (rest_of r) (offset_of r) c.in-Err.kind f.3 more stuck))
    (λ e. absurd (whole_not_cut c.frames_are_independent.ensures r.limit (rest_of r) c.in-Err.kind at.0 stuck e)) in
    (found.0, extends_trans c.args.self.now.ended c.frames.self.ended s z.0 found.0 c.frames.invariant.ended z.1 found.1, found.2, found.3)

pub frames-smaller : goal.frames-smaller
frames-smaller g c =
    let r = state_of c.frame.new.self in
    let at = subst (λ (o : Option ℕ). IsAtFrame r o) c.in-Some.is c.in_ok-frame.ensures.frame in
    let more : 0 < length (rest_of r) = omega (arith, at.0.has_header) in
    let far = passes_offset r (state_of c.pass.new.self) c.in-Ok.measured.len c.pass.ensures in
    let inside = frame_inside r more c.frame.ensures.inside in
    omega (arith, far, inside, c.frame.ensures.offset, c.frame.ensures.counted, c.in-Ok.ensures.bounds.0)

pub frames-preserved : goal.frames-preserved
frames-preserved g c =
    let r = state_of c.frame.new.self in
    let now = source_state g.S.Source.to_come g.S.Source.failures g.S.Source.ends_reported c.frame.new.source in
    let at = subst (λ (o : Option ℕ). IsAtFrame r o) c.in-Some.is c.in_ok-frame.ensures.frame in
    let ok = c.in-Ok.ensures.ok in
    let first = ap (first_frame link_body r.limit) (sym c.rest.ensures) ∙ ok.is in
    let more : 0 < length (rest_of r) = omega (arith, at.0.has_header) in
    record {
      inside = subst (λ (z : SideState). length z.window ≤ z.read) (sym c.pass.ensures) c.frame.ensures.inside;
      counted = subst (λ (z : SideState). z.read < 2 ^ 64) (sym c.pass.ensures) c.frame.ensures.counted;
      unjudged = ap (λ (z : SideState). z.fault) c.pass.ensures ∙ at.3;
      limit = ap (λ (z : SideState). z.limit) c.pass.ensures ∙ c.frame.ensures.limit ∙ c.frames.invariant.limit;
      ended = λ e. ap (λ (z : SideState). z.ended) c.pass.ensures ∙ c.frame.ensures.ended (c.frames.invariant.ended e);
      so_far = λ initial s h w.
          let z = c.frames.invariant.so_far initial s h w in
          let f = subst (λ (o : Option ℕ). FindsFrame initial now (state_of c.frames.self) r z.0 (Ok o)) c.in-Some.is (c.in_ok-frame.ensures.found initial z.0 z.2 z.3) in (
            f.0,
            extends_trans c.args.self.now.ended c.frames.self.ended s z.0 f.0 c.frames.invariant.ended z.1 f.1,
            subst (λ (y : SideState). HasRead initial now y.ended y.read f.0) (sym c.pass.ensures) f.2,
            passes c.captures_unfold_by_frames.ensures c.frames_are_independent.ensures r (state_of c.pass.new.self) f.0 (c.in-Ok.measured.len, ok.text) c.pass.ensures f.3 more first,
          );
    }
