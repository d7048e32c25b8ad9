-- how the sides part, or one frame of each further
use Rattle.std.proofs.Common.{◌∙◌, ◌<◌, ◌≤◌, ◌^◌, ◌++◌, ℕ, List, [], Option, length, take, sym, ap, subst, arith}
use Rattle.link_capture_grammar.specs.Same.{SameCapture}
use Rattle.link_capture_grammar.specs.Captures.{texts}
use Rattle.link_capture_reader.specs.States.{source_state}
use Rattle.link_capture_comparing.specs.Comparisons.{sources_of}
use Rattle.link_capture_comparing.specs.Readings.{HasRead}
use Rattle.link_capture_comparing.specs.Sides.{SideState, IsAtFrame, HasStoppedOrPassed, state_of, offset_of, rest_of}
use Rattle.link_capture_grammar.specs.Body.{link_body}
use Rattle.link_capture_comparing.proofs.Deciding.{Alike, parting_first, parting_second, new_read, new_stands, new_texts, right_has_ended, frames_differ, grown, left_stopped, passes_on}
use Rattle.link_capture_comparing.proofs.Finding.{at_frame_judged, frame_inside, passes_offset, stopped_judged}
use Rattle.link_capture_comparing.proofs.Together.{Laws}
use Rattle.link_capture_comparing.proofs.sources.part.Goals as goal

pub frames-init : goal.frames-init
frames-init g c =
    let l = c.requires.left in
    let r = c.requires.right in
    record {
      left_inside = subst (λ (z : SideState). length z.window ≤ z.read) (sym l) (omega arith);
      left_counted = subst (λ (z : SideState). z.read < 2 ^ 64) (sym l) (omega arith);
      left_unjudged = ap (λ (z : SideState). z.fault) l;
      left_limit = ap (λ (z : SideState). z.limit) l;
      right_inside = subst (λ (z : SideState). length z.window ≤ z.read) (sym r) (omega arith);
      right_counted = subst (λ (z : SideState). z.read < 2 ^ 64) (sym r) (omega arith);
      right_unjudged = ap (λ (z : SideState). z.fault) r;
      right_limit = ap (λ (z : SideState). z.limit) r;
      so_far = ([], [], new_read _ (state_of c.args.left.now) c.args.limit l, new_read _ (state_of c.args.right.now) c.args.limit r, new_stands (state_of c.args.left.now) c.args.limit l, new_stands (state_of c.args.right.now) c.args.limit r, new_texts (state_of c.args.left.now) (state_of c.args.right.now) c.args.limit l r);
    }

pub returns-in-Err-clause-unread : goal.returns-in-Err-clause-unread
returns-in-Err-clause-unread g c =
    let q = sources_of (source_state g.S.Source.to_come g.S.Source.failures g.S.Source.ends_reported) (source_state g.T.Source.to_come g.T.Source.failures g.T.Source.ends_reported)
    c.args.left_source.now c.frame.new.source c.args.right_source.now c.frames.right_source in
    let z = c.frames.invariant.so_far in
    parting_first q (state_of c.frame.new.self) z.0 z.1 c.of_first.result c.in-Err.fault c.of_first.ensures (c.in-Err.ensures.found q.left_before z.0 z.2 z.4) z.3.bytes

pub returns-in-Err-frame-clause-unread : goal.returns-in-Err-frame-clause-unread
returns-in-Err-frame-clause-unread g c =
    let q = sources_of (source_state g.S.Source.to_come g.S.Source.failures g.S.Source.ends_reported) (source_state g.T.Source.to_come g.T.Source.failures g.T.Source.ends_reported)
    c.args.left_source.now c.frame.new.source c.args.right_source.now c.frame-in-frames.new.source in
    let z = c.frames.invariant.so_far in
    let l = state_of c.frame.new.self in
    let f = c.in-Ok.ensures.found q.left_before z.0 z.2 z.4 in
    parting_second q l f.0 z.1 c.of_second.result c.in-Err-frame.fault c.of_second.ensures f.2 (c.in-Err-frame.ensures.found q.right_before z.1 z.3 z.5)

pub returns-in_default-clause-parted : goal.returns-in_default-clause-parted
returns-in_default-clause-parted g c =
    let laws : Laws = record {
      go = c.captures_unfold_by_frames.ensures;
      counted = c.captures_are_counted.ensures;
      frames = c.frames_are_independent.ensures;
      numbers = c.numbers_are_independent.ensures;
      sameness = c.sameness_unfolds_by_frames.ensures;
      meanings = c.texts_determine_meanings.ensures;
      same_legal = c.same_captures_are_legal.ensures;
    } in
    let q = sources_of (source_state g.S.Source.to_come g.S.Source.failures g.S.Source.ends_reported) (source_state g.T.Source.to_come g.T.Source.failures g.T.Source.ends_reported)
    c.args.left_source.now c.frame.new.source c.args.right_source.now c.frame-in-frames.new.source in
    let z = c.frames.invariant.so_far in
    let l = state_of c.frame.new.self in
    let f = c.in-Ok.ensures.found q.left_before z.0 z.2 z.4 in
    let r = state_of c.frame-in-frames.new.self in
    let h = c.in-Ok-frame.ensures.found q.right_before z.1 z.3 z.5 in
    let before : Alike c.args.limit (state_of c.frames.left) (state_of c.frames.right) z.0 z.1 = record { fits = c.ranges.limit.fits; left_limit = c.frames.invariant.left_limit; right_limit = c.frames.invariant.right_limit; texts = z.6 } in
    let alike = grown laws c.args.limit (state_of c.frames.left) (state_of c.frames.right) l r z.0 z.1 f.0 h.0 before z.4 z.5 c.frame.ensures.limit c.frame-in-frames.ensures.limit c.frame.ensures.offset c.frame-in-frames.ensures.offset f.1.0 h.1.0 in
    let stopped = subst (λ (o : Option ℕ). HasStoppedOrPassed o l f.0) c.in_default.is f.3 in (
      f.0,
      h.0,
      record {
        left = f.2;
        right = h.2;
        left_judged = stopped_judged l.fault l f.0 stopped;
        right_judged = at_frame_judged c.in-Ok-frame.second r h.0 c.in-Ok-frame.ensures.frame h.3;
        decided = left_stopped laws c.args.limit l r f.0 h.0 alike stopped c.in-Ok-frame.second c.in-Ok-frame.ensures.frame h.3 c.is_none.result c.is_none.ensures;
      },
    )

pub returns-in_default-second-clause-parted : goal.returns-in_default-second-clause-parted
returns-in_default-second-clause-parted g c =
    let laws : Laws = record {
      go = c.captures_unfold_by_frames.ensures;
      counted = c.captures_are_counted.ensures;
      frames = c.frames_are_independent.ensures;
      numbers = c.numbers_are_independent.ensures;
      sameness = c.sameness_unfolds_by_frames.ensures;
      meanings = c.texts_determine_meanings.ensures;
      same_legal = c.same_captures_are_legal.ensures;
    } in
    let q = sources_of (source_state g.S.Source.to_come g.S.Source.failures g.S.Source.ends_reported) (source_state g.T.Source.to_come g.T.Source.failures g.T.Source.ends_reported)
    c.args.left_source.now c.frame.new.source c.args.right_source.now c.frame-in-frames.new.source in
    let z = c.frames.invariant.so_far in
    let l = state_of c.frame.new.self in
    let f = c.in-Ok.ensures.found q.left_before z.0 z.2 z.4 in
    let r = state_of c.frame-in-frames.new.self in
    let h = c.in-Ok-frame.ensures.found q.right_before z.1 z.3 z.5 in
    let before : Alike c.args.limit (state_of c.frames.left) (state_of c.frames.right) z.0 z.1 = record { fits = c.ranges.limit.fits; left_limit = c.frames.invariant.left_limit; right_limit = c.frames.invariant.right_limit; texts = z.6 } in
    let alike = grown laws c.args.limit (state_of c.frames.left) (state_of c.frames.right) l r z.0 z.1 f.0 h.0 before z.4 z.5 c.frame.ensures.limit c.frame-in-frames.ensures.limit c.frame.ensures.offset c.frame-in-frames.ensures.offset f.1.0 h.1.0 in
    let left_at = subst (λ (o : Option ℕ). IsAtFrame l o) c.in-Some.is c.in-Ok.ensures.frame in
    let left_stands = subst (λ (o : Option ℕ). HasStoppedOrPassed o l f.0) c.in-Some.is f.3 in
    let stopped = subst (λ (o : Option ℕ). HasStoppedOrPassed o r h.0) c.in_default-second.is h.3 in (
      f.0,
      h.0,
      record {
        left = f.2;
        right = h.2;
        left_judged = at_frame_judged c.in-Ok.first l f.0 c.in-Ok.ensures.frame f.3;
        right_judged = stopped_judged r.fault r h.0 stopped;
        decided = right_has_ended laws c.args.limit l r f.0 h.0 alike left_stands left_at.0 stopped;
      },
    )

pub returns-then-not-are_same-clause-parted : goal.returns-then-not-are_same-clause-parted
returns-then-not-are_same-clause-parted g c =
    let laws : Laws = record {
      go = c.captures_unfold_by_frames.ensures;
      counted = c.captures_are_counted.ensures;
      frames = c.frames_are_independent.ensures;
      numbers = c.numbers_are_independent.ensures;
      sameness = c.sameness_unfolds_by_frames.ensures;
      meanings = c.texts_determine_meanings.ensures;
      same_legal = c.same_captures_are_legal.ensures;
    } in
    let q = sources_of (source_state g.S.Source.to_come g.S.Source.failures g.S.Source.ends_reported) (source_state g.T.Source.to_come g.T.Source.failures g.T.Source.ends_reported)
    c.args.left_source.now c.frame.new.source c.args.right_source.now c.frame-in-frames.new.source in
    let z = c.frames.invariant.so_far in
    let l = state_of c.frame.new.self in
    let f = c.in-Ok.ensures.found q.left_before z.0 z.2 z.4 in
    let r = state_of c.frame-in-frames.new.self in
    let h = c.in-Ok-frame.ensures.found q.right_before z.1 z.3 z.5 in
    let before : Alike c.args.limit (state_of c.frames.left) (state_of c.frames.right) z.0 z.1 = record { fits = c.ranges.limit.fits; left_limit = c.frames.invariant.left_limit; right_limit = c.frames.invariant.right_limit; texts = z.6 } in
    let alike = grown laws c.args.limit (state_of c.frames.left) (state_of c.frames.right) l r z.0 z.1 f.0 h.0 before z.4 z.5 c.frame.ensures.limit c.frame-in-frames.ensures.limit c.frame.ensures.offset c.frame-in-frames.ensures.offset f.1.0 h.1.0 in
    let left_at = subst (λ (o : Option ℕ). IsAtFrame l o) c.in-Some.is c.in-Ok.ensures.frame in
    let left_stands = subst (λ (o : Option ℕ). HasStoppedOrPassed o l f.0) c.in-Some.is f.3 in
    let right_at = subst (λ (o : Option ℕ). IsAtFrame r o) c.in-Some-second.is c.in-Ok-frame.ensures.frame in
    let right_stands = subst (λ (o : Option ℕ). HasStoppedOrPassed o r h.0) c.in-Some-second.is h.3 in
    let differ = λ (s : SameCapture link_body c.args.limit (take c.in-Some.first (rest_of l)) (take c.in-Some-second.second (rest_of r))).
    let there = subst (λ x. SameCapture link_body c.args.limit (take c.in-Some.first x) (take c.in-Some-second.second c.rest-in-frames.result.now)) (sym c.rest.ensures)
    (subst (λ y. SameCapture link_body c.args.limit (take c.in-Some.first (rest_of l)) (take c.in-Some-second.second y)) (sym c.rest-in-frames.ensures) s) in
    absurd (cc (c.are_same.ensures.1 there, c.if-not-are_same.true)) in (
      f.0,
      h.0,
      record {
        left = f.2;
        right = h.2;
        left_judged = at_frame_judged c.in-Ok.first l f.0 c.in-Ok.ensures.frame f.3;
        right_judged = at_frame_judged c.in-Ok-frame.second r h.0 c.in-Ok-frame.ensures.frame h.3;
        decided = frames_differ laws c.args.limit l r f.0 h.0 c.in-Some.first c.in-Some-second.second alike left_stands left_at.0 left_at.1 right_stands right_at.0 right_at.1 differ;
      },
    )

pub frames-smaller : goal.frames-smaller
frames-smaller g c =
    let l = state_of c.frame.new.self in
    let at = subst (λ (o : Option ℕ). IsAtFrame l o) c.in-Some.is c.in-Ok.ensures.frame in
    let more : 0 < length (rest_of l) = omega (arith, at.0.has_header) in
    let far = passes_offset l (state_of c.pass.new.self) c.in-Some.first c.pass.ensures in
    let inside = frame_inside l more c.frame.ensures.inside in
    omega (arith, far, inside, c.frame.ensures.offset, c.frame.ensures.counted, at.0.covers_header, at.1)

pub frames-preserved : goal.frames-preserved
frames-preserved g c =
    let laws : Laws = record {
      go = c.captures_unfold_by_frames.ensures;
      counted = c.captures_are_counted.ensures;
      frames = c.frames_are_independent.ensures;
      numbers = c.numbers_are_independent.ensures;
      sameness = c.sameness_unfolds_by_frames.ensures;
      meanings = c.texts_determine_meanings.ensures;
      same_legal = c.same_captures_are_legal.ensures;
    } in
    let q = sources_of (source_state g.S.Source.to_come g.S.Source.failures g.S.Source.ends_reported) (source_state g.T.Source.to_come g.T.Source.failures g.T.Source.ends_reported)
    c.args.left_source.now c.frame.new.source c.args.right_source.now c.frame-in-frames.new.source in
    let z = c.frames.invariant.so_far in
    let l = state_of c.frame.new.self in
    let f = c.in-Ok.ensures.found q.left_before z.0 z.2 z.4 in
    let r = state_of c.frame-in-frames.new.self in
    let h = c.in-Ok-frame.ensures.found q.right_before z.1 z.3 z.5 in
    let before : Alike c.args.limit (state_of c.frames.left) (state_of c.frames.right) z.0 z.1 = record { fits = c.ranges.limit.fits; left_limit = c.frames.invariant.left_limit; right_limit = c.frames.invariant.right_limit; texts = z.6 } in
    let alike = grown laws c.args.limit (state_of c.frames.left) (state_of c.frames.right) l r z.0 z.1 f.0 h.0 before z.4 z.5 c.frame.ensures.limit c.frame-in-frames.ensures.limit c.frame.ensures.offset c.frame-in-frames.ensures.offset f.1.0 h.1.0 in
    let left_at = subst (λ (o : Option ℕ). IsAtFrame l o) c.in-Some.is c.in-Ok.ensures.frame in
    let left_stands = subst (λ (o : Option ℕ). HasStoppedOrPassed o l f.0) c.in-Some.is f.3 in
    let right_at = subst (λ (o : Option ℕ). IsAtFrame r o) c.in-Some-second.is c.in-Ok-frame.ensures.frame in
    let right_stands = subst (λ (o : Option ℕ). HasStoppedOrPassed o r h.0) c.in-Some-second.is h.3 in
    let one : List ℕ = take c.in-Some.first (rest_of l) in
    let two : List ℕ = take c.in-Some-second.second (rest_of r) in
    let same = subst (λ y. SameCapture link_body c.args.limit one (take c.in-Some-second.second y)) c.rest-in-frames.ensures
    (subst (λ x. SameCapture link_body c.args.limit (take c.in-Some.first x) (take c.in-Some-second.second c.rest-in-frames.result.now)) c.rest.ensures (c.are_same.ensures.0 c.if-not-are_same.false)) in
    let legal = laws.same_legal c.args.limit one two same in
    let text = laws.meanings.same_implies_equal_text c.args.limit one two same in
    let x = passes_on laws c.args.limit l (state_of c.pass.new.self) f.0 c.in-Some.first alike.left_limit c.pass.ensures left_stands left_at.0 left_at.1 legal.0 in
    let y = passes_on laws c.args.limit r (state_of c.pass-in-frames.new.self) h.0 c.in-Some-second.second alike.right_limit c.pass-in-frames.ensures right_stands right_at.0 right_at.1 legal.1 in
    record {
      left_inside = subst (λ (s : SideState). length s.window ≤ s.read) (sym c.pass.ensures) c.frame.ensures.inside;
      left_counted = subst (λ (s : SideState). s.read < 2 ^ 64) (sym c.pass.ensures) c.frame.ensures.counted;
      left_unjudged = ap (λ (s : SideState). s.fault) c.pass.ensures ∙ left_at.3;
      left_limit = ap (λ (s : SideState). s.limit) c.pass.ensures ∙ alike.left_limit;
      right_inside = subst (λ (s : SideState). length s.window ≤ s.read) (sym c.pass-in-frames.ensures) c.frame-in-frames.ensures.inside;
      right_counted = subst (λ (s : SideState). s.read < 2 ^ 64) (sym c.pass-in-frames.ensures) c.frame-in-frames.ensures.counted;
      right_unjudged = ap (λ (s : SideState). s.fault) c.pass-in-frames.ensures ∙ right_at.3;
      right_limit = ap (λ (s : SideState). s.limit) c.pass-in-frames.ensures ∙ alike.right_limit;
      so_far = (
        f.0,
        h.0,
        subst (λ (s : SideState). HasRead q.left_before q.left_after s.ended s.read f.0) (sym c.pass.ensures) f.2,
        subst (λ (s : SideState). HasRead q.right_before q.right_after s.ended s.read h.0) (sym c.pass-in-frames.ensures) h.2,
        x.0,
        y.0,
        x.1 ∙ ap (λ t. t ++ texts link_body c.args.limit one) alike.texts ∙ ap (λ t. texts link_body c.args.limit (take (offset_of r) h.0) ++ t) text ∙ sym y.1,
      );
    }
