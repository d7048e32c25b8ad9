-- what is found, or one piece further
use Rattle.std.proofs.Common.{◌∙◌, ◌<◌, ◌^◌, ℕ, List, Err, false, eqb, length, take, sym, ap, subst, arith}
use Rattle.std.proofs.lemmas.List.{length-take}
use Rattle.link_capture_grammar.specs.declared.fault.FaultKind.TheVariants.{Cut}
use Rattle.link_capture_grammar.specs.Captures.{first_frame}
use Rattle.link_capture_reader.specs.States.{source_state}
use Rattle.link_capture_comparing.specs.Readings.{HasRead}
use Rattle.link_capture_comparing.specs.Sides.{SideState, state_of, offset_of, rest_of, window_of}
use Rattle.link_capture_grammar.specs.Body.{link_body}
use Rattle.link_capture_comparing.proofs.Finding.{refused_header, found_fault, found_no_memory, not_memory, Takes, takes, takes_inside, takes_offset, unused}
use Rattle.link_capture_comparing.proofs.Standing.{stuck_fault, fault_at}
use Rattle.link_interpreter.proofs.Loop.{some_bytes}
use Rattle.link_capture_comparing.proofs.side.Side.frame.Goals as goal

pub fail-requires-clause-more : goal.fail-requires-clause-more
fail-requires-clause-more g c = subst (λ (x : List ℕ). 0 < length x) c.rest.ensures (refused_header c.pieces.self.limit c.rest.result.now c.in-Err.kind c.in_default.not-Cut c.in-Err.ensures.err)

pub returns-in_default-clause-found : goal.returns-in_default-clause-found
returns-in_default-clause-found g c = λ initial s h w.
    let r = state_of c.pieces.self in
    let z = c.pieces.invariant.so_far initial s h w in
    let stuck = ap (first_frame link_body r.limit) (sym c.rest.ensures) ∙ c.frames_are_judged.ensures.header r.limit c.rest.result.now c.in-Err.kind c.in-Err.ensures.err in
    let more = subst (λ (x : List ℕ). 0 < length x) c.rest.ensures (refused_header c.pieces.self.limit c.rest.result.now c.in-Err.kind c.in_default.not-Cut c.in-Err.ensures.err) in
    found_fault initial _ (state_of c.args.self.now) r _ s z.0 c.in-Err.kind (offset_of r) c.fail.ensures z.1 z.2
    (fault_at r.limit z.0 c.in-Err.kind (offset_of r) (not_memory c.in-Err.kind c.in-Err.ensures.of_frames) (stuck_fault c.captures_unfold_by_frames.ensures r.limit z.0 (rest_of r) (offset_of r) c.in-Err.kind z.3 more stuck))
    (λ e. absurd (c.in_default.not-Cut e))

pub returns-then-not-is_empty-clause-found : goal.returns-then-not-is_empty-clause-found
returns-then-not-is_empty-clause-found g c = λ initial s h w.
    let r = state_of c.pieces.self in
    let z = c.pieces.invariant.so_far initial s h w in
    let stuck = ap (first_frame link_body r.limit) (sym c.rest.ensures) ∙ c.frames_are_judged.ensures.header r.limit c.rest.result.now c.in-Err.kind c.in-Err.ensures.err ∙ ap (λ k. Err k) c.in-Cut.is in
    let more = subst (λ (x : List ℕ). 0 < length x) c.rest-then-self.ensures (some_bytes c.rest-then-self.result.now _ c.if-not-is_empty.true c.is_empty.ensures) in
    found_fault initial _ (state_of c.args.self.now) r _ s z.0 Cut (offset_of r) c.fail-then-not-is_empty.ensures z.1 z.2
    (stuck_fault c.captures_unfold_by_frames.ensures r.limit z.0 (rest_of r) (offset_of r) Cut z.3 more stuck) (λ e. c.if-self.true)

pub returns-in_default-make_room-clause-found : goal.returns-in_default-make_room-clause-found
returns-in_default-make_room-clause-found g c = λ initial s h w.
    let r = state_of c.pieces.self in
    let z = c.pieces.invariant.so_far initial s h w in
    let stuck = ap (first_frame link_body r.limit) (sym c.rest.ensures) ∙ c.frames_are_judged.ensures.header r.limit c.rest.result.now c.in-Err.kind c.in-Err.ensures.err ∙ ap (λ k. Err k) c.in-Cut.is in
    let same = c.make_room.ensures.others in
    found_no_memory c.captures_unfold_by_frames.ensures initial _ (state_of c.args.self.now) r (state_of c.make_room.new.self) _ s z.0 same.0 same.1 same.2 c.make_room.ensures.offset c.fail-in_default-make_room.ensures z.1 z.2 z.3 c.in_default-make_room.ensures.cut stuck

pub take_piece-requires-clause-within : goal.take_piece-requires-clause-within
take_piece-requires-clause-within g c = c.in_ok-len.ensures.piece

pub pieces-preserved : goal.pieces-preserved
pieces-preserved g c =
    let r = state_of c.pieces.self in
    let room = state_of c.make_room.new.self in
    let n = c.in_ok-len.len in
    let buffer = c.read_piece.new.buffer in
    let w : List ℕ = window_of c.make_room.new.self.kept.items (take c.make_room.new.self.piece_len buffer) in
    let same = c.make_room.ensures.others in
    let t : Takes room (state_of c.take_piece.new.self) w (take n buffer) n (eqb n 0) = record {
      is = c.take_piece.ensures;
      window = unused c.make_room.new.self.kept.items buffer c.make_room.new.self.buffer c.make_room.new.self.piece_len c.in-Ok-make_room.ensures.piece;
      size = length-take n buffer ∙ (let inside = c.in_ok-len.ensures.within.0 in omega (arith, inside));
      inside = c.make_room.ensures.inside;
    } in
    record {
      inside = takes_inside room _ w (take n buffer) n (eqb n 0) t;
      counted = subst (λ (z : SideState). z.read < 2 ^ 64) (sym c.take_piece.ensures) c.in_ok-len.ensures.within.1;
      unjudged = ap (λ (z : SideState). z.fault) c.take_piece.ensures ∙ same.3 ∙ c.pieces.invariant.unjudged;
      limit = ap (λ (z : SideState). z.limit) c.take_piece.ensures ∙ same.0 ∙ c.pieces.invariant.limit;
      offset = takes_offset room _ w (take n buffer) n (eqb n 0) t ∙ c.make_room.ensures.offset ∙ c.pieces.invariant.offset;
      ended = λ e. let f = c.pieces.invariant.ended e in absurd (cc (f, c.if-self.false));
      so_far = λ initial s h p.
          let z = c.pieces.invariant.so_far initial s h p in
          let unended = subst (λ b. HasRead initial (source_state g.S.Source.to_come g.S.Source.failures g.S.Source.ends_reported c.pieces.source) b c.pieces.self.read z.0) c.if-self.false z.2 in
          let at = subst (λ m. HasRead initial (source_state g.S.Source.to_come g.S.Source.failures g.S.Source.ends_reported c.pieces.source) false m z.0) (sym same.1) unended in
          takes c.captures_unfold_by_frames.ensures initial _ c.args.self.now.ended r room _ w (take n buffer) n (eqb n 0) s z.0 t same.0 same.1 c.make_room.ensures.rest c.make_room.ensures.offset
          (λ e. let f = c.pieces.invariant.ended e in absurd (cc (f, c.if-self.false))) z.1 (c.in_ok-len.ensures.ok initial z.0 at) z.2.count z.3;
    }
