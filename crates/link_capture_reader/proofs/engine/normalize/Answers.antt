-- what was read and written at each exit
use Rattle.std.proofs.Common.{◌≡◌, ◌∙◌, ◌+◌, ◌-◌, ◌^◌, ◌++◌, ℕ, List, [], Some, length, min, take, refl, sym, ap, subst, arith}
use Rattle.std.proofs.lemmas.List.{length-take}
use Rattle.std.proofs.lemmas.Result.{err_from_is_err_and}
use Rattle.link_capture_reader.proofs.Progress.{came_more, came_reserved, cut_outcome, unended, nothing_came, fed_prefix, failed_write, fed_outcome}
use Rattle.std.specs.Io.KnownBytes.{Appends}
use Rattle.link_capture_grammar.specs.declared.fault.FaultKind.TheVariants.{Cut}
use Rattle.link_capture_grammar.specs.Captures.{first_fault, texts}
use Rattle.link_capture_reader.specs.Devices.{risen, IsPrefix}
use Rattle.link_capture_grammar.specs.Body.{link_body}
use Rattle.std.proofs.KnownBytes.{Appends-trans, Consumes-trans}
use Rattle.link_capture_reader.proofs.engine.normalize.Goals as goal

pub pieces-init : goal.pieces-init
pieces-init g c = record {
  empty = c.new-out.ensures.items;
  source_failures = refl;
  ends = refl;
  sink_failures = refl;
  came = ([], nothing_came c.args.limit c.new-reader.result _ _ c.new-reader.ensures.limit c.new-reader.ensures.empty);
}

pub returns-in_err-written : goal.returns-in_err-written
returns-in_err-written g c =
    let p = err_from_is_err_and c.from_residual-in_err-written.result c.from_residual-in_err-written.ensures.1 in
    let i = c.pieces.invariant in
    let s = i.came.0 in
    let came = came_reserved _ _ _ _ _ _ _ _ s c.in_ok-reserve.ensures.others i.came.1 in
    let piece = take c.in-Ok.size c.read.new.buffer in
    let z = c.in_err-written.ensures.fault in
    rw (p.1, p.2) (
      s ++ piece,
      texts link_body c.args.limit s ++ take z.2.0 c.as_slice.result.now,
      Consumes-trans _ _ _ s piece came.consumed c.in-Ok.ensures.bytes.0,
      Appends-trans _ _ _ (texts link_body c.args.limit s) (take z.2.0 c.as_slice.result.now) came.wrote z.2.3,
      failed_write _ _ _ c.args.limit (s ++ piece) (texts link_body c.args.limit s) c.as_slice.result.now c.pieces.written z.2.0 c.in_err-written.field-0.0
          (z.1 ∙ ap risen i.sink_failures)
          (subst (λ x. IsPrefix (texts link_body c.args.limit s ++ x) (texts link_body c.args.limit (s ++ piece))) (sym c.as_slice.ensures.value)
          (fed_prefix c.texts_of_a_prefix_stay.ensures c.args.limit c.reserve.new.self c.feed-fed.new.self s piece c.pieces.out.items c.feed-fed.new.out.items c.feed-fed.result came.limit_is i.empty came.is_consistent c.feed-fed.ensures.ok c.feed-fed.ensures.fault))
          z.2.1 came.count z.0 z.2.2,
    )

-- No memory could be reserved.
pub returns-in_err-reserve : goal.returns-in_err-reserve
returns-in_err-reserve g c =
    let p = err_from_is_err_and c.from_residual.result c.from_residual.ensures.1 in
    let i = c.pieces.invariant in
    let s = i.came.0 in
    let came = i.came.1 in
    let fault = c.in_err-reserve.field-0.0 in
    let cut = subst (λ n. first_fault link_body n s ≡ Some (record { kind = Cut; offset = fault.offset })) came.limit_is (c.in_err-reserve.ensures.offset s came.is_consistent) in
    rw (p.1, p.2) (
      s,
      texts link_body c.args.limit s,
      came.consumed,
      came.wrote,
      cut_outcome c.captures_unfold_by_frames.ensures c.frames_are_independent.ensures c.faults_are_at_frames.ensures _ _ _ c.args.limit s fault c.in_err-reserve.ensures.kind cut,
    )

pub returns-in_err-fed : goal.returns-in_err-fed
returns-in_err-fed g c =
    let p = err_from_is_err_and c.from_residual-in_err-fed.result c.from_residual-in_err-fed.ensures.1 in
    let i = c.pieces.invariant in
    let s = i.came.0 in
    let came = came_reserved _ _ _ _ _ _ _ _ s c.in_ok-reserve.ensures.others i.came.1 in
    let piece = take c.in-Ok.size c.read.new.buffer in
    let z = c.in_ok-written.ensures.ok in
    rw (p.1, p.2) (
      s ++ piece,
      texts link_body c.args.limit s ++ c.feed-fed.new.out.items,
      Consumes-trans _ _ _ s piece came.consumed c.in-Ok.ensures.bytes.0,
      Appends-trans _ _ _ (texts link_body c.args.limit s) c.feed-fed.new.out.items came.wrote (subst (Appends _ _) c.as_slice.ensures.value z.1),
      fed_outcome _ _ _ c.args.limit c.reserve.new.self s piece c.pieces.out.items c.feed-fed.new.out.items c.in_err-fed.field-0.0 came.limit_is i.empty (omega (arith, length-take c.in-Ok.size c.read.new.buffer)) c.in_ok-reserve.ensures.ok came.is_consistent c.in_err-fed.ensures.fault,
    )

pub pieces-preserved : goal.pieces-preserved
pieces-preserved g c =
    let i = c.pieces.invariant in
    let s = i.came.0 in
    let came = came_reserved _ _ _ _ _ _ _ _ s c.in_ok-reserve.ensures.others i.came.1 in
    let piece = take c.in-Ok.size c.read.new.buffer in
    let fed = c.in_ok-fed.ensures.ok s came.is_consistent in
    let z = c.in_ok-written.ensures.ok in
    let out = c.feed-fed.new.out.items in
    record {
      empty = c.clear.ensures.items;
      source_failures = c.in-Ok.ensures.failures ∙ i.source_failures;
      ends = c.in-Ok.ensures.ends ∙ unended c.in-Ok.size _ _ c.if-size-eq0.false ∙ i.ends;
      sink_failures = z.2 ∙ i.sink_failures;
      came = (
        s ++ piece,
        came_more c.args.limit c.reserve.new.self c.feed-fed.new.self c.pieces.written c.in_ok-written.written _ _ _ _ _ _ s piece c.pieces.out.items out came i.empty
            c.feed-fed.ensures.limit fed.1 fed.2 c.in-Ok.ensures.bytes.0 (subst (Appends _ _) c.as_slice.ensures.value z.1)
            (z.0 ∙ ap (λ (x : List ℕ). min (c.pieces.written + length x) (2 ^ 64 - 1)) c.as_slice.ensures.value),
      );
    }
