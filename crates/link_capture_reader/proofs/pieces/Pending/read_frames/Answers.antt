-- no memory for the bytes of the cut frame: the texts of the frames before it are written
use Rattle.std.proofs.Common.{◌≡◌, ◌≢◌, inr, ◌++◌, Err, drop, refl, sym, ap, ◌∙◌}
use Rattle.link_capture_grammar.specs.declared.fault.FaultKind.TheVariants.{Cut, Memory}
use Rattle.link_capture_grammar.specs.Captures.{first_frame}
use Rattle.link_capture_grammar.specs.Body.{link_body}
use Rattle.link_capture_reader.proofs.Passing.{before_fault, cut_header}
use Rattle.link_capture_reader.proofs.pieces.Pending.read_frames.Goals as goal

pub returns-in-Err-extend_from_slice-clause-memory : goal.returns-in-Err-extend_from_slice-clause-memory
returns-in-Err-extend_from_slice-clause-memory c = λ _.
    let go = c.captures_unfold_by_frames.ensures in
    let limit = c.args.self.now.limit in
    let bytes = c.args.bytes.now in
    let fault = c.in-Err.fault in
    let left = drop fault.offset bytes in
    let other : fault.kind ≢ Memory = let cut = c.in-Cut.is in λ e. cc in
    let claimed = c.in-Err.ensures.fault other in
    let cut : first_frame link_body limit left ≡ Err Cut =
    go.fault_there limit bytes fault claimed.0 ∙ ap (λ k. Err k) c.in-Cut.is in
    let b = before_fault go limit bytes fault claimed.0 in (
      fault.offset,
      refl,
      record {
        inside = c.in-Err.ensures.offset.0;
        start = c.in-Err.ensures.offset.1;
        header = cut_header c.frames_are_independent.ensures limit left cut;
        legal = b.0;
      },
      claimed.1 ∙ ap (λ t. c.args.out.now.items ++ t) (sym b.1),
      λ _. inr cut,
    )
