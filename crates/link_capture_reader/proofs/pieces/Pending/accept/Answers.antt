-- the piece has only padding, or more
use Rattle.std.proofs.Common.{◌≡◌, ◌+◌, ◌-◌, ◌^◌, ◌<◌, ◌≤◌, inl, inr, ◌++◌, [], length, drop, sym, ap, subst, ◌∙◌}
use Rattle.std.proofs.Common.{arith, length-append, vec_capacity}
use Rattle.std.proofs.lemmas.List.{take_rest, length-drop, append-nil}
use Rattle.std.proofs.lemmas.Result.{err_from_is_err_and}
use Rattle.link_capture_grammar.specs.Captures.{texts}
use Rattle.link_capture_reader.specs.Readers.{IsReservedIfCut, MemoryFaultIsJustified, NeedsMemory}
use Rattle.link_capture_reader.specs.Walks.{ReadsTo, OtherFaultIsFirst, MemoryFaultIsAtFrame}
use Rattle.link_capture_grammar.specs.Body.{link_body}
use Rattle.link_capture_reader.proofs.Reading.{padding_resumes, padding_texts, resumed, owed_after, faults_on}
use Rattle.link_capture_reader.proofs.Reading.{resumes_reader, runs_out_of_fewer}
use Rattle.link_capture_reader.proofs.pieces.Pending.accept.Goals as goal
use Rattle.link_capture_reader.proofs.pieces.Pending.accept.Goals.{then-piece-self-2}
use Rattle.link_capture_reader.proofs.pieces.Pending.accept.Goals.{else-piece-self-2+in_ok-resume_frame}

pub returns-clause-reader : goal.returns-clause-reader
returns-clause-reader c =
    let limit = c.args.self.now.limit in
    let accepted = c.args.self.now.accepted in
    let kept = c.args.self.now.kept.items in
    let owed = c.args.self.now.owed in
    let piece = c.args.piece.now in
    let reader = c.requires.reader in
    elim c.if-piece-self-2.branch [
      | then-piece-self-2 w ↦
          rw w.self-is (
          record {
            limit = reader.limit;
            cut = reader.cut;
            small = reader.small;
            inside = omega (arith, reader.inside);
            owed = elim reader.owed [ inl a ↦ inl (omega (arith, a)) | inr a ↦ inr a ];
            padding = omega (arith, reader.padding);
            failed = tt;
          }
          )
      | else-piece-self-2+in_ok-resume_frame w ↦
          let out = c.args.out.now.items in
          let new = w.resume_frame.new in
          let left = drop owed piece in
          let ok = subst (λ x. ReadsTo limit (kept ++ x) out new.out.items new.self.kept.items new.self.owed)
          (take_rest piece owed) w.in_ok-resume_frame.ensures.ok in
          let n : length (kept ++ left) ≤ accepted + length piece =
          omega (arith, length-append kept left, length-drop owed piece, reader.inside) in
          rw (w.self-is, w.resume_frame.ensures.limit, w.resume_frame.ensures.accepted)
          (resumes_reader c.captures_unfold_by_frames.ensures c.frames_are_independent.ensures limit
          (accepted + length piece) (kept ++ left) new.self.kept.items (vec_capacity new.self.kept) new.self.owed reader.limit n ok.0)
    ]

pub returns-clause-ok : goal.returns-clause-ok
returns-clause-ok c =
    let go = c.captures_unfold_by_frames.ensures in
    let limit = c.args.self.now.limit in
    let accepted = c.args.self.now.accepted in
    let kept = c.args.self.now.kept.items in
    let owed = c.args.self.now.owed in
    let piece = c.args.piece.now in
    let out = c.args.out.now.items in
    elim c.if-piece-self-2.branch [
      | then-piece-self-2 w ↦
          rw (w.self-is, w.out-is) (λ s a r.
          let texts_stay = padding_texts go limit s piece kept owed (omega arith) r in (
            padding_resumes go limit s piece kept owed (omega arith) r,
            ([], texts_stay ∙ sym (append-nil (texts link_body limit s)), sym (append-nil out)),
          ))
      | else-piece-self-2+in_ok-resume_frame w ↦
          let new = w.resume_frame.new in
          let ok = subst (λ x. ReadsTo limit (kept ++ x) out new.out.items new.self.kept.items new.self.owed)
          (take_rest piece owed) w.in_ok-resume_frame.ensures.ok in
          rw (w.self-is, w.out-is) (λ s a r.
          let before = resumed go c.faults_are_at_frames.ensures limit s piece kept owed
          (accepted + owed - length kept) (omega arith) r (omega (arith, c.requires.reader.inside)) in
          owed_after go limit s piece kept owed (accepted + owed - length kept) _ _
          new.self.kept.items new.self.owed before ok)
    ]

pub returns-in_err-resume_frame-clause-fault : goal.returns-in_err-resume_frame-clause-fault
returns-in_err-resume_frame-clause-fault c =
    let go = c.captures_unfold_by_frames.ensures in
    let frames = c.faults_are_at_frames.ensures in
    let limit = c.args.self.now.limit in
    let accepted = c.args.self.now.accepted in
    let kept = c.args.self.now.kept.items in
    let owed = c.args.self.now.owed in
    let piece = c.args.piece.now in
    let start = accepted + owed - c.len.result in
    let old = c.args.out.now.items in
    let new = c.resume_frame.new.out.items in
    let fault = c.in_err-resume_frame.field-0.0 in
    let fits : accepted + length piece < 2 ^ 64 = omega arith in
    let e = take_rest piece owed in
    let h = subst (λ x. OtherFaultIsFirst limit start (kept ++ x) old new fault) e c.in_err-resume_frame.ensures.fault in
    let capacity = vec_capacity c.args.self.now.kept in
    let k = subst (λ x. MemoryFaultIsAtFrame (IsReservedIfCut kept capacity (length x)) limit start (kept ++ x) old new fault) e
    c.in_err-resume_frame.ensures.memory in
    let fewer = runs_out_of_fewer kept capacity limit start piece owed old new fault k in
    let p = err_from_is_err_and c.from_residual.result c.from_residual.ensures.1 in
    rw (p.1, p.2) (λ s a r.
    let before = resumed go frames limit s piece kept owed start (omega arith) r
    (omega (arith, c.requires.reader.inside)) in
    faults_on (IsReservedIfCut kept capacity (length piece)) go frames limit s piece kept owed start _ _ fault
    (subst (λ n. n + length piece < 2 ^ 64) a fits) before h fewer)

pub returns-in_err-resume_frame-clause-capacity : goal.returns-in_err-resume_frame-clause-capacity
returns-in_err-resume_frame-clause-capacity c =
    let limit = c.args.self.now.limit in
    let kept = c.args.self.now.kept.items in
    let owed = c.args.self.now.owed in
    let piece = c.args.piece.now in
    let start = c.args.self.now.accepted + owed - c.len.result in
    let out = c.args.out.now in
    let fault = c.in_err-resume_frame.field-0.0 in
    let h = subst (λ x. kept ≡ [] → MemoryFaultIsJustified limit start x fault out) (take_rest piece owed)
    c.in_err-resume_frame.ensures.capacity in
    let p = err_from_is_err_and c.from_residual.result c.from_residual.ensures.1 in
    rw (p.1, p.2) (λ k z m.
    let w = h k m in
    let none : length kept ≡ 0 = ap length k in
    (w.0, omega (arith, w.1, z, none), subst (λ n. NeedsMemory limit (drop n piece) w.0 out) z w.2))
