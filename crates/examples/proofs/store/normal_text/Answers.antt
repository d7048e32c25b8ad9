-- A first fault isn't out of memory.
use Rattle.std.proofs.Common.{subst}
use Rattle.std.proofs.lemmas.Result.{err_from_is_err_and}
use Rattle.link_capture.specs.Captures.{IsOfFrames}
use Rattle.examples.proofs.store.normal_text.Goals as goal

pub returns-in_err-check-clause-memory : goal.returns-in_err-check-clause-memory
returns-in_err-check-clause-memory c =
    let p = err_from_is_err_and c.from_residual.result c.from_residual.ensures.1 in
    let of_frames = (c.faults_are_at_frames.ensures _ _ _ c.in_err-check.ensures.fault).2 in
    rw (p.1, p.2) (λ memory. absurd (subst IsOfFrames memory of_frames))
