-- The reason is the piece's.
use Rattle.std.proofs.Common.{◌≡◌, ◌∙◌, Some, ap, sym}
use Rattle.link_capture_refusals.specs.RefusalViews.{optional_found, found}
use Rattle.linkcap_c.specs.Options.{limit_of}
use Rattle.linkcap_c.specs.Reasons.{refusal_of}
use Rattle.linkcap_c.proofs.refusing.linkcap_why.Goals as goal
use Rattle.linkcap_c.proofs.refusing.linkcap_why.Goals.{In-Some-why_in}

has : (c : In-Some-why_in) → refusal_of (limit_of c.args.options.now) c.args.piece.now ≡ Some (found c.in-Some-why_in.reason)
has c = ap (λ n. refusal_of n c.args.piece.now) (sym c.in-Some.ensures.limit.0) ∙ sym c.why_in.ensures ∙ ap optional_found c.in-Some-why_in.is

pub returns-in-Some-why_in-clause-reason : goal.returns-in-Some-why_in-clause-reason
returns-in-Some-why_in-clause-reason c = λ ok.
    let w = c.write_reason.ensures.ok ok in
    (found c.in-Some-why_in.reason, has (goal.at.returns-in-Some-why_in-clause-reason c).In-Some-why_in, w.0, w.1)

pub returns-in-Some-why_in-clause-room : goal.returns-in-Some-why_in-clause-room
returns-in-Some-why_in-clause-room c = λ small. (found c.in-Some-why_in.reason, has (goal.at.returns-in-Some-why_in-clause-room c).In-Some-why_in, c.write_reason.ensures.room small)

pub returns-in-Some-why_in-clause-memory : goal.returns-in-Some-why_in-clause-memory
returns-in-Some-why_in-clause-memory c = λ _. (found c.in-Some-why_in.reason, has (goal.at.returns-in-Some-why_in-clause-memory c).In-Some-why_in)
