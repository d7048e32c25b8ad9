use Rattle.std.proofs.Common.{ℕ, List, length, drop, sym, ap, subst, ◌∙◌, arith, length-drop}
use Rattle.std.proofs.lemmas.List.{drop_all, take_rest}
use Rattle.link_message_grammar.specs.Body.{link_body}
use Rattle.link_capture_grammar.specs.Captures.{first_fault, shifted, IsLegal}
use Rattle.link_capture_grammar.proofs.Frames.{fault_nil}
use Rattle.link_capture_checks.proofs.Steps.{frames_differ, right_ended}
use Rattle.link_capture_checks.proofs.sameness.same_as.Goals as goal

pub returns-then-at-right-clause-legal : goal.returns-then-at-right-clause-legal
returns-then-at-right-clause-legal c =
    let at = c.parting-at.result.1 in
    c.parting-at.ensures.alike.fault ∙ ap (λ x. shifted at (first_fault link_body c.args.limit x)) (drop_all at c.args.right.now c.if-at-right.true) ∙ ap (shifted at) (fault_nil link_body c.args.limit)

pub returns-then-at-right-clause-same : goal.returns-then-at-right-clause-same
returns-then-at-right-clause-same c =
    let at = c.parting-at.result.1 in
    right_ended c.sameness_unfolds_by_frames.ensures c.args.limit c.parting-at.result.0.now (drop at c.args.right.now) c.args.left.now c.args.right.now c.parting-at.ensures.alike.same
    (ap length (drop_all at c.args.right.now c.if-at-right.true)) c.is_empty.result c.is_empty.ensures

pub overflow_add-result : goal.overflow_add-result
overflow_add-result c =
    let at = c.parting-at.result.1 in
    let other : List ℕ = drop at c.args.right.now in
    let inside = (c.faults_are_at_frames.ensures c.args.limit other c.in-Err.field-0 (ap (first_fault link_body c.args.limit) (sym (take_rest c.args.right.now at)) ∙ c.in-Err.ensures.fault)).0 in
    omega (arith, inside, length-drop at c.args.right.now, c.if-at-right.false)

pub returns-in-Ok-clause-same : goal.returns-in-Ok-clause-same
returns-in-Ok-clause-same c =
    let at = c.parting-at.result.1 in
    let right = c.args.right.now in
    let alike = c.parting-at.ensures.alike in
    let legal = subst (IsLegal link_body c.args.limit) (take_rest right at) c.in-Ok.ensures.legal in
    (λ h. absurd cc, λ s. absurd (frames_differ c.sameness_unfolds_by_frames.ensures c.args.limit c.parting-at.result.0.now (drop at right) c.args.left.now right alike.same alike.legal legal c.parting-at.ensures.parts (omega (arith, length-drop at right, c.if-at-right.false)) s))
