use Rattle.std.proofs.Common.{◌≡◌, ℕ, ◌+◌, ◌-◌, List, length, drop, sym, ap, subst, ◌∙◌, arith, length-drop}
use Rattle.std.proofs.lemmas.List.{drop-drop, take_rest}
use Rattle.netlink_packet_core_grammar.specs.Attributes.{nla_align}
use Rattle.netlink_packet_core.specs.Frames.{frame_length}
use Rattle.link_capture_grammar.specs.Captures.{first_fault, shifted, IsLegal}
use Rattle.link_capture_grammar.specs.Laws.{LegalFrame}
use Rattle.link_capture_grammar.specs.Same.{SameFrame}
use Rattle.link_message_grammar.specs.Body.{link_body}
use Rattle.link_interpreter.proofs.Loop.{some_bytes}
use Rattle.link_capture_checks.proofs.Steps.{one_further}
use Rattle.link_capture_checks.proofs.sameness.parting.Goals as goal

pub is_same_frame-requires : goal.is_same_frame-requires
is_same_frame-requires c =
    let rest = c.loop-other.rest.now in
    c.sameness_unfolds_by_frames.ensures.leading c.args.limit rest c.loop-other.invariant.legal (some_bytes rest _ c.loop-other-test.true c.is_empty.ensures)

pub following-rest-requires : goal.following-rest-requires
following-rest-requires c =
    let rest = c.loop-other.rest.now in
    (c.sameness_unfolds_by_frames.ensures.leading c.args.limit rest c.loop-other.invariant.legal (some_bytes rest _ c.loop-other-test.true c.is_empty.ensures)).frame

pub loop-other-smaller : goal.loop-other-smaller
loop-other-smaller c =
    let rest = c.loop-other.rest.now in
    let p = c.sameness_unfolds_by_frames.ensures.leading c.args.limit rest c.loop-other.invariant.legal (some_bytes rest _ c.loop-other-test.true c.is_empty.ensures) in
    let size : length c.following-rest.result.now ≡ length rest - nla_align (frame_length rest) = ap length c.following-rest.ensures ∙ length-drop (nla_align (frame_length rest)) rest in
    omega (arith, size, p.frame.covers_header, p.frame.within)

pub loop-other-preserved : goal.loop-other-preserved
loop-other-preserved c =
    let law = c.sameness_unfolds_by_frames.ensures in
    let limit = c.args.limit in
    let rest = c.loop-other.rest.now in
    let right = c.args.right.now in
    let at = c.loop-other.at in
    let w = c.loop-other.invariant in
    let p = law.leading limit rest w.legal (some_bytes rest _ c.loop-other-test.true c.is_empty.ensures) in
    let other : List ℕ = drop at right in
    let both = subst (λ x. LegalFrame link_body limit x × SameFrame link_body rest x) (take_rest right at) (c.is_same_frame.ensures.0 c.if-not-is_same_frame.false) in
    let q = both.0 in
    let size : c.nla_align-at.result ≡ nla_align (frame_length other) = c.nla_align-at.ensures ∙ ap nla_align (c.length.ensures ∙ ap (λ v. frame_length v.now) c.new.ensures ∙ ap frame_length (take_rest right at)) in
    let after : drop (nla_align (frame_length other)) other ≡ drop (at + c.nla_align-at.result) right = drop-drop (nla_align (frame_length other)) at right ∙ ap (λ n. drop (at + n) right) (sym size) in
    record {
      near = omega (arith, size, q.frame.within, length-drop at right, c.if-at-right.true);
      legal = subst (IsLegal link_body limit) (sym c.following-rest.ensures) (law.following limit rest w.legal p);
      fault = w.fault ∙ c.captures_are_counted.ensures.next_fault limit at other _ q.is ∙ ap (λ n. shifted (at + n) (first_fault link_body limit (drop (nla_align (frame_length other)) other))) (sym size) ∙ ap (λ x. shifted (at + c.nla_align-at.result) (first_fault link_body limit x)) after;
      same = one_further law limit rest other c.args.left.now right w.same p q both.1 c.following-rest.result.now (drop (at + c.nla_align-at.result) right) c.following-rest.ensures (sym after);
    }
