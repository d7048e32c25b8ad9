-- one message further
use Rattle.std.proofs.Common.{◌≡◌, ℕ, ◌+◌, ◌-◌, ◌<◌, ◌≤◌, List, length, drop, Some, Ok, Err, refl, sym, ap, subst, ◌∙◌, arith, length-drop}
use Rattle.std.proofs.lemmas.List.{drop-drop, take_rest}
use Rattle.netlink_packet_core_grammar.specs.Attributes.{nla_align}
use Rattle.netlink_packet_core.specs.Frames.{frame_text}
use Rattle.link_capture_grammar.specs.Captures.{first_fault, first_frame, shifted}
use Rattle.link_message_grammar.specs.Body.{link_body}
use Rattle.link_capture.proofs.messages.MessagesIterator.next.Goals as goal

pub invariant_of-self : goal.invariant_of-self
invariant_of-self c =
    let bytes = c.self.inside.bytes.now in
    let limit = c.self.inside.limit in
    let at = c.self.inside.offset in
    let law = c.captures_are_counted.ensures in
    let m = c.in-Ok.ensures.message in
    let rest = drop at bytes in
    let frame : ℕ × List ℕ = (c.in-Ok.len, frame_text rest m.body) in
    let there : first_frame link_body limit rest ≡ Ok frame = subst (λ x. first_frame link_body limit x ≡ Ok (c.in-Ok.len, frame_text x m.body)) (take_rest bytes at) m.is in
    let after : drop (nla_align frame.0) rest ≡ drop (at + c.nla_align.result) bytes = drop-drop (nla_align frame.0) at bytes ∙ ap (λ n. drop (at + n) bytes) (sym c.nla_align.ensures) in
    let size : c.nla_align.result ≡ nla_align frame.0 = c.nla_align.ensures in
    let high : frame.0 ≤ length rest = subst (λ x. frame.0 ≤ length x) (take_rest bytes at) c.in-Ok.ensures.bounds.2 in
    let left : length rest ≡ length bytes - at = length-drop at bytes in
    record {
      near = omega (arith, size, high, left, c.if-self.false);
      fault = c.self.invariant.fault ∙ law.next_fault limit at rest frame there ∙ ap (λ n. shifted (at + n) (first_fault link_body limit (drop (nla_align frame.0) rest))) (sym c.nla_align.ensures) ∙ ap (λ x. shifted (at + c.nla_align.result) (first_fault link_body limit x)) after;
    }

pub returns-in-Err-clause-steps : goal.returns-in-Err-clause-steps
returns-in-Err-clause-steps c =
    let bytes = c.self.inside.bytes.now in
    let limit = c.self.inside.limit in
    let at = c.self.inside.offset in
    let kind = c.in-Err.kind in
    let rest = drop at bytes in
    let inside : at < length bytes = omega (arith, c.if-self.false) in
    let left : length rest ≡ length bytes - at = length-drop at bytes in
    rw (← c.self.view_is) (
      inside,
      record {
        offset = refl;
        first = λ m.
            let there : first_frame link_body limit rest ≡ Err kind = subst (λ x. first_frame link_body limit x ≡ Err kind) (take_rest bytes at) (c.in-Err.ensures.refused m) in
            let here : at + 0 ≡ at = omega arith in
            c.self.invariant.fault ∙ ap (shifted at) (c.captures_unfold_by_frames.ensures.first_frame_fault limit rest kind (omega (arith, left, inside)) there)
            ∙ ap (λ n. Some (record { kind = kind; offset = n })) here;
        memory = λ m.
            let frame = c.in-Err.ensures.memory m in
            (frame.0, frame.1, subst (λ x. first_frame link_body limit x ≡ Ok (frame.0, frame.1)) (take_rest bytes at) frame.2);
      },
      refl,
    )
