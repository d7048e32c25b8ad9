-- one frame further, or the fault of the first frame
use Rattle.std.proofs.Common.{◌≡◌, ℕ, ◌+◌, ◌-◌, ◌≤◌, ◌++◌, List, length, drop, Some, Ok, sym, ap, subst, ◌∙◌, arith, length-append, length-drop}
use Rattle.std.proofs.lemmas.List.{drop-drop, take_rest}
use Rattle.netlink_packet_core_grammar.specs.Attributes.{nla_align}
use Rattle.link_capture_grammar.specs.Captures.{first_fault, first_frame, shifted, texts}
use Rattle.link_capture_grammar.specs.Numbers.{attribute_count, frame_attribute_count, frame_count}
use Rattle.link_message_grammar.specs.Body.{link_body}
use Rattle.link_capture_checks.proofs.capture.measure.Goals as goal

pub loop-at-preserved : goal.loop-at-preserved
loop-at-preserved c =
    let bytes = c.args.bytes.now in
    let limit = c.args.limit in
    let at = c.loop-at.at in
    let w = c.loop-at.invariant in
    let law = c.captures_are_counted.ensures in
    let ok = c.in-Ok.ensures.ok in
    let rest = drop at bytes in
    let frame : ℕ × List ℕ = (c.in-Ok.frame.len, ok.text) in
    let there : first_frame link_body limit rest ≡ Ok frame = ap (first_frame link_body limit) (sym (take_rest bytes at)) ∙ ok.is in
    let after : drop (nla_align frame.0) rest ≡ drop (at + c.nla_align-at.result) bytes = drop-drop (nla_align frame.0) at bytes ∙ ap (λ n. drop (at + n) bytes) (sym c.nla_align-at.ensures) in
    let inside = ok.attributes ∙ ap (frame_attribute_count link_body) (take_rest bytes at) in
    let more = law.next_frames limit rest frame there ∙ ap (λ x. 1 + frame_count link_body limit x) after in
    let kept = law.next_attributes limit rest frame there ∙ ap (λ x. frame_attribute_count link_body rest + attribute_count link_body limit x) after in
    let text = ap length (law.next_text limit rest frame there ∙ ap (λ x. ok.text ++ texts link_body limit x) after) in
    let sizes = length-append ok.text (texts link_body limit (drop (at + c.nla_align-at.result) bytes)) in
    let size : c.nla_align-at.result ≡ nla_align frame.0 = c.nla_align-at.ensures in
    let low : 16 ≤ frame.0 = c.in-Ok.ensures.bounds.0 in
    let high : frame.0 ≤ length rest = subst (λ x. frame.0 ≤ length x) (take_rest bytes at) c.in-Ok.ensures.bounds.1 in
    let left : length rest ≡ length bytes - at = length-drop at bytes in
    let step : 16 ≤ c.nla_align-at.result = omega (arith, size, low) in
    record {
      near = omega (arith, size, high, left, c.loop-at-test.true);
      fault = w.fault ∙ law.next_fault limit at rest frame there ∙ ap (λ n. shifted (at + n) (first_fault link_body limit (drop (nla_align frame.0) rest))) (sym c.nla_align-at.ensures) ∙ ap (λ x. shifted (at + c.nla_align-at.result) (first_fault link_body limit x)) after;
      frames = omega (arith, w.frames, more);
      few = omega (arith, w.few, step);
      attributes = omega (arith, w.attributes, kept, inside);
      text_len = omega (arith, w.text_len, text, sizes, ok.text_len);
    }

pub returns-in-Err-clause-fault : goal.returns-in-Err-clause-fault
returns-in-Err-clause-fault c =
    let bytes = c.args.bytes.now in
    let limit = c.args.limit in
    let at = c.loop-at.at in
    let there = ap (first_frame link_body limit) (sym (take_rest bytes at)) ∙ c.in-Err.ensures.err in
    let first = c.captures_unfold_by_frames.ensures.first_frame_fault limit (drop at bytes) c.in-Err.kind (omega (arith, length-drop at bytes)) there in
    c.loop-at.invariant.fault ∙ ap (shifted at) first ∙ (let z : at + 0 ≡ at = omega arith in ap (λ n. Some (record { kind = c.in-Err.kind; offset = n })) z)
