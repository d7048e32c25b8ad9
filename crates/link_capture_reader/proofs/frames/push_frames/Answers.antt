-- one frame further, or the end
use Rattle.std.proofs.Common.{◌≡◌, ◌++◌, ◌+◌, length, take, sym, ap, ◌∙◌, arith}
use Rattle.std.proofs.lemmas.List.{append-nil, length-append, take_all, take_rest}
use Rattle.netlink_packet_core_grammar.specs.Attributes.{nla_align}
use Rattle.link_capture_grammar.specs.Captures.{first_frame, first_fault, texts}
use Rattle.link_capture_grammar.specs.Body.{link_body}
use Rattle.link_capture_reader.proofs.Passing.{passed_none, passed_fault, passed_texts, passed_stop_fault, passed_stop_texts, texts_nil, grown}
use Rattle.link_capture_reader.proofs.frames.push_frames.Goals as goal

pub loop-at-init : goal.loop-at-init
loop-at-init c = record { passed = passed_none _ _; capacity = omega arith; written = rw (texts_nil c.args.limit) (sym (append-nil c.args.out.now.items)) }

pub loop-at-preserved : goal.loop-at-preserved
loop-at-preserved c =
    let ok = c.in-Ok.ensures.ok in
    let frame = ap (first_frame link_body c.args.limit) (sym (take_rest c.args.bytes.now c.loop-at.at)) ∙ ok.1 in
    let w = c.loop-at.invariant in
    let size : c.nla_align-size.result ≡ nla_align c.in-Ok.length = c.nla_align-size.ensures in
    record {
      passed = record {
        inside = omega arith;
        start = omega (arith, w.passed.start);
        legal = rw size (passed_fault c.captures_unfold_by_frames.ensures c.args.limit c.args.bytes.now c.loop-at.at (c.in-Ok.length, ok.0) w.passed frame);
      };
      capacity = omega (arith, w.capacity, c.in-Ok.ensures.capacity);
      written = grown c.args.out.now.items (texts link_body c.args.limit (take c.loop-at.at c.args.bytes.now)) ok.0 w.written ok.2 (rw size (passed_texts c.captures_unfold_by_frames.ensures c.args.limit c.args.bytes.now c.loop-at.at (c.in-Ok.length, ok.0) w.passed frame));
    }

pub returns-then-size-bytes-clause-legal : goal.returns-then-size-bytes-clause-legal
returns-then-size-bytes-clause-legal c =
    let ok = c.in-Ok.ensures.ok in
    let frame = ap (first_frame link_body c.args.limit) (sym (take_rest c.args.bytes.now c.loop-at.at)) ∙ ok.1 in
    let w = c.loop-at.invariant in
    let size : c.nla_align-size.result ≡ nla_align c.in-Ok.length = c.nla_align-size.ensures in
    let whole : take (c.loop-at.at + nla_align c.in-Ok.length) c.args.bytes.now ≡ c.args.bytes.now = take_all _ _ (omega arith) in (
      ap (first_fault link_body c.args.limit) (sym whole) ∙ passed_fault c.captures_unfold_by_frames.ensures c.args.limit c.args.bytes.now c.loop-at.at (c.in-Ok.length, ok.0) w.passed frame,
      grown c.args.out.now.items (texts link_body c.args.limit (take c.loop-at.at c.args.bytes.now)) ok.0 w.written ok.2 (ap (texts link_body c.args.limit) (sym whole) ∙ passed_texts c.captures_unfold_by_frames.ensures c.args.limit c.args.bytes.now c.loop-at.at (c.in-Ok.length, ok.0) w.passed frame),
    )

pub returns-in-Err-clause-fault : goal.returns-in-Err-clause-fault
returns-in-Err-clause-fault c = λ n.
    let w = c.loop-at.invariant in
    let stuck = ap (first_frame link_body c.args.limit) (sym (take_rest c.args.bytes.now c.loop-at.at)) ∙ c.in-Err.ensures.refused n in (
      passed_stop_fault c.captures_unfold_by_frames.ensures c.args.limit c.args.bytes.now c.loop-at.at c.in-Err.kind w.passed (omega arith) stuck,
      c.in-Err.ensures.err ∙ w.written ∙ ap (λ t. c.args.out.now.items ++ t) (sym (passed_stop_texts c.captures_unfold_by_frames.ensures c.args.limit c.args.bytes.now c.loop-at.at c.in-Err.kind w.passed stuck)),
    )

pub returns-in-Err-clause-capacity : goal.returns-in-Err-clause-capacity
returns-in-Err-clause-capacity c = λ h.
    let w = c.loop-at.invariant in
    let m = c.in-Err.ensures.memory h in
    let size = ap length w.written ∙ length-append c.args.out.now.items (texts link_body c.args.limit (take c.loop-at.at c.args.bytes.now)) in
    (m.0, m.1, ap (first_frame link_body c.args.limit) (sym (take_rest c.args.bytes.now c.loop-at.at)) ∙ m.2, omega (arith, size, m.3, w.capacity))
