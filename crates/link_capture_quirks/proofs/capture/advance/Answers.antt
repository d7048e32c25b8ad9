use Rattle.std.proofs.Common.{◌≡◌, ◌+◌, ◌-◌, ◌≤◌, ◌++◌, [], length, drop, Ok, Err, Some, sym, ap, subst, ◌∙◌, arith, length-drop}
use Rattle.std.proofs.lemmas.List.{drop-drop, take_rest}
use Rattle.netlink_packet_core_grammar.specs.Attributes.{nla_align}
use Rattle.link_capture_grammar.specs.Captures.{first_fault, first_frame, shifted}
use Rattle.link_capture_quirks.specs.CaptureQuirks.{frame_quirks}
use Rattle.link_capture_quirks.specs.QuirkWalks.{walk_quirks, rest_quirks, rest_fault}
use Rattle.link_message_grammar.specs.Body.{link_body}
use Rattle.link_capture_quirks.proofs.Entering.{quirks-after-frame}
use Rattle.link_capture_quirks.proofs.capture.advance.Goals as goal

pub enter-requires-clause-body : goal.enter-requires-clause-body
enter-requires-clause-body c = (c.sameness_unfolds_by_frames.ensures.judged c.args.limit _ _ c.in-Ok.ensures.ok.is).body

pub frames-preserved : goal.frames-preserved
frames-preserved c =
    let bytes = c.args.bytes.now in
    let limit = c.args.limit in
    let at = c.frames.position in
    let text = c.in-Ok.text in
    let m = c.in-Ok.ensures.ok in
    let rest = drop at bytes in
    let there : first_frame link_body limit rest ≡ Ok (text.len, m.text) = subst (λ x. first_frame link_body limit x ≡ Ok (text.len, m.text)) (take_rest bytes at) m.is in
    let size : c.nla_align-position.result ≡ nla_align text.len = c.nla_align-position.ensures in
    let high : text.len ≤ length rest = subst (λ x. text.len ≤ length x) (take_rest bytes at) c.in-Ok.ensures.bounds.1 in
    let left : length rest ≡ length bytes - at = length-drop at bytes in
    let now = walk_quirks c.enter.new.self.first c.enter.new.self.second c.enter.new.self.levels.items in
    let before = walk_quirks c.next.new.self.first c.next.new.self.second c.next.new.self.levels.items in
    let entered : now ≡ frame_quirks at rest = c.enter.ensures.quirks_left ∙ ap (frame_quirks at) (take_rest bytes at) in
    record {
      near = omega (arith, size, high, left);
      within = c.enter.ensures.within;
      quirks_left =
          ap (λ z. z ++ rest_quirks limit bytes (at + c.nla_align-position.result)) entered
          ∙ ap (λ n. frame_quirks at rest ++ rest_quirks limit bytes (at + n)) size
          ∙ sym (quirks-after-frame c.quirks_unfold_by_frames.ensures limit at text.len bytes m.text there)
          ∙ ap (λ z. z ++ rest_quirks limit bytes at) (sym c.in_default.ensures.none)
          ∙ c.frames.invariant.quirks_left;
      fault =
          ap (λ n. rest_fault limit bytes (at + n)) size
          ∙ ap (λ x. shifted (at + nla_align text.len) (first_fault link_body limit x)) (sym (drop-drop (nla_align text.len) at bytes))
          ∙ sym (c.captures_are_counted.ensures.next_fault limit at rest (text.len, m.text) there)
          ∙ c.frames.invariant.fault;
    }

pub returns-in-Err-clause-next : goal.returns-in-Err-clause-next
returns-in-Err-clause-next c =
    let bytes = c.args.bytes.now in
    let limit = c.args.limit in
    let at = c.frames.position in
    let rest = drop at bytes in
    let there : first_frame link_body limit rest ≡ Err c.in-Err.kind = subst (λ x. first_frame link_body limit x ≡ Err c.in-Err.kind) (take_rest bytes at) c.in-Err.ensures.err in
    let left : length rest ≡ length bytes - at = length-drop at bytes in
    let none : rest_quirks limit bytes at ≡ [] = c.quirks_unfold_by_frames.ensures.fault limit at rest c.in-Err.kind there in
    let here : first_fault link_body limit rest ≡ Some (record { kind = c.in-Err.kind; offset = 0 }) = c.captures_unfold_by_frames.ensures.first_frame_fault limit rest c.in-Err.kind (omega (arith, left, c.if-position-bytes.false)) there in
    let e : at + 0 ≡ at = omega arith in (
      sym c.frames.invariant.quirks_left ∙ ap (λ z. z ++ rest_quirks limit bytes at) c.in_default.ensures.none ∙ none,
      sym c.frames.invariant.fault ∙ ap (shifted at) here ∙ ap (λ n. Some (record { kind = c.in-Err.kind; offset = n })) e,
      c.in_default.ensures.ended,
    )
