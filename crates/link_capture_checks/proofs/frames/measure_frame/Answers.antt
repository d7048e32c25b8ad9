use Rattle.std.proofs.Common.{◌≡◌, ◌+◌, ◌≤◌, ◌∙◌, length, Ok, refl, sym, ap, subst, arith, rules}
use Rattle.netlink_packet_core_grammar.specs.Attributes.{nla_align}
use Rattle.netlink_packet_core.specs.Frames.{frame_type, frame_body, frame_text}
use Rattle.link_message_grammar.specs.Body.{link_peer, link_body}
use Rattle.link_message_checks.specs.Prefixes.{IsBodyPrefix}
use Rattle.link_capture_grammar.specs.Bodies.{body_text}
use Rattle.link_capture_grammar.specs.Numbers.{body_attribute_count}
use Rattle.link_capture_checks.proofs.frames.measure_frame.Goals as goal

pub returns-in_err-len-clause-err : goal.returns-in_err-len-clause-err
returns-in_err-len-clause-err c =
    let k = c.frames_are_judged.ensures.header c.args.limit c.args.bytes.now c.in_err-len.field-0.0 c.in_err-len.ensures.err in
    search rules

pub returns-in_err-body_len-clause-err : goal.returns-in_err-body_len-clause-err
returns-in_err-body_len-clause-err c =
    let bytes = c.args.bytes.now in
    let ok = c.in_ok-len.ensures.ok in
    let kind : c.message_type-message_type.result ≡ frame_type bytes = c.message_type-message_type.ensures ∙ ap (λ v. frame_type v.now) c.new.ensures in
    let slice : c.frame_body.result.now ≡ frame_body bytes = c.frame_body.ensures in
    let judged = sym (ap (λ t. body_text link_body t (frame_body bytes)) kind) ∙ sym (ap (body_text link_body c.message_type-message_type.result) slice) ∙ c.in_err-body_len.ensures.err in
    let k = c.frames_are_judged.ensures.body c.args.limit bytes c.in_err-body_len.field-0.0 ok.2 (omega (arith, ok.0, ok.1)) judged in
    search rules

pub returns-clause-ok : goal.returns-clause-ok
returns-clause-ok c =
    let bytes = c.args.bytes.now in
    let ok = c.in_ok-len.ensures.ok in
    let body = c.in_ok-body_len.ensures.ok in
    let kind : c.message_type-message_type.result ≡ frame_type bytes = c.message_type-message_type.ensures ∙ ap (λ v. frame_type v.now) c.new.ensures in
    let slice : c.frame_body.result.now ≡ frame_body bytes = c.frame_body.ensures in
    let judged = sym (ap (λ t. body_text link_body t (frame_body bytes)) kind) ∙ sym (ap (body_text link_body c.message_type-message_type.result) slice) ∙ body.is in
    let inside = body.attributes ∙ ap (body_attribute_count link_body c.message_type-message_type.result) slice ∙ ap (λ t. body_attribute_count link_body t (frame_body bytes)) kind in
    let small : 16 + length body.text ≤ c.args.limit = omega (arith, body.len, ok.1) in
    record {
      whole = ok.2;
      body = body.text;
      judged = judged;
      text = frame_text bytes body.text;
      written = refl;
      is = c.frames_are_judged.ensures.ok c.args.limit bytes body.text ok.2 (omega (arith, ok.0, ok.1)) judged small ∙ ap (λ n. Ok (n, frame_text bytes body.text)) (sym ok.0);
      bound = ok.1;
      size = omega (arith, body.len);
      small = omega (arith, body.len, small);
      text_len = c.nla_align.ensures ∙ ap (λ n. nla_align (16 + n)) body.len ∙ sym (c.frames_are_judged.ensures.size bytes body.text ok.2.has_header);
      aligned = c.nla_align.ensures;
      attributes = inside;
      canonical = λ h. body.canonical h ∙ slice;
      canonical_prefix = subst (λ x. IsBodyPrefix link_peer x c.in_ok-body_len.field-0.canonical_prefix) slice c.in_ok-body_len.ensures.canonical_prefix;
    }
