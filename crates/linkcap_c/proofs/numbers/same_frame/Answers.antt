use Rattle.std.proofs.Common.{◌≡◌, ◌≤◌, true, false, length, take, drop, sym, ap, subst, ◌∙◌}
use Rattle.std.proofs.lemmas.Slice.Eq.{bytes_eq-Decides}
use Rattle.netlink_packet_core.specs.Frames.{frame_type, frame_body}
use Rattle.link_capture_grammar.specs.Bodies.{is_link_type}
use Rattle.link_capture_grammar.specs.Same.{same_body}
use Rattle.linkcap_c.specs.Apart.{body_without_numbers}
use Rattle.link_capture_grammar.specs.Body.{link_body}
use Rattle.linkcap_c.proofs.Apart.{bodies, one_kind, same_frames, other_headers}
use Rattle.linkcap_c.proofs.numbers.same_frame.Goals as goal

pub same_body-requires-clause-right : goal.same_body-requires-clause-right
same_body-requires-clause-right c = λ h.
    let a = c.args.left.now in
    let b = c.args.right.now in
    let kind : c.message_type-message_type.result ≡ frame_type a = c.message_type-message_type.ensures ∙ ap (λ v. frame_type v.now) c.new.ensures in
    let header : take 4 (drop 4 a) ≡ take 4 (drop 4 b) = (bytes_eq-Decides _ _).0 (sym c.eq.ensures ∙ c.if-eq.true) in
    let types = one_kind a b c.requires.left.frame c.requires.right.frame header in
    subst (λ x. 16 ≤ length x) (sym c.frame_body-then-eq.ensures) (c.requires.right.body (ap is_link_type (sym types ∙ sym kind) ∙ h))

pub returns-then-eq : goal.returns-then-eq
returns-then-eq c =
    let a = c.args.left.now in
    let b = c.args.right.now in
    let f = c.requires.left.frame in
    let g = c.requires.right.frame in
    let kind : c.message_type-message_type.result ≡ frame_type a = c.message_type-message_type.ensures ∙ ap (λ v. frame_type v.now) c.new.ensures in
    let header : take 4 (drop 4 a) ≡ take 4 (drop 4 b) = (bytes_eq-Decides _ _).0 (sym c.eq.ensures ∙ c.if-eq.true) in
    let answer : c.same_body.result ≡ bodies a b f g =
    c.same_body.ensures
    ∙ ap (λ t. same_body link_body t (body_without_numbers t c.frame_body.result.now) (body_without_numbers t c.frame_body-then-eq.result.now)) kind
    ∙ ap (λ x. same_body link_body (frame_type a) (body_without_numbers (frame_type a) x) (body_without_numbers (frame_type a) c.frame_body-then-eq.result.now)) c.frame_body.ensures
    ∙ ap (λ x. same_body link_body (frame_type a) (body_without_numbers (frame_type a) (frame_body a)) (body_without_numbers (frame_type a) x)) c.frame_body-then-eq.ensures in
    same_frames a b f g header c.same_body.result answer

pub returns-else-eq : goal.returns-else-eq
returns-else-eq c =
    let a = c.args.left.now in
    let b = c.args.right.now in
    other_headers a b c.requires.left.frame c.requires.right.frame (λ h. absurd (let z : true ≡ false = sym ((bytes_eq-Decides (take 4 (drop 4 a)) (take 4 (drop 4 b))).1 h) ∙ (sym c.eq.ensures ∙ c.if-eq.false) in cc)) c.eq.result c.if-eq.false
