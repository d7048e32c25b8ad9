use Rattle.std.proofs.Common.{◌≡◌, ◌≤◌, length, take, drop, sym, ap, subst, ◌∙◌}
use Rattle.std.proofs.lemmas.Slice.Eq.{bytes_eq-Decides}
use Rattle.netlink_packet_core.specs.Frames.{frame_type}
use Rattle.link_capture_grammar.specs.Bodies.{is_link_type}
use Rattle.link_capture_checks.proofs.Types.{one_type}
use Rattle.link_capture_checks.proofs.sameness.same_frame.Goals as goal

pub same_body-requires-clause-right : goal.same_body-requires-clause-right
same_body-requires-clause-right c = λ h.
    let a = c.args.left.now in
    let b = c.args.right.now in
    let kind : c.message_type-message_type.result ≡ frame_type a = c.message_type-message_type.ensures ∙ ap (λ v. frame_type v.now) c.new.ensures in
    let header : take 12 (drop 4 a) ≡ take 12 (drop 4 b) = (bytes_eq-Decides _ _).0 (sym c.eq.ensures ∙ c.if-eq.true) in
    let types = one_type a b c.requires.left.frame.has_header c.requires.right.frame.has_header header in
    subst (λ x. 16 ≤ length x) (sym c.frame_body-then-eq.ensures) (c.requires.right.body (ap is_link_type (sym types ∙ sym kind) ∙ h))
