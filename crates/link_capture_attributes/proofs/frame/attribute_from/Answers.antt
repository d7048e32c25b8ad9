use Rattle.std.proofs.Common.{◌≡◌, ◌+◌, true, cond, drop, length, [], None, sym, ap, ◌∙◌, arith, rules}
use Rattle.std.proofs.lemmas.List.{drop_all}
use Rattle.netlink_packet_core_grammar.specs.Frames.{frame_body, frame_type}
use Rattle.link_capture_grammar.specs.Bodies.{is_link_type}
use Rattle.link_tables.specs.declared.rows.Form.TheVariants.{Any}
use Rattle.link_capture_lists.specs.ListTables.{whole}
use Rattle.link_capture_attributes.specs.Attributes.{first_from, frame_attributes, link_level, list_attributes}
use Rattle.link_capture_attributes.proofs.Places.{no_bytes}
use Rattle.link_capture_attributes.proofs.frame.attribute_from.Goals as goal

pub returns-then-body-lt-LINK_HEADER_LEN-clause-found : goal.returns-then-body-lt-LINK_HEADER_LEN-clause-found
unfolding frame_attributes
returns-then-body-lt-LINK_HEADER_LEN-clause-found c =
    let b = frame_body c.args.bytes.now in
    let link : is_link_type (frame_type c.args.bytes.now) ≡ true = search rules in
    let size = ap length c.frame_body-body.ensures in
    sym (ap (λ t. first_from c.args.position (cond t (list_attributes (link_level b) (c.args.offset + 16 + 16) (drop 16 b)) [])) link
    ∙ ap (λ d. first_from c.args.position (list_attributes (link_level b) (c.args.offset + 16 + 16) d)) (drop_all 16 b (omega (arith, size, c.if-body-lt-LINK_HEADER_LEN.true)))
    ∙ ap (first_from c.args.position) (no_bytes c.lists_unfold_by_attributes.ensures (link_level b) (c.args.offset + 16 + 16)))

pub returns-clause-found : goal.returns-clause-found
unfolding frame_attributes
returns-clause-found c =
    let b = frame_body c.args.bytes.now in
    let link : is_link_type (frame_type c.args.bytes.now) ≡ true = search rules in
    let at = c.args.offset + 16 + 16 in
    let position = c.args.position in
    c.attribute_in.ensures.found
    ∙ ap (λ x. first_from position (list_attributes (record { list = x; depth = 0; link_kind = None }) at c.following.result.now)) (c.whole.ensures ∙ ap (λ t. whole Any t true) c.family_table.ensures.is)
    ∙ ap (λ d. first_from position (list_attributes (link_level c.frame_body-body.result.now) at d)) c.following.ensures
    ∙ ap (λ d. first_from position (list_attributes (link_level d) at (drop 16 d))) c.frame_body-body.ensures
    ∙ sym (ap (λ t. first_from c.args.position (cond t (list_attributes (link_level b) (c.args.offset + 16 + 16) (drop 16 b)) [])) link)
