use Rattle.std.proofs.Common.{sym, ap, ◌∙◌}
use Rattle.std.proofs.lemmas.List.{take_rest}
use Rattle.std.specs.Prelude.{◌&&◌}
use Rattle.link_message_grammar.specs.Body.{attribute_bytes, family, attributes_rule}
use Rattle.link_message_checks.proofs.body.same_body_over.Goals as goal

pub returns-then-same_header : goal.returns-then-same_header
returns-then-same_header g c =
    let a = c.args.left.now in
    let b = c.args.right.now in
    c.same_attributes.ensures
    ∙ (λ i. (attributes_rule g.P.PeerSet.peer (family a)).same (take_rest a 16 i) (take_rest b 16 i))
    ∙ ap (λ v. v && (attributes_rule g.P.PeerSet.peer (family a)).same (attribute_bytes a) (attribute_bytes b)) (sym c.if-same_header.true ∙ c.same_header.ensures)
    ∙ sym ((c.body_laws_hold.ensures.headers_and_attributes a).same b)

pub returns-else-same_header : goal.returns-else-same_header
returns-else-same_header g c =
    let a = c.args.left.now in
    let b = c.args.right.now in
    c.if-same_header.false
    ∙ ap (λ v. v && (attributes_rule g.P.PeerSet.peer (family a)).same (attribute_bytes a) (attribute_bytes b)) (sym c.if-same_header.false ∙ c.same_header.ensures)
    ∙ sym ((c.body_laws_hold.ensures.headers_and_attributes a).same b)
