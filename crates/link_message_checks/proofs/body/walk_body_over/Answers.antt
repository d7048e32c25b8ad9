use Rattle.std.proofs.Common.{◌≡◌, Some, None, sym, ap, subst, ◌∙◌, arith}
use Rattle.std.proofs.lemmas.List.{take_rest}
use Rattle.std.proofs.lemmas.Bool.{and_parts}
use Rattle.attribute_tables_grammar.specs.Walks.{measure}
use Rattle.link_message_grammar.specs.Body.{with_body_header, body_rule, family, attributes_rule}
use Rattle.link_interpreter.specs.Measures.{view}
use Rattle.link_interpreter.specs.Prefixes.{IsCanonicalPrefix}
use Rattle.link_message_checks.specs.Prefixes.{IsBodyPrefix}
use Rattle.link_message_checks.proofs.Prefixes.{body_prefix}
use Rattle.link_message_checks.proofs.body.walk_body_over.Goals as goal

pub returns-then-bytes-lt-LINK_HEADER_LEN-clause-measure : goal.returns-then-bytes-lt-LINK_HEADER_LEN-clause-measure
returns-then-bytes-lt-LINK_HEADER_LEN-clause-measure g c = c.bodies_are_measured.ensures.short g.P.PeerSet.peer c.args.bytes.now (omega arith)

pub returns-in_default-clause-measure : goal.returns-in_default-clause-measure
returns-in_default-clause-measure g c = c.bodies_are_measured.ensures.long g.P.PeerSet.peer c.args.bytes.now None (omega arith) (c.in_default.ensures.measure ∙ ap (measure (attributes_rule g.P.PeerSet.peer (family c.args.bytes.now))) (take_rest c.args.bytes.now 16))

pub overflow_add-result : goal.overflow_add-result
overflow_add-result g c =
    let h = c.bodies_are_measured.ensures.long g.P.PeerSet.peer c.args.bytes.now (Some (view c.in-Some.found)) (omega arith) (c.in-Some.ensures.measure ∙ ap (measure (attributes_rule g.P.PeerSet.peer (family c.args.bytes.now))) (take_rest c.args.bytes.now 16)) in
    let m = c.measures_determine_rules.ensures.determines (body_rule g.P.PeerSet.peer) c.args.bytes.now (with_body_header (view c.in-Some.found)) h in
    let s = c.bodies_are_small.ensures g.P.PeerSet.peer c.peers_are_lawful.ensures c.args.bytes.now m.accepted in
    omega (arith, m.size, s)

pub returns-clause-measure : goal.returns-clause-measure
returns-clause-measure g c = c.bodies_are_measured.ensures.long g.P.PeerSet.peer c.args.bytes.now (Some (view c.in-Some.found)) (omega arith) (c.in-Some.ensures.measure ∙ ap (measure (attributes_rule g.P.PeerSet.peer (family c.args.bytes.now))) (take_rest c.args.bytes.now 16))

pub returns-clause-prefix : goal.returns-clause-prefix
returns-clause-prefix g c =
    let b = c.args.bytes.now in
    subst (IsBodyPrefix g.P.PeerSet.peer b) (sym c.prefix_of.ensures)
    (body_prefix g.P.PeerSet.peer b c.is_canonical_header-is_canonical_header.result _ c.in-Some.found.prefix (omega arith) c.is_canonical_header-is_canonical_header.ensures
    (subst (λ x. IsCanonicalPrefix (attributes_rule g.P.PeerSet.peer (family b)) x c.in-Some.found.prefix) (take_rest b 16) c.in-Some.ensures.prefix))

pub returns-clause-already_canonical : goal.returns-clause-already_canonical
returns-clause-already_canonical g c = λ h.
    let a = and_parts c.in-Some.found.is_canonical c.is_canonical_header-is_canonical_header.result h in
    c.bodies_are_measured.ensures.canonical_if_parts_are g.P.PeerSet.peer c.args.bytes.now (c.is_canonical_header-is_canonical_header.ensures a.1) (subst (λ x. (attributes_rule g.P.PeerSet.peer (family c.args.bytes.now)).canonical x ≡ x) (take_rest c.args.bytes.now 16) (c.in-Some.ensures.already_canonical a.0))
