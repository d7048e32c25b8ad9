use Rattle.std.proofs.Common.{◌++◌, length, take, drop, sym, ap, ◌∙◌, append_assoc, arith}
use Rattle.std.proofs.lemmas.Bool.{and_parts}
use Rattle.std.proofs.lemmas.List.{length-append, length-take-le, take_rest}
use Rattle.link_message_grammar.specs.Body.{attribute_bytes, family, header_text, attributes_rule}
use Rattle.link_message_grammar.proofs.Body.{written_header}
use Rattle.link_message_checks.proofs.Prefixes.{body_continues}
use Rattle.link_message_checks.proofs.body.write_body_over.Goals as goal

pub write_header-requires-clause-capacity : goal.write_header-requires-clause-capacity
write_header-requires-clause-capacity g c =
    let b = c.args.bytes.now in
    let p = c.body_laws_hold.ensures.headers_and_attributes b in
    let header = written_header b (and_parts _ _ (sym p.accepted ∙ c.requires.accepted)).0 in
    let size = ap length p.canonical ∙ length-append (header_text b) ((attributes_rule g.P.PeerSet.peer (family b)).canonical (attribute_bytes b)) in
    omega (arith, size, header.size, c.requires.capacity)

pub write_attributes-requires-clause-accepted : goal.write_attributes-requires-clause-accepted
write_attributes-requires-clause-accepted g c =
    let b = c.args.bytes.now in
    let p = c.body_laws_hold.ensures.headers_and_attributes b in
    ap (attributes_rule g.P.PeerSet.peer (family b)).accepted (take_rest b 16) ∙ (and_parts _ _ (sym p.accepted ∙ c.requires.accepted)).1

pub write_attributes-requires-clause-fits : goal.write_attributes-requires-clause-fits
write_attributes-requires-clause-fits g c =
    let b = c.args.bytes.now in
    let p = c.body_laws_hold.ensures.headers_and_attributes b in
    ap (attributes_rule g.P.PeerSet.peer (family b)).fits (take_rest b 16) ∙ sym p.fits ∙ c.requires.fits

pub write_attributes-requires-clause-capacity : goal.write_attributes-requires-clause-capacity
write_attributes-requires-clause-capacity g c =
    let b = c.args.bytes.now in
    let p = c.body_laws_hold.ensures.headers_and_attributes b in
    let size = ap length p.canonical ∙ length-append (header_text b) ((attributes_rule g.P.PeerSet.peer (family b)).canonical (attribute_bytes b)) in
    let rest = ap (λ x. length ((attributes_rule g.P.PeerSet.peer (family b)).canonical x)) (take_rest b 16) in
    let header = ap length c.write_header.ensures.text ∙ length-append c.args.out.now.items (header_text b) in
    omega (arith, size, rest, header, c.requires.capacity, c.write_header.ensures.capacity)

pub returns-then-prefix-lt-LINK_HEADER_LEN-clause-text : goal.returns-then-prefix-lt-LINK_HEADER_LEN-clause-text
returns-then-prefix-lt-LINK_HEADER_LEN-clause-text g c =
    let b = c.args.bytes.now in
    let out = c.args.out.now.items in
    let p = c.body_laws_hold.ensures.headers_and_attributes b in
    let rule = attributes_rule g.P.PeerSet.peer (family b) in
    c.write_attributes.ensures.text ∙ ap (λ x. c.write_header.new.out.items ++ rule.canonical x) (take_rest b 16)
    ∙ ap (λ x. x ++ rule.canonical (attribute_bytes b)) c.write_header.ensures.text
    ∙ append_assoc out (header_text b) (rule.canonical (attribute_bytes b))
    ∙ ap (λ x. out ++ x) (sym p.canonical)

pub append-requires : goal.append-requires
append-requires g c =
    let on = body_continues g.P.PeerSet.peer c.body_laws_hold.ensures.headers_and_attributes c.args.bytes.now c.args.prefix (omega arith) c.requires.prefix c.requires.accepted c.requires.fits in
    omega (arith, on.size, length-take-le c.args.prefix c.args.bytes.now c.requires.prefix.within, c.requires.capacity)

pub write_attributes-requires-else-prefix-lt-LINK_HEADER_LEN-clause-accepted : goal.write_attributes-requires-else-prefix-lt-LINK_HEADER_LEN-clause-accepted
write_attributes-requires-else-prefix-lt-LINK_HEADER_LEN-clause-accepted g c =
    let b = c.args.bytes.now in
    let on = body_continues g.P.PeerSet.peer c.body_laws_hold.ensures.headers_and_attributes b c.args.prefix (omega arith) c.requires.prefix c.requires.accepted c.requires.fits in
    ap (attributes_rule g.P.PeerSet.peer (family b)).accepted (take_rest b c.args.prefix) ∙ on.accepted

pub write_attributes-requires-else-prefix-lt-LINK_HEADER_LEN-clause-fits : goal.write_attributes-requires-else-prefix-lt-LINK_HEADER_LEN-clause-fits
write_attributes-requires-else-prefix-lt-LINK_HEADER_LEN-clause-fits g c =
    let b = c.args.bytes.now in
    let on = body_continues g.P.PeerSet.peer c.body_laws_hold.ensures.headers_and_attributes b c.args.prefix (omega arith) c.requires.prefix c.requires.accepted c.requires.fits in
    ap (attributes_rule g.P.PeerSet.peer (family b)).fits (take_rest b c.args.prefix) ∙ on.fits

pub write_attributes-requires-else-prefix-lt-LINK_HEADER_LEN-clause-capacity : goal.write_attributes-requires-else-prefix-lt-LINK_HEADER_LEN-clause-capacity
write_attributes-requires-else-prefix-lt-LINK_HEADER_LEN-clause-capacity g c =
    let b = c.args.bytes.now in
    let on = body_continues g.P.PeerSet.peer c.body_laws_hold.ensures.headers_and_attributes b c.args.prefix (omega arith) c.requires.prefix c.requires.accepted c.requires.fits in
    let rest = ap (λ x. length ((attributes_rule g.P.PeerSet.peer (family b)).canonical x)) (take_rest b c.args.prefix) in
    let prefix = ap length c.append.ensures.text ∙ length-append c.args.out.now.items (take c.args.prefix b) in
    omega (arith, on.size, rest, prefix, length-take-le c.args.prefix b c.requires.prefix.within, c.requires.capacity, c.append.ensures.capacity)

pub returns-else-prefix-lt-LINK_HEADER_LEN-clause-text : goal.returns-else-prefix-lt-LINK_HEADER_LEN-clause-text
returns-else-prefix-lt-LINK_HEADER_LEN-clause-text g c =
    let b = c.args.bytes.now in
    let out = c.args.out.now.items in
    let inner = attributes_rule g.P.PeerSet.peer (family b) in
    let on = body_continues g.P.PeerSet.peer c.body_laws_hold.ensures.headers_and_attributes b c.args.prefix (omega arith) c.requires.prefix c.requires.accepted c.requires.fits in
    c.write_attributes-else-prefix-lt-LINK_HEADER_LEN.ensures.text ∙ ap (λ x. c.append.new.out.items ++ inner.canonical x) (take_rest b c.args.prefix)
    ∙ ap (λ x. x ++ inner.canonical (drop c.args.prefix b)) c.append.ensures.text
    ∙ append_assoc out (take c.args.prefix b) (inner.canonical (drop c.args.prefix b))
    ∙ ap (λ x. out ++ x) (sym on.text)
