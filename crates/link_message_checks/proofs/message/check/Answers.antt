use Rattle.std.proofs.Common.{sym}
use Rattle.link_message_grammar.specs.Body.{link_body}
use Rattle.link_interpreter.specs.Measures.{view}
use Rattle.link_message_checks.proofs.message.check.Goals as goal

pub returns-in_default-clause-ok : goal.returns-in_default-clause-ok
returns-in_default-clause-ok c = sym (c.measures_determine_rules.ensures.rejects link_body c.args.bytes.now c.in_default.ensures.measure)

pub returns-clause-ok : goal.returns-clause-ok
returns-clause-ok c = sym (c.measures_determine_rules.ensures.determines link_body c.args.bytes.now (view c.in-Some.found) c.in-Some.ensures.measure).accepted

pub returns-clause-measure : goal.returns-clause-measure
returns-clause-measure c =
    let m = c.measures_determine_rules.ensures.determines link_body c.args.bytes.now (view c.in-Some.found) c.in-Some.ensures.measure in
    record { text_len = m.size; attributes = m.attributes; fits = m.fits; empty_ports = m.empty_ports }
