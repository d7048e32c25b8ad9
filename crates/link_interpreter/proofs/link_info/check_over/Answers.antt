use Rattle.std.proofs.Common.{sym}
use Rattle.link_info_grammar.specs.LinkInfo.{info_rule}
use Rattle.link_interpreter.specs.Measures.{view}
use Rattle.link_interpreter.proofs.link_info.check_over.Goals as goal

pub returns-in_default-clause-ok : goal.returns-in_default-clause-ok
returns-in_default-clause-ok g c = sym (c.measures_determine_rules.ensures.rejects (info_rule g.P.PeerSet.peer) c.args.bytes.now c.in_default.ensures.measure)

pub returns-clause-ok : goal.returns-clause-ok
returns-clause-ok g c = sym (c.measures_determine_rules.ensures.determines (info_rule g.P.PeerSet.peer) c.args.bytes.now (view c.in-Some.found) c.in-Some.ensures.measure).accepted

pub returns-clause-measure : goal.returns-clause-measure
returns-clause-measure g c =
    let m = c.measures_determine_rules.ensures.determines (info_rule g.P.PeerSet.peer) c.args.bytes.now (view c.in-Some.found) c.in-Some.ensures.measure in
    record { text_len = m.size; attributes = m.attributes; fits = m.fits }
