use Rattle.std.proofs.Common.{sym, ap, ◌∙◌}
use Rattle.attribute_tables_grammar.specs.Walks.{measure}
use Rattle.link_info_grammar.specs.LinkInfo.{port_data_rule}
use Rattle.link_info_grammar.specs.Families.{port_kinds}
use Rattle.link_interpreter.proofs.Accepted.{some_accepted}
use Rattle.link_interpreter.proofs.data.accepts_port_data.Goals as goal

pub returns : goal.returns
unfolding port_data_rule
returns g c =
    let p = g.P.PeerSet.peer in
    let rule = c.port_held.ensures.rule p ∙ sym (c.names_are_looked_up.ensures p port_kinds c.args.name.now) in
    let bytes = c.args.payload.now in
    c.is_some.ensures ∙ some_accepted c.measures_determine_rules.ensures (port_data_rule p c.args.name.now) bytes c.measure_held.result (c.measure_held.ensures.measure ∙ ap (λ r. measure r bytes) rule)
