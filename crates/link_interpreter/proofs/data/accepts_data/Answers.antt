use Rattle.std.proofs.Common.{sym, ap, ◌∙◌}
use Rattle.attribute_tables_grammar.specs.Walks.{measure}
use Rattle.link_info_grammar.specs.LinkInfo.{data_rule}
use Rattle.link_info_grammar.specs.Families.{kinds}
use Rattle.link_interpreter.proofs.Accepted.{some_accepted}
use Rattle.link_interpreter.proofs.data.accepts_data.Goals as goal

pub returns : goal.returns
unfolding data_rule
returns g c =
    let p = g.P.PeerSet.peer in
    let rule = c.data_held.ensures.rule p ∙ sym (c.names_are_looked_up.ensures p kinds c.args.name.now) in
    let bytes = c.args.payload.now in
    c.is_some.ensures ∙ some_accepted c.measures_determine_rules.ensures (data_rule p c.args.name.now) bytes c.measure_held.result (c.measure_held.ensures.measure ∙ ap (λ r. measure r bytes) rule)
