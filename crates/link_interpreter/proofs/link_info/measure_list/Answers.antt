use Rattle.link_info_grammar.specs.LinkInfo.{info_rule, info_grammar, data_rule, port_data_rule}
use Rattle.link_interpreter.proofs.link_info.measure_list.Goals as goal

pub returns-clause-measure : goal.returns-clause-measure
unfolding info_rule info_grammar data_rule port_data_rule
returns-clause-measure g c = c.measure_info.ensures.measure

pub returns-clause-already_canonical : goal.returns-clause-already_canonical
unfolding info_rule info_grammar data_rule port_data_rule
returns-clause-already_canonical g c = c.measure_info.ensures.already_canonical
