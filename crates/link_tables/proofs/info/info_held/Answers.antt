use Rattle.std.proofs.Common.{sym, ap, ◌∙◌}
use Rattle.std.specs.Prelude.{option_map}
use Rattle.link_info_grammar.specs.LinkInfo.{data_rule, port_data_rule}
use Rattle.link_info_grammar.specs.Families.{kinds, port_kinds}
use Rattle.link_tables.specs.InForce.{in_force}
use Rattle.link_tables.proofs.InfoRows.{data_row, port_row}
use Rattle.link_tables.proofs.info.info_held.Goals as goal

pub returns-in-Some-clause-some : goal.returns-in-Some-clause-some
unfolding data_rule port_data_rule
returns-in-Some-clause-some c p =
    c.data_held.ensures.rule p ∙ sym (c.names_are_looked_up.ensures p kinds c.in-Some.name.now)
    ∙ data_row (data_rule p) (port_data_rule p) (in_force c.args.force) c.args.kind c.in-Some.name.now c.in-2.is (ap (option_map (λ b. b.now)) c.in-Some.is)

pub returns-in-Some-port_kind-clause-some : goal.returns-in-Some-port_kind-clause-some
unfolding data_rule port_data_rule
returns-in-Some-port_kind-clause-some c p =
    c.port_held.ensures.rule p ∙ sym (c.names_are_looked_up.ensures p port_kinds c.in-Some-port_kind.name.now)
    ∙ port_row (data_rule p) (port_data_rule p) (in_force c.args.force) c.args.kind c.in-Some-port_kind.name.now c.in-5.is (ap (option_map (λ b. b.now)) c.in-Some-port_kind.is)
