use Rattle.std.proofs.Common.{drop, sym, ap}
use Rattle.link_lines_json.specs.Tokens.{terms}
use Rattle.link_lines_json.proofs.values.push_first_assignment.Goals as goal

pub returns-in_default-split_term-clause-rest : goal.returns-in_default-split_term-clause-rest
unfolding terms
returns-in_default-split_term-clause-rest c = ap (drop 1) (sym c.in_default-split_term.ensures.none)
