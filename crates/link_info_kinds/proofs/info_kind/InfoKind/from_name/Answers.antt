use Rattle.std.proofs.Common.{sym, ◌∙◌}
use Rattle.link_info_kinds.proofs.Named.{kind-found}
use Rattle.link_info_kinds.proofs.info_kind.InfoKind.from_name.Goals as goal

pub returns-in-Some-clause-text : goal.returns-in-Some-clause-text
returns-in-Some-clause-text c = (kind-found c.args.name.now c.in-Some.kind (sym c.with_name.ensures ∙ c.in-Some.is)).0

pub returns-in-Some-clause-named : goal.returns-in-Some-clause-named
returns-in-Some-clause-named c = (kind-found c.args.name.now c.in-Some.kind (sym c.with_name.ensures ∙ c.in-Some.is)).1
