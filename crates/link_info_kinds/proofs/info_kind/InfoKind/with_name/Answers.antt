use Rattle.std.proofs.Common.{sym, ◌∙◌}
use Rattle.link_info_kinds.proofs.Named.{kind-early, kind-late}
use Rattle.link_info_kinds.proofs.info_kind.InfoKind.with_name.Goals as goal

pub returns-in-Some : goal.returns-in-Some
returns-in-Some c = sym (kind-early c.args.name.now c.in-Some.kind (sym c.with_early_name.ensures ∙ c.in-Some.is))

pub returns-in-None : goal.returns-in-None
returns-in-None c = c.with_late_name.ensures ∙ sym (kind-late c.args.name.now (sym c.with_early_name.ensures ∙ c.in-None.is))
