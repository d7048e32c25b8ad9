use Rattle.std.proofs.Common.{sym, ap, subst, ◌∙◌}
use Rattle.link_tables.specs.declared.table.TheConstants.{LINK_INFO}
use Rattle.link_tables.specs.InForce.{in_force}
use Rattle.link_capture_lists.proofs.Lookups.{info_lower}
use Rattle.link_capture_lists.specs.ListTables.{IsLower, info_inside}
use Rattle.link_capture_lists.proofs.tables.info_inside.Goals as goal

pub returns-in-Some-clause-lower : goal.returns-in-Some-clause-lower
returns-in-Some-clause-lower c =
    let is = c.inside_of.ensures ∙ ap (info_inside c.args.kind) (sym c.in-Some.is ∙ c.info_held.ensures.is) in
    subst (IsLower LINK_INFO.0) (sym is) (info_lower (in_force c.args.force) c.args.kind)
