use Rattle.std.proofs.Common.{Some, sym, ap, subst, ◌∙◌}
use Rattle.std.specs.Prelude.{option_map}
use Rattle.link_capture_lists.specs.ListTables.{IsLower, table_row}
use Rattle.link_capture_lists.proofs.Lookups.{of_table, row}
use Rattle.link_capture_lists.proofs.tables.table_row.Goals as goal

pub text_of-requires : goal.text_of-requires
text_of-requires c = (of_table c.args.table.0 c.args.kind _ (sym c.named_row.ensures ∙ ap (option_map row) c.in-Some.is)).name

pub returns-in-Some : goal.returns-in-Some
returns-in-Some c =
    let found = sym c.named_row.ensures ∙ ap (option_map row) c.in-Some.is in
    let r = of_table c.args.table.0 c.args.kind _ found in
    record {
      row = ap (λ n. Some (n, c.inside_of.result)) c.text_of.ensures ∙ ap (λ i. Some (c.in-Some.name.now, i)) c.inside_of.ensures ∙ ap table_row (sym found);
      lower = subst (IsLower c.args.table.0) (sym c.inside_of.ensures) r.lower;
    }

pub returns-in-None-clause-row : goal.returns-in-None-clause-row
returns-in-None-clause-row c = ap table_row (sym (sym c.named_row.ensures ∙ ap (option_map row) c.in-None.is))
