use Rattle.std.proofs.Common.{◌≡◌, true, ap, subst, ◌∙◌}
use Rattle.std.specs.Prelude.{IfSome}
use Rattle.attribute_tables_grammar.specs.Walks.{measure}
use Rattle.link_message_grammar.specs.LinkMessage.{family_of}
use Rattle.link_interpreter.specs.Prefixes.{IsCanonicalPrefix}
use Rattle.link_tables.specs.Tables.{table_of}
use Rattle.link_message_checks.proofs.Prefixes.{attributes_are_rows}
use Rattle.link_message_checks.proofs.body.walk_attributes.Goals as goal

pub returns : goal.returns
returns g c =
    let bytes = c.args.bytes.now in
    let is = attributes_are_rows c.rows_are_looked_up.ensures g.P.PeerSet.peer (family_of c.args.family) (table_of c.family_table.result.0) c.family_table.ensures.table in
    record {
      measure = c.walk_list.ensures.measure ∙ ap (λ r. measure r bytes) is;
      already_canonical = subst (λ r. IfSome c.walk_list.result (λ m. m.is_canonical ≡ true → r.canonical bytes ≡ bytes)) is c.walk_list.ensures.already_canonical;
      prefix = subst (λ r. IfSome c.walk_list.result (λ m. IsCanonicalPrefix r bytes m.prefix)) is c.walk_list.ensures.prefix;
    }
