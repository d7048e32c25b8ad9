use Rattle.std.proofs.Common.{sym, ap}
use Rattle.link_message_grammar.specs.LinkMessage.{family_of, link_table}
use Rattle.link_tables.specs.Tables.{table_of}
use Rattle.link_tables.proofs.Families.{family_other}
use Rattle.link_tables.proofs.table.family_table.Goals as goal

pub returns-then-family-eq-AF_UNSPEC-clause-table : goal.returns-then-family-eq-AF_UNSPEC-clause-table
unfolding table_of
returns-then-family-eq-AF_UNSPEC-clause-table c = ap (λ n. link_table (family_of n)) (sym c.if-family-eq-AF_UNSPEC.true)

pub returns-then-family-eq-AF_BRIDGE-clause-table : goal.returns-then-family-eq-AF_BRIDGE-clause-table
unfolding table_of
returns-then-family-eq-AF_BRIDGE-clause-table c = ap (λ n. link_table (family_of n)) (sym c.if-family-eq-AF_BRIDGE.true)

pub returns-then-family-eq-AF_INET6-clause-table : goal.returns-then-family-eq-AF_INET6-clause-table
unfolding table_of
returns-then-family-eq-AF_INET6-clause-table c = ap (λ n. link_table (family_of n)) (sym c.if-family-eq-AF_INET6.true)

pub returns-else-family-eq-AF_INET6-clause-table : goal.returns-else-family-eq-AF_INET6-clause-table
unfolding table_of
returns-else-family-eq-AF_INET6-clause-table c = ap link_table (family_other c.args.family c.if-family-eq-AF_UNSPEC.false c.if-family-eq-AF_BRIDGE.false c.if-family-eq-AF_INET6.false)
