use Rattle.std.proofs.Common.{arith}
use Rattle.link_tables.specs.declared.rows.Row.TheVariants.{Unlisted}
use Rattle.link_tables.proofs.LookUps.{kind_at_index, line_outside, line_at_index}
use Rattle.link_tables.proofs.rows.TableRows.look_up.Goals as goal

pub returns-then-index-self-clause-line : goal.returns-then-index-self-clause-line
returns-then-index-self-clause-line c indexed tables info = line_at_index tables info c.args.self.rows.now (Unlisted c.args.self.first) _ c.args.self.first _ c.args.kind indexed.first indexed.dense (omega arith) (omega arith)

pub returns-else-index-self-clause-line : goal.returns-else-index-self-clause-line
returns-else-index-self-clause-line c indexed tables info = line_outside tables info c.args.self.rows.now (Unlisted c.args.self.first) c.args.self.first c.args.kind indexed.first indexed.dense (λ m. omega arith)

pub returns-then-index-self-clause-kind : goal.returns-then-index-self-clause-kind
returns-then-index-self-clause-kind c indexed = kind_at_index c.args.self.rows.now (Unlisted c.args.self.first) _ c.args.self.first _ c.args.kind indexed.first indexed.dense (omega arith) (omega arith)
