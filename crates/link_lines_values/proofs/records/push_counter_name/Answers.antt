use Rattle.link_lines_values.proofs.Appending.{as_text}
use Rattle.link_lines_values.proofs.Counters.{title_past}
use Rattle.link_lines_values.proofs.records.push_counter_name.Goals as goal

pub returns : goal.returns
returns c = as_text (title_past (λ b. b.now) c.args.rows.now c.args.index c.args.index c.if-index-rows.false) c.push_decimal.ensures
