use Rattle.link_lines_values.proofs.Counters.{title_at}
use Rattle.link_lines_values.proofs.records.find_title.Goals as goal

pub returns : goal.returns
returns c = title_at (λ b. b.now) c.args.rows.now _ c.args.index c.args.index c.requires
