-- The result without the first bytes.
use Rattle.link_lines.proofs.engine.show.Goals as goal

pub returns : goal.returns
returns g c = let shown = c.show_keeping_first.ensures in (shown.0, shown.1, shown.2, shown.3, shown.4)
