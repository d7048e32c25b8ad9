use Rattle.link_lines.proofs.Together.{lines_depend_on_meaning}
use Rattle.link_lines.proofs.message_laws.lines_depend_on_meaning.Goals as goal

pub returns : goal.returns
returns c = lines_depend_on_meaning
