use Rattle.std.proofs.Common.{◌≡◌, drop}
use Rattle.link_lines_values.specs.Flags.{nameless}
use Rattle.link_lines_values.specs.Names.{texts_of}
use Rattle.link_lines_values.proofs.flags.nameless.Given as goal

abbrev pub invariant-loop-row : goal.invariant-loop-row
invariant-loop-row l = nameless (texts_of (λ b. b.now) (drop l.row-index l.rows)) l.rest ≡ nameless (texts_of (λ b. b.now) l.rows) l.number
