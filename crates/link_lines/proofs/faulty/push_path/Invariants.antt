-- The names before those that are left are written.
use Rattle.std.proofs.Common.{length, map}
use Rattle.link_capture_refusals.specs.RefusalTexts.{path_text}
use Rattle.link_lines_values.specs.Appends.{AppendsAllBut}
use Rattle.link_lines.proofs.faulty.push_path.Given as goal

abbrev pub invariant-names : goal.invariant-names
invariant-names l = AppendsAllBut l.fn.out l.out (path_text (map (λ n. n.now) l.path)) (path_text (map (λ n. n.now) l.left))

abbrev pub decreases-names : goal.decreases-names
decreases-names l = length l.left
