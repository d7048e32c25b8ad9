use Rattle.std.proofs.Common.{[], length}
use denote.Shadow.{shadow}
use denote.Text.{Utf8}
use Rattle.link_lines.specs.Types.{TakesType}
use Rattle.link_lines.proofs.WordLists.{ReadSoFar}
use Rattle.link_lines.proofs.types.read_types.Given as goal

-- Some types have been read, and the rest of the words remains.
abbrev pub invariant-parts : goal.invariant-parts
invariant-parts l = record {
  text : shadow (Utf8 l.left);
  so_far : ReadSoFar TakesType [] l.types.items l.fn.words l.left;
}

abbrev pub decreases-parts : goal.decreases-parts
decreases-parts l = length l.left
