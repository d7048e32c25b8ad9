use Rattle.std.proofs.Common.{length}
use denote.Shadow.{shadow}
use denote.Text.{Utf8}
use Rattle.link_lines_parts.specs.Remaining.{nothing_omitted, omitted_of}
use Rattle.link_lines.specs.Without.{TakesWord}
use Rattle.link_lines.proofs.WordLists.{ReadSoFar}
use Rattle.link_lines.proofs.without.read_without.Given as goal

-- Some words have been read, and the rest remains.
abbrev pub invariant-parts : goal.invariant-parts
invariant-parts l = record {
  text : shadow (Utf8 l.left);
  so_far : ReadSoFar TakesWord nothing_omitted (omitted_of l.without) l.fn.words l.left;
}

abbrev pub decreases-parts : goal.decreases-parts
decreases-parts l = length l.left
