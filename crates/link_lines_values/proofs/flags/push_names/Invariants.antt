use Rattle.std.proofs.Common.{◌≡◌, ◌||◌, not, drop}
use Rattle.link_lines_values.specs.Appends.{AppendsAllBut}
use Rattle.link_lines_values.specs.Flags.{names_set, opened, has_none}
use Rattle.link_lines_values.specs.Names.{texts_of}
use Rattle.link_lines_values.proofs.Listing.{begun}
use Rattle.link_lines_values.proofs.flags.push_names.Given as goal

abbrev pub invariant-loop-row : goal.invariant-loop-row
invariant-loop-row l = record {
  appends : AppendsAllBut l.initial.out l.out (opened (names_set (texts_of (λ b. b.now) l.rows) l.number))
      (begun l.is_any (names_set (texts_of (λ b. b.now) (drop l.row-index l.rows)) l.number));
  any : (l.is_any || not (has_none (names_set (texts_of (λ b. b.now) (drop l.row-index l.rows)) l.number))) ≡ not (has_none (names_set (texts_of (λ b. b.now) l.rows) l.number));
}
