use Rattle.std.proofs.Common.{◌≡◌, None}
use Rattle.link_lines_raw.specs.NameSearch.{named_below}
use Rattle.link_lines_texts.specs.NameSearch.{rows_at}
use Rattle.link_lines_texts.proofs.names.find_name_below.Given as goal

-- The word isn't a name in the rows before this index.
abbrev pub invariant-loop-index : goal.invariant-loop-index
invariant-loop-index l = record {
  before : named_below rows_at l.word l.index ≡ None;
}
