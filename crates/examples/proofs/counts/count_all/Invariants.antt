-- the reader is consistent with what was read
use Rattle.std.proofs.Common.{◌-◌, ◌^◌, ℕ, List}
use Rattle.link_capture.specs.Readers.{IsConsistentWith}
use Rattle.examples.proofs.counts.count_all.Given as goal

abbrev pub invariant-pieces : goal.invariant-pieces
invariant-pieces g l = record {
  came : (s : List ℕ) × IsConsistentWith l.reader s;
}

abbrev pub decreases-pieces : goal.decreases-pieces
decreases-pieces g l = 2 ^ 64 - l.reader.accepted
