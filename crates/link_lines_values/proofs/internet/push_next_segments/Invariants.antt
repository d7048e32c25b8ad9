use Rattle.std.proofs.Common.{flat_map, drop}
use Rattle.link_lines_values.specs.Appends.{AppendsAllBut}
use Rattle.link_lines_values.specs.Internet.{colon_segment}
use Rattle.link_lines_values.proofs.internet.push_next_segments.Given as goal

abbrev pub invariant-loop-segment : goal.invariant-loop-segment
invariant-loop-segment l =
    AppendsAllBut l.initial.out l.out (flat_map colon_segment l.segments) (flat_map colon_segment (drop l.segment-index l.segments))
