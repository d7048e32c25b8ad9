use Rattle.std.proofs.Common.{◌≡◌, drop, map}
use Rattle.link_lines_parts.specs.Names.{is_among}
use Rattle.link_lines_parts.proofs.names.is_among.Given as goal

abbrev pub invariant-loop-other : goal.invariant-loop-other
invariant-loop-other l = is_among (map (λ n. n.now) (drop l.other-index l.names)) l.name ≡ is_among (map (λ n. n.now) l.names) l.name
