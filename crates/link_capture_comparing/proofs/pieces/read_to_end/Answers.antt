-- what was read since the call
use Rattle.std.proofs.Common.{[]}
use Rattle.link_capture_reader.specs.States.{source_state}
use Rattle.link_capture_comparing.proofs.Counting.{none_read, read_all}
use Rattle.link_capture_comparing.proofs.pieces.read_to_end.Goals as goal

pub returns : goal.returns
returns g c = read_all _ _ c.read_rest.result (c.read_rest.ensures (source_state g.S.Source.to_come g.S.Source.failures g.S.Source.ends_reported c.args.source.now) [] (none_read _))
