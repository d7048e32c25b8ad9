-- the contract without the first bytes
use Rattle.link_capture_reader.proofs.engine.read_all.Goals as goal

pub returns : goal.returns
returns g c = let read = c.read_all_keeping_first.ensures in (read.0, read.1, read.2)
