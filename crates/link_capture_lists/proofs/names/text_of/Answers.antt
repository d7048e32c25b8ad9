use Rattle.link_capture_lists.proofs.Lookups.{text}
use Rattle.link_capture_lists.proofs.names.text_of.Goals as goal

pub unreachable-requires : goal.unreachable-requires
unreachable-requires c = c.in-Err.ensures.cases.0 (text c.args.name.now c.requires)
