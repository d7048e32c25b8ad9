use Rattle.link_info_kinds.proofs.Named.{names_determine_port_kinds}
use Rattle.link_info_kinds.proofs.laws.names_determine_port_kinds.Goals as goal

pub returns : goal.returns
returns c = names_determine_port_kinds
