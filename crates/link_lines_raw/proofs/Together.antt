-- The lemmas that the laws use.
use Rattle.link_lines_raw.proofs.AcknowledgementsDetermined.{acknowledgements_determined}
use Rattle.link_lines_raw.proofs.BodiesDetermined.{bodies_determined}
use Rattle.link_lines_raw.proofs.RawDetermined.{held_payloads_determined, raw_attributes_determined}
use Rattle.link_lines_raw.proofs.RawRows.{tables_determined}

pub ruleset laws = (tables_determined, raw_attributes_determined, held_payloads_determined, bodies_determined, acknowledgements_determined)
