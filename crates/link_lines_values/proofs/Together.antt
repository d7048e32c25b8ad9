-- The lemmas that the laws use.
use Rattle.link_lines_values.proofs.BytesDetermined.{bytes_determined}
use Rattle.link_lines_values.proofs.CountersDetermined.{counters_determined, nonzero_determined}
use Rattle.link_lines_values.proofs.NumbersDetermined.{digits_are, numbers_determined}
use Rattle.link_lines_values.proofs.OneLine.{counters_are_lines, fields_are_lines, values_are_lines}
use Rattle.link_lines_values.proofs.RecordsDetermined.{plain_determined, records_determined}
use Rattle.link_lines_values.proofs.SizedDetermined.{sized_determined}
use Rattle.link_lines_values.proofs.SizesDetermined.{sizes_determined}
use Rattle.link_lines_values.proofs.ValuesDetermined.{addresses_determined, settings_determined}

pub ruleset laws = (bytes_determined, digits_are, numbers_determined, addresses_determined, settings_determined, sizes_determined, records_determined, plain_determined, counters_determined, nonzero_determined, fields_are_lines, counters_are_lines, values_are_lines, sized_determined)
