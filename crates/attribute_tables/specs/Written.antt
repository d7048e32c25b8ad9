-- The reading of a value.
use Rattle.std.specs.Prelude.{Bool}
use Rattle.netlink_packet_core_grammar.specs.Attributes.{Attribute}
use Rattle.attribute_tables_grammar.specs.Readings.{AttributeReading}

-- The attribute as which a value is written, and whether everything inside it fits.
abbrev pub written_as : {V : Type 0} → (V → Attribute) → (V → Bool) → V → AttributeReading
written_as entry fits v = record { entry = entry v; inside_fits = fits v }
