-- The attribute at the start of the bytes, under rows.
use Rattle.std.specs.Prelude.{ℕ, Bool, List}
use Rattle.netlink_packet_core_grammar.specs.Attributes.{Attribute}
use Rattle.netlink_packet_core_grammar.specs.AttributeViews.{viewed_attribute, viewed_payload}
use Rattle.attribute_tables_grammar.specs.Lists.{Row, row_at, canonical_form}

-- The row of the first attribute.
abbrev pub viewed_row : (ℕ → Row) → List ℕ → Row
viewed_row rows b = row_at rows (viewed_attribute b)

-- The row of the first attribute accepts its payload.
abbrev pub is_accepted_by : (ℕ → Row) → List ℕ → Bool
is_accepted_by rows b = (viewed_row rows b).rule.accepted (viewed_payload b)

-- Everything inside the first attribute fits, by its row.
abbrev pub fits_by : (ℕ → Row) → List ℕ → Bool
fits_by rows b = (viewed_row rows b).rule.fits (viewed_payload b)

-- The canonical form of the first attribute.
abbrev pub rewritten_by : (ℕ → Row) → List ℕ → Attribute
rewritten_by rows b = canonical_form (viewed_row rows b) (viewed_attribute b)
