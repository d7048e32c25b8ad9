-- The attributes of one family, by its table.
use Rattle.std.specs.Prelude.{◌≡◌, ◌&&◌, ℕ, Bool, List, length, nat_lt}
use Rattle.netlink_packet_core_grammar.specs.Attributes.{Attribute, proper_kind}
use Rattle.netlink_packet_core_grammar.specs.AttributeViews.{viewed_attribute, viewed_kind, viewed_payload}
use Rattle.attribute_tables_grammar.specs.Lists.{Row, canonical_form, row_at}
use Rattle.attribute_tables_grammar.specs.LookUps.{table_row, row_allocates}
use Rattle.attribute_tables_grammar.specs.Peers.{bytes_peer}
use Rattle.attribute_tables_grammar.specs.Tables.{Table}

-- The attribute of this kind and payload.
abbrev pub attribute : ℕ → List ℕ → Attribute
attribute k p = record { kind = k; payload = p }

-- The row of a kind without its flag bits; peers are bytes.
abbrev pub family_row : Table → ℕ → Row
family_row t k = table_row bytes_peer t k

-- The row of the attribute at the start of the bytes accepts it.
abbrev pub accepts : Table → List ℕ → Bool
accepts t b = (row_at (family_row t) (viewed_attribute b)).rule.accepted (viewed_payload b)

-- Reading the attribute may run out of memory: its row holds bytes or text, the payload isn't empty, and the row
-- accepts it.
abbrev pub may_allocate : Table → List ℕ → Bool
may_allocate t b = (row_allocates t (proper_kind (viewed_kind b)) && nat_lt 0 (length (viewed_payload b))) &&
    accepts t b

-- The attribute e is the canonical form of the one at the start of the bytes: with its row's kind, and its canonical
-- payload.
abbrev pub Gives : Table → List ℕ → Attribute → Type 0
Gives t b e = e ≡ canonical_form (row_at (family_row t) (viewed_attribute b)) (viewed_attribute b)
