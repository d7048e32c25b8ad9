-- The encoding quirks of a list of attributes with their offsets: those of an attribute itself, those inside it, and
-- those of the attributes after it.
use Rattle.std.specs.Prelude.{ℕ, List, [], ◌∷◌, ◌++◌, Option, Some, None}
use Rattle.netlink_packet_core_grammar.specs.Attributes.{Attribute, proper_kind}
use Rattle.link_capture_walks.specs.Walks.{OfLists, Walk, collected}
use Rattle.link_capture_quirks.specs.declared.quirk_at.Quirk.{Quirk}
use Rattle.link_capture_quirks.specs.declared.quirk_at.QuirkAt.{QuirkAt}
use Rattle.link_capture_quirks.specs.declared.tables.Table.{Table}
use Rattle.link_capture_quirks.specs.QuirkTables.{Listing, inside, next_list}
use Rattle.link_capture_quirks.specs.QuirkRows.{bit_quirk, payload_quirk}

-- A quirk, if there is one, with this offset.
abbrev pub quirks_at : ℕ → Option Quirk → List QuirkAt
quirks_at offset None = []
quirks_at offset (Some s) = record { quirk = s; offset = offset } ∷ []

-- The quirks of an attribute itself: that of the flag bits, and then that of the payload.
unfoldable pub direct_quirks : Table → ℕ → Attribute → List QuirkAt
direct_quirks t offset e =
    quirks_at offset (bit_quirk t e.kind) ++ quirks_at offset (payload_quirk t (proper_kind e.kind) e.payload)

-- The list inside an attribute of a list, with the number of bytes before it in the payload.
abbrev pub inside_of : Listing → Attribute → Option (Listing × ℕ)
inside_of l e = inside l (proper_kind e.kind) e.payload

-- The rest of a list after an attribute, whose kind may have flag bits.
abbrev pub rest_after : Listing → Attribute → Listing
rest_after l e = next_list l (proper_kind e.kind) e.payload

-- The walk through the attributes of a list and those inside them.
abbrev pub quirk_walk : Walk Listing QuirkAt
quirk_walk =
    record {
      direct = λ l offset e. direct_quirks l.table offset e;
      inside = inside_of;
      after = rest_after;
      rest = λ l bytes. bytes;
    }

-- The quirks of a list whose bytes, or the rest of them, begin at `offset`: those of its first attribute, those inside
-- that, and those of what follows it and its padding.
unfoldable pub list_quirks : OfLists Listing (List QuirkAt)
list_quirks l offset bytes = collected quirk_walk l offset bytes
