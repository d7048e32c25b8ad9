-- How the payloads of attributes with names are shown.
use Rattle.std.specs.Prelude.{ℕ, nat_le, Bool, true, cond, ◌&&◌, List, Option, Some, None, bytes_eq, codes}
use Rattle.attribute_tables_grammar.specs.Lists.{Context}
use Rattle.link_message_grammar.specs.Body.{link_peer}
use Rattle.link_tables.specs.declared.rows.Held.{Held as TableHeld}
use Rattle.link_tables.specs.declared.rows.Held.TheVariants.{List as HeldList}
use Rattle.link_tables.specs.declared.table.Table.{Table}
use Rattle.link_tables.specs.declared.table.TheConstants.{LINK_INFO}
use Rattle.link_tables.specs.InForce.{data_under, port_data_under}
use Rattle.link_lines_parts.specs.Levels.{deepest_level}
use Rattle.link_lines_values.specs.declared.fields.Layout.{Layout}
use Rattle.link_lines_values.specs.declared.number_tables.Numbers.{Numbers}
use Rattle.link_lines_values.specs.declared.values.ShownBy.{ShownBy}
use Rattle.link_lines_values.specs.declared.values.ShownBy.TheVariants.{Bytes}
use Rattle.link_lines_values.specs.Values.{Shown, is_shown_on_a_line, format_of}
use Rattle.link_lines_raw.specs.declared.rows.RawBy.TheVariants as R
use Rattle.link_lines_raw.specs.Coverage.{determines_raw}
use Rattle.link_lines_raw.specs.Rows.{Raw, raw_of}
use Rattle.link_lines_texts.specs.declared.format.FormatBy.{FormatBy}
use Rattle.link_lines_texts.specs.declared.format.FormatBy.TheVariants as B
use Rattle.link_lines_texts.specs.declared.format.Scope.{Scope}
use Rattle.link_lines_texts.specs.declared.format.TheConstants.{CAN_STATISTICS}

-- How a payload is shown: by its value, but in a request perhaps as bytes; as bytes after a word; as what a raw
-- attribute holds; or, below the name, as a link's header and its attributes; or as the attributes of a table, or of
-- the table that a kind in force determines; or as the statistics of that kind.
pub data Inside : Type 0 where
  Value : Shown → Inside
  Settings : Shown → Inside
  Plain : Inside
  Held : Raw → Inside
  Peer : Inside
  Nested : Table → Inside
  Data : Inside
  Statistics : Inside
  PortData : Inside

-- The statistics of links of the kind `can`.
unfoldable pub can_statistics : Raw
can_statistics = raw_of (λ n. n.now) CAN_STATISTICS

-- The way of showing a payload that a value in code represents.
abbrev pub inside_of : FormatBy (ShownBy Numbers Layout) → Inside
inside_of (B.Value shown) = Value (format_of shown)
inside_of (B.Settings shown) = Settings (format_of shown)
inside_of B.Plain = Plain
inside_of (B.Raw table) = Held (R.List table)
inside_of B.CanStatistics = Held can_statistics
inside_of B.Peer = Peer
inside_of (B.List form table) = Nested table
inside_of B.LinkInfo = Nested LINK_INFO
inside_of B.Data = Data
inside_of B.Statistics = Statistics
inside_of B.PortData = PortData

-- The way in which data are shown: as a list or as bytes.
abbrev pub of_held : TableHeld → Inside
of_held (HeldList form table) = Nested table
of_held held = Value Bytes

-- The way in which data are shown that may depend on a kind in force: bytes if none is.
abbrev pub inside_held : Option TableHeld → Inside
inside_held None = Value Bytes
inside_held (Some held) = of_held held

-- The way in which the statistics of a kind are shown: counters for `can`, bytes for any other or if none is in force.
abbrev pub statistics_inside : Option (List ℕ) → Inside
statistics_inside None = Value Bytes
statistics_inside (Some name) = cond (bytes_eq name (codes "can")) (Held can_statistics) (Value Bytes)

-- Whether bytes are accepted as a peer, and are already canonical.
unfoldable pub is_canonical_peer : List ℕ → Bool
is_canonical_peer b = link_peer.accepted b && bytes_eq (link_peer.canonical b) b

-- The way in which a peer is shown. The normal text keeps the bytes of one inside a peer, so it is shown as a peer only if
-- it is canonical, and else as bytes.
abbrev pub peer_inside : Bool → List ℕ → Inside
peer_inside is_in_peer p = cond is_in_peer (cond (is_canonical_peer p) Peer Plain) Peer

-- The way in which a payload is shown under the kinds in force. In a request, settings are shown as bytes.
abbrev pub known_inside : Scope → Context → Inside → List ℕ → Inside
known_inside scope c Data p = inside_held (data_under c.kind)
known_inside scope c Statistics p = statistics_inside c.kind
known_inside scope c PortData p = inside_held (port_data_under c.port_kind)
known_inside scope c (Settings shown) p = cond scope.is_request Plain (Value shown)
known_inside scope c Peer p = peer_inside scope.is_in_peer p
known_inside scope c inside p = inside

-- The way in which a payload is shown if the lines of a list may be shown below its name, or may not: then as bytes.
abbrev pub if_reached : Bool → Inside → Inside
if_reached b Peer = cond b Peer Plain
if_reached b (Nested table) = cond b (Nested table) Plain
if_reached b inside = inside

-- The way in which a payload is shown if the lines below its name have this level: a list or a peer that is too deep as
-- bytes.
abbrev pub within_reach : ℕ → Inside → Inside
within_reach level inside = if_reached (nat_le level deepest_level) inside

-- Whether the text after a name is on the name's line.
abbrev pub is_inside_on_a_line : Inside → Bool
is_inside_on_a_line (Value shown) = is_shown_on_a_line shown
is_inside_on_a_line (Settings shown) = is_shown_on_a_line shown
is_inside_on_a_line (Held raw) = determines_raw raw
is_inside_on_a_line inside = true
