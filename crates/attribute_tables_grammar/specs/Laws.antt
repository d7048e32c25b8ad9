-- The laws of the definitions, as the functions of `laws` state them.
use Rattle.std.specs.Prelude.{◌≡◌, ℕ, ◌+◌, ◌-◌, ◌==◌, ◌<◌, ◌≤◌, ◌&&◌, ◌||◌, ◌↔◌, Bool, true, false, List, [], ◌∷◌, ◌++◌}
use Rattle.std.specs.Prelude.{length, take, drop, get_or, Option, Some, None, option_map}
use Rattle.netlink_packet_core_grammar.specs.Attributes.{nla_align, zeros, Attribute, attribute_length, attribute_text}
use Rattle.netlink_packet_core_grammar.specs.Attributes.{first_attribute, attributes_of}
use Rattle.netlink_packet_core_grammar.specs.AttributeViews.{BeginsWithAttribute, viewed_attribute, after_first}
use Rattle.attribute_tables_grammar.specs.Rules.{Rule, Lawful, IsMigratedBy}
use Rattle.attribute_tables_grammar.specs.Lists.{Grammar, Context, Row, no_kind_in_force, canonical_form, canonical_forms, canonical_kind}
use Rattle.attribute_tables_grammar.specs.Lists.{row_of, row_at, same_attribute, without_context, ListForm, any}
use Rattle.attribute_tables_grammar.specs.Lists.{non_empty, of_kind_one, ports, first_only, read_as, is_kept, kept}
use Rattle.attribute_tables_grammar.specs.Lists.{list_rule, all_accepted, all_same, context_after, LawfulGrammar}
use Rattle.attribute_tables_grammar.specs.Peers.{RuleOfPeers, LawfulPeer, bytes_peer}
use Rattle.attribute_tables_grammar.specs.Tables.{Payload, Payload.list, Table, Table.end, Table.row, Names, rule}
use Rattle.attribute_tables_grammar.specs.Tables.{rule_of_name, names_grammar, grammar, payload_bounded, rows_bounded}
use Rattle.attribute_tables_grammar.specs.Tables.{holds_no_peers, holds_no_peers_but}
use Rattle.attribute_tables_grammar.specs.LookUps.{table_list_rule, payload_rule, row_of_line, rows_rule, table_row, only_kind_one}
use Rattle.attribute_tables_grammar.specs.LookUps.{holds_no_lists, payload_at, rule_or_raw}
use Rattle.attribute_tables_grammar.specs.Readings.{AttributeReading, attribute_reading, reading, reading_as, ReadingSoFar, IsReading}
use Rattle.attribute_tables_grammar.specs.Walks.{Measure, measure, plus, none_yet, dropped, with_header, measure_as}
use Rattle.attribute_tables_grammar.specs.Walks.{MeasuredSoFar, whole_measure, IsWalked, RequiresAttribute, IsSmall, IsMeasure}
use Rattle.attribute_tables_grammar.specs.AlreadyCanonical.{CanonicalSoFar}
use Rattle.attribute_tables_grammar.specs.Writing.{IsWritable, WrittenSoFar}
use Rattle.attribute_tables_grammar.specs.Sameness.{kept_of, same_rests, continues, same_kind_by_first_row}

-- The canonical encoding of a list is cut into the attributes that the list keeps, each in its canonical form.
abbrev pub CanonicalListsAreSplit : Type 0
CanonicalListsAreSplit = (form : ListForm) (g : Grammar) (bytes : List ℕ) (es : List Attribute) → read_as form bytes ≡ Some es →
    attributes_of ((list_rule form g).canonical bytes) ≡ Some (canonical_forms g no_kind_in_force (kept form es))

-- Every bounded payload has a lawful rule, under every lawful rule of peers.
abbrev pub TablesAreLawful : Type 0
TablesAreLawful = (p : RuleOfPeers) → LawfulPeer p → (s : Payload) → payload_bounded s ≡ true → Lawful (rule p s)

-- The rule that keeps peers as bytes is lawful.
abbrev pub BytesAreLawful : Type 0
BytesAreLawful = LawfulPeer bytes_peer

-- Two accepted payloads are equivalent if and only if their canonical payloads are equal.
abbrev pub CanonicalDecidesMeaning : Rule → Type 0
CanonicalDecidesMeaning r = (a b : List ℕ) → r.accepted a ≡ true → r.accepted b ≡ true →
    (r.same a b ≡ true) ↔ (r.canonical a ≡ r.canonical b)

-- For every bounded payload, canonical payloads decide equivalence.
abbrev pub CanonicalPayloadsDetermineMeanings : Type 0
CanonicalPayloadsDetermineMeanings = (p : RuleOfPeers) → LawfulPeer p → (s : Payload) → payload_bounded s ≡ true →
    CanonicalDecidesMeaning (rule p s)

-- A payload is equivalent to its canonical payload, unless a list of ports in it keeps no entry.
abbrev pub KeepsMeaning : Rule → Type 0
KeepsMeaning r = (b : List ℕ) → r.accepted b ≡ true → r.empty_ports b ≡ false → r.same b (r.canonical b) ≡ true

-- For every bounded payload, canonical payloads keep the meaning.
abbrev pub PayloadsKeepMeanings : Type 0
PayloadsKeepMeanings = (p : RuleOfPeers) → LawfulPeer p → (s : Payload) → payload_bounded s ≡ true → KeepsMeaning (rule p s)

-- A payload whose canonical form has at most 65535 bytes fits: no length inside it exceeds that of the whole.
abbrev pub ShortFit : Rule → Type 0
ShortFit r = (b : List ℕ) → r.accepted b ≡ true → length (r.canonical b) ≤ 65535 → r.fits b ≡ true

-- Short canonical payloads fit for every payload of every table, under every rule of peers.
abbrev pub ShortPayloadsFit : Type 0
ShortPayloadsFit = (p : RuleOfPeers) (s : Payload) → ShortFit (rule p s)

-- The rule of a payload or a row without peers is the same under all rules of peers.
pub record RulesWithoutPeersAreOne : Type 0 where
  pub payloads : (p q : RuleOfPeers) (s : Payload) → holds_no_peers s ≡ true → payload_rule p s ≡ payload_rule q s
  pub rows : (p q : RuleOfPeers) (c : ℕ) (t : Table) → holds_no_peers_but c t ≡ true → (k : ℕ) → (k == c) ≡ false →
      table_row p t k ≡ table_row q t k

-- Canonical payloads that were written while peers were bytes are migrated by every rule p of peers: if a payload is
-- accepted both with peers as bytes and under p, its canonical form with peers as bytes has the same canonical form under p
-- as the payload, and is accepted under p unless a list of VF ports inside keeps no entry.
abbrev pub OldPayloadsAreMigrated : Type 0
OldPayloadsAreMigrated = (p : RuleOfPeers) → (s : Payload) → payload_bounded s ≡ true → IsMigratedBy (rule bytes_peer s) (rule p s)

-- Equivalent lists leave the same kinds in force, so that one context is enough to compare two lists.
abbrev pub OneContext : Type 0
OneContext = (g : Grammar) → LawfulGrammar g → (c : Context) (es fs : List Attribute) → all_accepted g c es ≡ true →
    all_accepted g c fs ≡ true → all_same g c c es fs ≡ true → context_after g c es ≡ context_after g c fs

-- The rows of a bounded table are lawful, under every lawful rule of peers.
abbrev pub TableGrammarsAreLawful : Type 0
TableGrammarsAreLawful = (p : RuleOfPeers) → LawfulPeer p → (t : Table) → rows_bounded t ≡ true → LawfulGrammar (grammar p t)

-- A list of a table's rows has the rule of the rows that looking up each kind finds, for any list kind; `named` states
-- this for `table_list_rule`, `of_one` for a table that has a row for kind 1 only.
pub record RowsAreLookedUp : Type 0 where
  pub payload : (p : RuleOfPeers) (form : ListForm) (t : Table) → rule p (list form t) ≡ rows_rule form (table_row p t)
  pub named : (p : RuleOfPeers) (form : ListForm) (t : Table) → table_list_rule p form t ≡ rows_rule form (table_row p t)
  pub of_one : (p : RuleOfPeers) (form : ListForm) (n : Bool) (s : Payload) →
      table_list_rule p form (row 1 n s end) ≡
      rows_rule form (only_kind_one (row_of_line p (Some (record { is_nested = n; payload = s }))))

-- The payload of a row fits, if the table holds no lists.
abbrev pub RowsWithoutListsFit : Type 0
RowsWithoutListsFit = (p : RuleOfPeers) (t : Table) → holds_no_lists t ≡ true → (k : ℕ) (bytes : List ℕ) →
    (table_row p t k).rule.fits bytes ≡ true

-- The rule of a name is that of the payload that looking up the name finds, else the rule of raw bytes.
abbrev pub NamesAreLookedUp : Type 0
NamesAreLookedUp = (p : RuleOfPeers) (names : Names) (n : List ℕ) → rule_of_name p names n ≡ rule_or_raw p (payload_at names n)

-- Reading a list unfolds attribute by attribute: a kept attribute adds its canonical form by its row, a dropped one
-- adds nothing; nothing is read if a row rejects a kept attribute, or if the rest begins with no attribute; at the end,
-- what was read is the whole list.
pub record ReadingsUnfold : Type 0 where
  pub start : (form : ListForm) (g : Grammar) (bytes : List ℕ) → ReadingSoFar form g bytes [] no_kind_in_force bytes
  pub more : (form : ListForm) (g : Grammar) (bytes : List ℕ) (ws : List AttributeReading) (c : Context) (rest : List ℕ)
      (w : AttributeReading) → BeginsWithAttribute rest → is_kept form (viewed_attribute rest) ≡ true →
      (row_of g c (viewed_attribute rest)).rule.accepted (viewed_attribute rest).payload ≡ true →
      w ≡ attribute_reading (row_of g c (viewed_attribute rest)) (viewed_attribute rest) →
      ReadingSoFar form g bytes ws c rest →
      ReadingSoFar form g bytes (ws ++ w ∷ []) (g.next c (viewed_attribute rest)) (after_first rest)
  pub past : (form : ListForm) (g : Grammar) (bytes : List ℕ) (ws : List AttributeReading) (c : Context) (rest : List ℕ) →
      BeginsWithAttribute rest → is_kept form (viewed_attribute rest) ≡ false →
      ReadingSoFar form g bytes ws c rest → ReadingSoFar form g bytes ws c (after_first rest)
  pub refused : (form : ListForm) (g : Grammar) (bytes : List ℕ) (ws : List AttributeReading) (c : Context) (rest : List ℕ) →
      BeginsWithAttribute rest → is_kept form (viewed_attribute rest) ≡ true →
      (row_of g c (viewed_attribute rest)).rule.accepted (viewed_attribute rest).payload ≡ false →
      ReadingSoFar form g bytes ws c rest → reading form g no_kind_in_force bytes ≡ None
  pub stopped : (form : ListForm) (g : Grammar) (bytes : List ℕ) (ws : List AttributeReading) (c : Context) (rest : List ℕ) →
      (BeginsWithAttribute rest → ⊥) → 0 < length rest →
      ReadingSoFar form g bytes ws c rest → reading form g no_kind_in_force bytes ≡ None
  pub done : (form : ListForm) (g : Grammar) (bytes : List ℕ) (ws : List AttributeReading) (c : Context) (rest : List ℕ) →
      length rest ≡ 0 →
      ReadingSoFar form g bytes ws c rest → reading form g no_kind_in_force bytes ≡ Some ws

-- The reading of a list determines the results of its rule: if there is one, the rule accepts the bytes, with its
-- encoding as the canonical one; otherwise the rule rejects them. For lists of any attributes and lists of entries of
-- kind 1, the reading is that of all attributes from the first byte on.
pub record ReadingsDetermineRules : Type 0 where
  pub of_any : (g : Grammar) (bytes : List ℕ) → reading_as any g bytes ≡ reading any g no_kind_in_force bytes
  pub of_entries : (g : Grammar) (bytes : List ℕ) → reading_as of_kind_one g bytes ≡ reading of_kind_one g no_kind_in_force bytes
  pub determines : (form : ListForm) (g : Grammar) (bytes : List ℕ) (ws : List AttributeReading) →
      reading_as form g bytes ≡ Some ws → IsReading (list_rule form g) bytes ws
  pub rejects : (form : ListForm) (g : Grammar) (bytes : List ℕ) → reading_as form g bytes ≡ None →
      (list_rule form g).accepted bytes ≡ false
  pub determines_rows : (form : ListForm) (f : ℕ → Row) (bytes : List ℕ) (ws : List AttributeReading) →
      reading_as form (without_context f) bytes ≡ Some ws → IsReading (rows_rule form f) bytes ws
  pub rejects_rows : (form : ListForm) (f : ℕ → Row) (bytes : List ℕ) →
      reading_as form (without_context f) bytes ≡ None → (rows_rule form f).accepted bytes ≡ false

-- A list of only its first attribute is read as that attribute's canonical form; there is no reading if its row rejects
-- it, or if the bytes begin with no attribute.
pub record FirstOnlyIsRead : Type 0 where
  pub read : (g : Grammar) (bytes : List ℕ) (w : AttributeReading) → BeginsWithAttribute bytes →
      (row_of g no_kind_in_force (viewed_attribute bytes)).rule.accepted (viewed_attribute bytes).payload ≡ true →
      w ≡ attribute_reading (row_of g no_kind_in_force (viewed_attribute bytes)) (viewed_attribute bytes) →
      reading_as first_only g bytes ≡ Some (w ∷ [])
  pub refused : (g : Grammar) (bytes : List ℕ) → BeginsWithAttribute bytes →
      (row_of g no_kind_in_force (viewed_attribute bytes)).rule.accepted (viewed_attribute bytes).payload ≡ false →
      reading_as first_only g bytes ≡ None
  pub missing : (g : Grammar) (bytes : List ℕ) → (BeginsWithAttribute bytes → ⊥) → reading_as first_only g bytes ≡ None

-- A list of ports with at least one byte has the rule of a list of entries of kind 1, except for `empty_ports`; without
-- bytes it is rejected.
pub record PortsAreEntries : Type 0 where
  pub accepted : (f : ℕ → Row) (bytes : List ℕ) → 0 < length bytes →
      (rows_rule ports f).accepted bytes ≡ (rows_rule of_kind_one f).accepted bytes
  pub canonical : (f : ℕ → Row) (bytes : List ℕ) → 0 < length bytes →
      (rows_rule ports f).canonical bytes ≡ (rows_rule of_kind_one f).canonical bytes
  pub fits : (f : ℕ → Row) (bytes : List ℕ) → 0 < length bytes →
      (rows_rule ports f).fits bytes ≡ (rows_rule of_kind_one f).fits bytes
  pub attributes : (f : ℕ → Row) (bytes : List ℕ) → 0 < length bytes →
      (rows_rule ports f).attributes bytes ≡ (rows_rule of_kind_one f).attributes bytes
  pub read : (f : ℕ → Row) (bytes : List ℕ) → 0 < length bytes →
      reading_as ports (without_context f) bytes ≡ reading_as of_kind_one (without_context f) bytes
  pub empty : (f : ℕ → Row) (bytes : List ℕ) → length bytes ≡ 0 → (rows_rule ports f).accepted bytes ≡ false
  -- `empty_ports` holds of an accepted list of ports if and only if it keeps no entry, so that nothing is written, or it
  -- holds of an entry.
  pub empty_ports : (f : ℕ → Row) (bytes : List ℕ) → (rows_rule ports f).accepted bytes ≡ true →
      (rows_rule ports f).empty_ports bytes ≡
      ((length ((rows_rule of_kind_one f).canonical bytes) == 0) || (rows_rule of_kind_one f).empty_ports bytes)

-- A list of the kind `any` that is accepted and fits, and in which no ports are empty, is read from its canonical
-- encoding as from its own bytes.
abbrev pub ListsAreReadBack : Type 0
ListsAreReadBack = (g : Grammar) → LawfulGrammar g → (b : List ℕ) → (list_rule any g).accepted b ≡ true →
    (list_rule any g).empty_ports b ≡ false → (list_rule any g).fits b ≡ true →
    reading_as any g ((list_rule any g).canonical b) ≡ reading_as any g b

-- The context after a list unfolds attribute by attribute, and an attribute leaves in force what its canonical form
-- does.
pub record ContextsUnfold : Type 0 where
  pub more : (g : Grammar) (c : Context) (es : List Attribute) (e : Attribute) →
      context_after g c (es ++ e ∷ []) ≡ g.next (context_after g c es) e
  pub canonical : (g : Grammar) → LawfulGrammar g → (c : Context) (e : Attribute) →
      (row_of g c e).rule.accepted e.payload ≡ true → g.next c (canonical_form (row_of g c e) e) ≡ g.next c e

-- The row that looking up a kind finds is lawful, in a bounded table.
abbrev pub TableRowsAreLawful : Type 0
TableRowsAreLawful = (p : RuleOfPeers) → LawfulPeer p → (t : Table) → rows_bounded t ≡ true → (k : ℕ) →
    Lawful (table_row p t k).rule

-- Measuring a list unfolds attribute by attribute: a kept attribute adds the measure of its payload, with a header; a
-- dropped one counts only as an attribute; there is no measure if a row rejects a kept attribute, or if the rest begins
-- with no attribute; at the end, the sum is the measure of the whole list.
pub record MeasuresUnfold : Type 0 where
  pub start : (form : ListForm) (g : Grammar) (bytes : List ℕ) → MeasuredSoFar form g bytes none_yet no_kind_in_force bytes
  pub more : (form : ListForm) (g : Grammar) (bytes rest : List ℕ) (c : Context) (e : Attribute) (after : List ℕ)
      (so_far m : Measure) → first_attribute rest ≡ Some (e, after) → is_kept form e ≡ true →
      Some m ≡ measure (row_of g c e).rule e.payload → MeasuredSoFar form g bytes so_far c rest →
      MeasuredSoFar form g bytes (plus so_far (with_header m)) (g.next c e) after
  pub past : (form : ListForm) (g : Grammar) (bytes rest : List ℕ) (c : Context) (e : Attribute) (after : List ℕ)
      (so_far : Measure) → first_attribute rest ≡ Some (e, after) → is_kept form e ≡ false →
      MeasuredSoFar form g bytes so_far c rest → MeasuredSoFar form g bytes (plus so_far dropped) c after
  pub refused : (form : ListForm) (g : Grammar) (bytes rest : List ℕ) (c : Context) (e : Attribute) (after : List ℕ)
      (so_far : Measure) → IsWalked form bytes → first_attribute rest ≡ Some (e, after) → is_kept form e ≡ true →
      None ≡ measure (row_of g c e).rule e.payload → MeasuredSoFar form g bytes so_far c rest →
      None ≡ measure (list_rule form g) bytes
  pub stopped : (form : ListForm) (g : Grammar) (bytes rest : List ℕ) (c : Context) (so_far : Measure) →
      IsWalked form bytes → first_attribute rest ≡ None → 0 < length rest →
      MeasuredSoFar form g bytes so_far c rest → None ≡ measure (list_rule form g) bytes
  pub done : (form : ListForm) (g : Grammar) (bytes rest : List ℕ) (c : Context) (so_far : Measure) →
      IsWalked form bytes → length rest ≡ 0 →
      MeasuredSoFar form g bytes so_far c rest → Some (whole_measure form so_far) ≡ measure (list_rule form g) bytes
  -- The measure of an attribute is bounded by its bytes.
  pub small : (r : Rule) → Lawful r → (rest : List ℕ) (e : Attribute) (after : List ℕ) (m : Measure) →
      first_attribute rest ≡ Some (e, after) → Some m ≡ measure r e.payload → IsSmall rest after m

-- The measure of a walk over whole bytes is that of their rule, and determines the rule's results. A list of only its
-- first attribute has the measure of that attribute. A list kind that requires an attribute rejects the empty list;
-- `non_empty` measures all others as `any` does.
pub record MeasuresDetermineRules : Type 0 where
  pub walked : (form : ListForm) (g : Grammar) (bytes : List ℕ) →
      measure_as form g bytes ≡ measure (list_rule form g) bytes
  pub determines : (r : Rule) (p : List ℕ) (m : Measure) → Some m ≡ measure r p → IsMeasure r p m
  pub rejects : (r : Rule) (p : List ℕ) → None ≡ measure r p → r.accepted p ≡ false
  pub first_some : (g : Grammar) (bytes : List ℕ) (e : Attribute) (after : List ℕ) (o : Option Measure) →
      first_attribute bytes ≡ Some (e, after) → o ≡ measure (row_of g no_kind_in_force e).rule e.payload →
      option_map with_header o ≡ measure (list_rule first_only g) bytes
  pub first_none : (g : Grammar) (bytes : List ℕ) → first_attribute bytes ≡ None →
      None ≡ measure (list_rule first_only g) bytes
  pub no_bytes : (form : ListForm) (g : Grammar) (bytes : List ℕ) → length bytes ≡ 0 → RequiresAttribute form →
      None ≡ measure (list_rule form g) bytes
  pub non_empty : (g : Grammar) (bytes : List ℕ) → 0 < length bytes →
      measure (list_rule non_empty g) bytes ≡ measure (list_rule any g) bytes

-- Bytes are already canonical if the list kind keeps each attribute, its kind and its payload are already canonical,
-- and it is padded with zeros.
pub record CanonicalListsUnfold : Type 0 where
  pub padded : (bytes : List ℕ) (e : Attribute) (after : List ℕ) → ((i : ℕ) → get_or bytes i 0 < 256) →
      first_attribute bytes ≡ Some (e, after) →
      take (nla_align (attribute_length e) - attribute_length e) (drop (attribute_length e) bytes) ≡
      zeros (nla_align (attribute_length e) - attribute_length e) → bytes ≡ attribute_text e ++ after
  pub start : (form : ListForm) (g : Grammar) (bytes : List ℕ) → CanonicalSoFar form g bytes no_kind_in_force bytes
  pub more : (form : ListForm) (g : Grammar) (bytes rest : List ℕ) (c : Context) (e : Attribute) (after : List ℕ) →
      first_attribute rest ≡ Some (e, after) → is_kept form e ≡ true →
      canonical_kind (row_of g c e) e.kind ≡ e.kind → (row_of g c e).rule.canonical e.payload ≡ e.payload →
      rest ≡ attribute_text e ++ after → CanonicalSoFar form g bytes c rest →
      CanonicalSoFar form g bytes (g.next c e) after
  pub done : (form : ListForm) (g : Grammar) (bytes rest : List ℕ) (c : Context) → IsWalked form bytes →
      length rest ≡ 0 → CanonicalSoFar form g bytes c rest → (list_rule form g).canonical bytes ≡ bytes
  pub single : (g : Grammar) (bytes : List ℕ) (e : Attribute) (after : List ℕ) →
      first_attribute bytes ≡ Some (e, after) → length after ≡ 0 → canonical_kind (row_of g no_kind_in_force e) e.kind ≡ e.kind →
      (row_of g no_kind_in_force e).rule.canonical e.payload ≡ e.payload → bytes ≡ attribute_text e ++ after →
      (list_rule first_only g).canonical bytes ≡ bytes

-- Writing an accepted list that fits unfolds attribute by attribute: the payload of a kept attribute is accepted and
-- fits, and the remaining capacity is enough for it; a dropped one adds nothing; a rest that isn't empty begins with an
-- attribute; at the end, the canonical encoding is written. For a list of only its first attribute, that attribute is
-- written.
pub record WritingUnfolds : Type 0 where
  pub start : (form : ListForm) (g : Grammar) (bytes old : List ℕ) → IsWalked form bytes →
      (list_rule form g).accepted bytes ≡ true → (list_rule form g).fits bytes ≡ true →
      WrittenSoFar form g bytes old old no_kind_in_force bytes
  pub writable : (form : ListForm) (g : Grammar) (bytes old out rest : List ℕ) (c : Context) (e : Attribute)
      (after : List ℕ) → first_attribute rest ≡ Some (e, after) → is_kept form e ≡ true →
      WrittenSoFar form g bytes old out c rest →
      IsWritable (row_of g c e).rule e.payload (length old + length ((list_rule form g).canonical bytes) - length out)
  pub more : (form : ListForm) (g : Grammar) (bytes old out new rest : List ℕ) (c : Context) (e : Attribute)
      (after : List ℕ) → first_attribute rest ≡ Some (e, after) → is_kept form e ≡ true →
      new ≡ out ++ attribute_text (canonical_form (row_of g c e) e) → WrittenSoFar form g bytes old out c rest →
      WrittenSoFar form g bytes old new (g.next c e) after
  pub past : (form : ListForm) (g : Grammar) (bytes old out rest : List ℕ) (c : Context) (e : Attribute)
      (after : List ℕ) → first_attribute rest ≡ Some (e, after) → is_kept form e ≡ false →
      WrittenSoFar form g bytes old out c rest → WrittenSoFar form g bytes old out c after
  pub stopped : (form : ListForm) (g : Grammar) (bytes old out rest : List ℕ) (c : Context) →
      first_attribute rest ≡ None → 0 < length rest → WrittenSoFar form g bytes old out c rest → ⊥
  pub done : (form : ListForm) (g : Grammar) (bytes old out rest : List ℕ) (c : Context) → length rest ≡ 0 →
      WrittenSoFar form g bytes old out c rest → out ≡ old ++ (list_rule form g).canonical bytes
  pub single : (g : Grammar) (bytes : List ℕ) (e : Attribute) (after : List ℕ) →
      first_attribute bytes ≡ Some (e, after) → (list_rule first_only g).accepted bytes ≡ true →
      (list_rule first_only g).fits bytes ≡ true →
      IsWritable (row_of g no_kind_in_force e).rule e.payload (length ((list_rule first_only g).canonical bytes)) ×
      ((list_rule first_only g).canonical bytes ≡ attribute_text (canonical_form (row_of g no_kind_in_force e) e))
  pub none_single : (g : Grammar) (bytes : List ℕ) → first_attribute bytes ≡ None →
      (list_rule first_only g).accepted bytes ≡ true → ⊥

-- The attributes that a list keeps unfold attribute by attribute: a kept one comes first, followed by those of the
-- rest; a dropped one adds nothing; the empty list keeps none, and bytes that begin with no attribute are no list.
pub record KeptAttributesUnfold : Type 0 where
  pub more : (form : ListForm) (rest : List ℕ) (e : Attribute) (after : List ℕ) →
      first_attribute rest ≡ Some (e, after) → is_kept form e ≡ true → kept_of form rest ≡ continues form e after
  pub past : (form : ListForm) (rest : List ℕ) (e : Attribute) (after : List ℕ) →
      first_attribute rest ≡ Some (e, after) → is_kept form e ≡ false → kept_of form rest ≡ kept_of form after
  pub ended : (form : ListForm) (rest : List ℕ) → length rest ≡ 0 → kept_of form rest ≡ Some []
  pub stopped : (form : ListForm) (rest : List ℕ) → first_attribute rest ≡ None → 0 < length rest →
      kept_of form rest ≡ None

-- Comparing two lists unfolds over the attributes that each keeps: they are equivalent if the next two attributes are,
-- and the rests; if one list ends, then only if both do. This holds whether or not the lists are accepted. A list kind
-- that requires an attribute rejects the empty list; a list of only its first attribute is compared by that one.
pub record SamenessUnfolds : Type 0 where
  pub whole : (form : ListForm) (g : Grammar) (a b : List ℕ) → IsWalked form a → IsWalked form b →
      same_rests form g no_kind_in_force a b ≡ (list_rule form g).same a b
  pub more : (form : ListForm) (g : Grammar) (c : Context) (a b : List ℕ) (e f : Attribute) (x y : List ℕ) →
      kept_of form a ≡ continues form e x → kept_of form b ≡ continues form f y →
      same_attribute (row_of g c e) (row_of g c f) e f ≡ true → g.next c e ≡ g.next c f →
      same_rests form g (g.next c e) x y ≡ same_rests form g c a b
  pub differs : (form : ListForm) (g : Grammar) (c : Context) (a b : List ℕ) (e f : Attribute) (x y : List ℕ) →
      kept_of form a ≡ continues form e x → kept_of form b ≡ continues form f y →
      same_attribute (row_of g c e) (row_of g c f) e f ≡ false → false ≡ same_rests form g c a b
  pub ended : (form : ListForm) (g : Grammar) (c : Context) (a b : List ℕ) → kept_of form a ≡ Some [] →
      kept_of form b ≡ Some [] → true ≡ same_rests form g c a b
  pub left_ended : (form : ListForm) (g : Grammar) (c : Context) (a b : List ℕ) (f : Attribute) (y : List ℕ) →
      kept_of form a ≡ Some [] → kept_of form b ≡ continues form f y → false ≡ same_rests form g c a b
  pub right_ended : (form : ListForm) (g : Grammar) (c : Context) (a b : List ℕ) (e : Attribute) (x : List ℕ) →
      kept_of form a ≡ continues form e x → kept_of form b ≡ Some [] → false ≡ same_rests form g c a b
  pub left_stopped : (form : ListForm) (g : Grammar) (c : Context) (a b : List ℕ) → kept_of form a ≡ None →
      false ≡ same_rests form g c a b
  pub right_stopped : (form : ListForm) (g : Grammar) (c : Context) (a b : List ℕ) → kept_of form b ≡ None →
      false ≡ same_rests form g c a b
  pub no_left : (form : ListForm) (g : Grammar) (a b : List ℕ) → length a ≡ 0 → RequiresAttribute form →
      false ≡ (list_rule form g).same a b
  pub no_right : (form : ListForm) (g : Grammar) (a b : List ℕ) → length b ≡ 0 → RequiresAttribute form →
      false ≡ (list_rule form g).same a b
  pub first_both : (g : Grammar) (a b : List ℕ) (e f : Attribute) (x y : List ℕ) → first_attribute a ≡ Some (e, x) →
      first_attribute b ≡ Some (f, y) →
      same_attribute (row_of g no_kind_in_force e) (row_of g no_kind_in_force f) e f ≡ (list_rule first_only g).same a b
  pub no_first_left : (g : Grammar) (a b : List ℕ) → first_attribute a ≡ None →
      false ≡ (list_rule first_only g).same a b
  pub non_empty : (g : Grammar) (a b : List ℕ) → 0 < length a → 0 < length b →
      (list_rule any g).same a b ≡ (list_rule non_empty g).same a b
  pub ports : (g : Grammar) (a b : List ℕ) → 0 < length a → 0 < length b →
      (list_rule of_kind_one g).same a b ≡ (list_rule ports g).same a b
  pub no_first_right : (g : Grammar) (a b : List ℕ) → first_attribute b ≡ None →
      false ≡ (list_rule first_only g).same a b

-- Two attributes under one look-up are equivalent if and only if their kinds are equal and their payloads are
-- equivalent under the first one's row; equivalent attributes of link info leave the same kinds in force.
pub record AttributesAreCompared : Type 0 where
  pub by_kind : (f : ℕ → Row) (e h : Attribute) →
      (same_kind_by_first_row (row_at f e) e.kind h.kind && (row_at f e).rule.same e.payload h.payload) ≡
      same_attribute (row_at f e) (row_at f h) e h
  pub one_context : (data' ports : List ℕ → Rule) (c : Context) (e h : Attribute) →
      same_attribute (row_of (names_grammar data' ports) c e) (row_of (names_grammar data' ports) c h) e h ≡ true →
      (names_grammar data' ports).next c e ≡ (names_grammar data' ports).next c h
