-- The laws of lines, which the functions of `laws` have as contracts.
use Rattle.std.specs.Prelude.{◌≡◌, ℕ, ◌+◌, ◌*◌, ◌<◌, ◌≤◌, ◌↔◌, true, false, List, [], ◌++◌, length, take, Some}
use Rattle.std.specs.Prelude.{None, Ok}
use Rattle.std.specs.List.{list_all}
use Rattle.netlink_packet_core_grammar.specs.Attributes.{Attribute, first_attribute}
use Rattle.netlink_packet_core_grammar.specs.Bytes.{AreBytes}
use Rattle.netlink_packet_core_grammar.specs.Frames.{frame_length, begins_with_frame, after_frame}
use Rattle.attribute_tables_grammar.specs.Lists.{Context, any, no_kind_in_force}
use Rattle.attribute_tables_grammar.specs.Tables.{Payload}
use Rattle.link_capture_grammar.specs.Captures.{first_frame, IsLegal, texts}
use Rattle.link_capture_grammar.specs.Same.{SameCapture}
use Rattle.link_message_grammar.specs.LinkMessage.{unspec, bridge, inet_6, other, link_table}
use Rattle.link_lines_texts.specs.Coverage.{has_line, holds_shown, in_each, is_info_kind, raw_names_differ}
use Rattle.link_lines_texts.specs.declared.attributes.ListTable.{ListTable}
use Rattle.link_lines_texts.specs.Growth.{factor}
use Rattle.link_lines_texts.specs.Lists.{list_inside, list_lines, nested_lines, next_in, attribute_lines, rest_lines}
use Rattle.link_lines_texts.specs.Format.{Inside.Nested}
use Rattle.link_lines_texts.specs.declared.raw_tables.TheConstants.{RAW_TABLES}
use Rattle.link_lines_raw.specs.Names.{all_named_rows, has_name, names_apart}
use Rattle.link_lines_texts.specs.AttributeNames.{attribute_names_of}
use Rattle.link_tables.specs.declared.table.TheConstants.{LINK_BRIDGE, LINK_INET6, LINK_INFO, LINK_OTHER}
use Rattle.link_tables.specs.declared.table.TheConstants.{LINK_UNSPEC}
use Rattle.link_capture_numbers.specs.Cleared.{numbers_cleared}
use Rattle.link_lines_texts.specs.Captures.{Choice, everything, lines, shown_lines, text_lines}
use Rattle.link_lines_texts.specs.Captures.{without_numbers}
use Rattle.link_message_grammar.specs.Body.{link_body}
use Rattle.link_capture_grammar.specs.Laws.{IsLimit}

-- The lines of a list are those of its first attribute, of the list in it, and of the rest in the context after that
-- attribute. If no whole attribute follows, there are none.
pub record ListsUnfoldByAttributes : Type 0 where
  pub start : (level : ℕ) (m : ListTable) (bytes : List ℕ) → list_lines level m bytes ≡ rest_lines level m no_kind_in_force bytes
  pub next : (level : ℕ) (m : ListTable) (c : Context) (bytes : List ℕ) (e : Attribute) (after : List ℕ) →
      first_attribute bytes ≡ Some (e, after) →
      rest_lines level m c bytes ≡
      attribute_lines level m c e ++
      (nested_lines (level + 1) (list_inside level m c e) ++ rest_lines level m (next_in m.table c e) after)
  pub none : (level : ℕ) (m : ListTable) (c : Context) (bytes : List ℕ) → first_attribute bytes ≡ None →
      rest_lines level m c bytes ≡ []

-- Bytes that begin with a whole frame have its lines, then those of what follows its padding; other bytes have none.
pub record LinesUnfoldByFrames : Type 0 where
  pub frame : (o : Choice) (c : List ℕ) → begins_with_frame c ≡ true →
      text_lines o c ≡ shown_lines o (take (frame_length c) c) ++ text_lines o (after_frame c)
  pub none : (o : Choice) (c : List ℕ) → begins_with_frame c ≡ false → text_lines o c ≡ []

-- What follows the texts of some frames is shown independently of them.
abbrev pub LinesAreJoined : Type 0
LinesAreJoined = (o : Choice) (limit : ℕ) (s t : List ℕ) → IsLimit limit →
    text_lines o (texts link_body limit s ++ t) ≡ text_lines o (texts link_body limit s) ++ text_lines o t

-- A capture of which everything is shown has lines if and only if its first frame is accepted.
abbrev pub AcceptedFramesHaveLines : Type 0
AcceptedFramesHaveLines = (limit : ℕ) (c : List ℕ) → IsLimit limit →
    (0 < length (lines everything limit c)) ↔ ((frame : ℕ × List ℕ) × (first_frame link_body limit c ≡ Ok frame))

-- Each row of the tables of link messages, and of every nested table, has a name and a format that determines the row's
-- payload; each name is that of a row; no two names of a table are equal, and none is that of a raw attribute of
-- another kind.
pub record RowsAreDetermined : Type 0 where
  pub unspec_determined : holds_shown (Payload.list any (link_table unspec)) (Some (Nested LINK_UNSPEC)) ≡ true
  pub bridge_determined : holds_shown (Payload.list any (link_table bridge)) (Some (Nested LINK_BRIDGE)) ≡ true
  pub inet6_determined : holds_shown (Payload.list any (link_table inet_6)) (Some (Nested LINK_INET6)) ≡ true
  pub other_determined : holds_shown (Payload.list any (link_table other)) (Some (Nested LINK_OTHER)) ≡ true
  pub named : in_each (all_named_rows has_name) ≡ true
  pub on_lines : in_each (all_named_rows has_line) ≡ true
  pub info_named : all_named_rows is_info_kind (attribute_names_of LINK_INFO.0) ≡ true
  pub apart : in_each names_apart ≡ true
  pub raw : list_all raw_names_differ RAW_TABLES.now ≡ true

-- Two captures have the same lines if and only if they have the same texts; for legal captures, if and only if their
-- normal texts are equal.
abbrev pub LinesDetermineTexts : Type 0
LinesDetermineTexts = (limit : ℕ) (s t : List ℕ) → IsLimit limit → AreBytes s → AreBytes t →
    (lines everything limit s ≡ lines everything limit t) ↔ (texts link_body limit s ≡ texts link_body limit t)

-- Two captures have the same lines without numbers if and only if their texts, with the numbers cleared, are equal.
abbrev pub LinesWithoutNumbersDetermineClearedTexts : Type 0
LinesWithoutNumbersDetermineClearedTexts = (limit : ℕ) (s t : List ℕ) → IsLimit limit → AreBytes s → AreBytes t →
    (lines without_numbers limit s ≡ lines without_numbers limit t) ↔
    (numbers_cleared (texts link_body limit s) ≡ numbers_cleared (texts link_body limit t))

-- Two legal captures have the same lines if and only if they mean the same.
abbrev pub LinesDetermineMeanings : Type 0
LinesDetermineMeanings = (limit : ℕ) (a b : List ℕ) → IsLimit limit → AreBytes a → AreBytes b → IsLegal link_body limit a →
    IsLegal link_body limit b → (lines everything limit a ≡ lines everything limit b) ↔ SameCapture link_body limit a b

-- The lines of a normal text are at most `factor` times as long as the text.
abbrev pub LinesAreShort : Type 0
LinesAreShort = (choice : Choice) (text : List ℕ) → AreBytes text →
    length (text_lines choice text) ≤ factor * length text
