-- What lines of raw attributes and of bodies determine; the functions of `laws` have these as contracts.
use Rattle.std.specs.Prelude.{◌≡◌, ℕ, ◌<◌, Bool, true, List, [], ◌∷◌, ◌++◌, codes, Some}
use Rattle.netlink_packet_core_grammar.specs.Attributes.{Attribute}
use Rattle.netlink_packet_core_grammar.specs.Bytes.{AreBytes}
use Rattle.link_lines_values.specs.Laws.{BeginsWithSpace, IsLine}
use Rattle.link_lines_raw.specs.declared.raw_tables.RawTable.{RawTable}
use Rattle.link_lines_raw.specs.Acknowledgements.{acknowledgement_lines, is_acknowledgement}
use Rattle.link_lines_raw.specs.Attributes.{after_name, raw_text}
use Rattle.link_lines_raw.specs.Bodies.{body_lines}
use Rattle.link_lines_raw.specs.Coverage.{determines_raw, in_each, in_each_choice, is_table_determined}
use Rattle.link_lines_raw.specs.Lines.{IsShallow, Line, lines_text}
use Rattle.link_lines_raw.specs.Lists.{held_lines, raw_below}
use Rattle.link_lines_raw.specs.Rows.{Raw}

-- The names of each table's rows are different, and the lines of each row, and of what may be chosen, determine what it
-- holds.
abbrev pub RawTablesAreDetermined : Type 0
RawTablesAreDetermined = (in_each is_table_determined ≡ true) × (in_each_choice determines_raw ≡ true)

-- An attribute whose kind has 2 bytes, and whose payload consists of bytes.
pub record IsEncodable (e : Attribute) : Type 0 where
  pub kind : e.kind < 65536
  pub payload : AreBytes e.payload

-- The text of a raw attribute's line is one line. With the lines below it, it determines the attribute, whatever less
-- deep lines follow.
pub record RawAttributesAreDetermined : Type 0 where
  pub line : (level : ℕ) (table : RawTable) (e : Attribute) → IsLine (raw_text level table [] e)
  pub determined : (level : ℕ) (table : RawTable) (e f : Attribute) (s t : List ℕ) → IsEncodable e → IsEncodable f →
      IsShallow level s → IsShallow level t → raw_text level table [] e ≡ raw_text level table [] f →
      lines_text (raw_below level table e) ++ s ≡ lines_text (raw_below level table f) ++ t → (e ≡ f) × (s ≡ t)

-- What follows a name begins with a space or is empty, and is on the name's line. With the lines below it, it
-- determines a payload if the row does, whatever less deep lines follow.
pub record HeldPayloadsAreDetermined : Type 0 where
  pub line : (level : ℕ) (raw : Raw) (p : List ℕ) → determines_raw raw ≡ true → IsLine (after_name level raw p)
  pub space : (level : ℕ) (raw : Raw) (p : List ℕ) → BeginsWithSpace (after_name level raw p)
  pub determined : (level : ℕ) (raw : Raw) (p q s t : List ℕ) → determines_raw raw ≡ true → AreBytes p →
      AreBytes q → IsShallow level s → IsShallow level t → after_name level raw p ≡ after_name level raw q →
      lines_text (held_lines level raw p) ++ s ≡ lines_text (held_lines level raw q) ++ t → (p ≡ q) × (s ≡ t)

-- The lines of a body determine it, among the bodies of one message type, requests or not, whatever less deep lines
-- follow; and they don't begin as a line of the word `body` and the bytes does.
pub record BodiesAreDetermined : Type 0 where
  pub determined : (message_type : ℕ) (is_request : Bool) (p q : List ℕ) (a b : List Line) (s t : List ℕ) →
      AreBytes p → AreBytes q → body_lines message_type is_request p ≡ Some a →
      body_lines message_type is_request q ≡ Some b → IsShallow 1 s → IsShallow 1 t →
      lines_text a ++ s ≡ lines_text b ++ t → (p ≡ q) × (s ≡ t)
  pub apart : (message_type : ℕ) (is_request : Bool) (p : List ℕ) (a : List Line) (s r : List ℕ) →
      body_lines message_type is_request p ≡ Some a → BeginsWithSpace r →
      lines_text a ++ s ≡ codes "  body" ++ r → ⊥

-- The lines of an extended acknowledgement determine its attributes, whatever less deep lines follow. They begin with an
-- indentation, and not as a line of the word `rest` does.
pub record AcknowledgementsAreDetermined : Type 0 where
  pub determined : (p q s t : List ℕ) → AreBytes p → AreBytes q → is_acknowledgement p ≡ true →
      is_acknowledgement q ≡ true → IsShallow 1 s → IsShallow 1 t →
      lines_text (acknowledgement_lines p) ++ s ≡ lines_text (acknowledgement_lines q) ++ t → (p ≡ q) × (s ≡ t)
  pub indented : (p : List ℕ) → is_acknowledgement p ≡ true →
      (r : List ℕ) × (lines_text (acknowledgement_lines p) ≡ 32 ∷ r)
  pub apart : (p s r : List ℕ) → is_acknowledgement p ≡ true →
      lines_text (acknowledgement_lines p) ++ s ≡ codes "  rest" ++ r → ⊥
