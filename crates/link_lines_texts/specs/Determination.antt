-- What lines determine: shapes, lists of attributes, and frames.
use Rattle.std.specs.Prelude.{◌≡◌, ℕ, ◌≤◌, Bool, true, false, List, [], ◌∷◌, ◌++◌, ⊤, length, take, drop}
use Rattle.std.specs.Prelude.{Ok}
use Rattle.netlink_packet_core_grammar.specs.Bytes.{AreBytes}
use Rattle.netlink_packet_core_grammar.specs.Frames.{frame_length}
use Rattle.netlink_packet_core_grammar.specs.Numbers.{u16_at, u32_at}
use Rattle.attribute_tables_grammar.specs.Rules.{Rule, shape_rule}
use Rattle.attribute_tables_grammar.specs.Shapes.{Shape}
use Rattle.link_message_grammar.specs.Body.{attributes_rule, link_peer, link_body}
use Rattle.link_message_grammar.specs.LinkMessage.{family_of}
use Rattle.link_capture_grammar.specs.Bodies.{body_text}
use Rattle.link_capture_grammar.specs.Captures.{first_frame}
use Rattle.link_lines_values.specs.Values.{Shown, value_text}
use Rattle.link_lines_texts.specs.Captures.{Choice, shown_lines, text_lines}
use Rattle.link_lines_texts.specs.Coverage.{shape_determines}
use Rattle.link_lines_texts.specs.declared.format.Scope.{Scope}
use Rattle.link_lines_texts.specs.Frames.{frame_lines, in_message}
use Rattle.link_tables.specs.Tables.{family_table}
use Rattle.link_lines_raw.specs.Lines.{IsShallow}
use Rattle.link_lines_texts.specs.declared.attributes.ListTable.{ListTable}
use Rattle.link_lines_texts.specs.Lists.{list_lines}
use Rattle.link_capture_grammar.specs.Laws.{IsLimit}

-- Bytes that a rule accepts, and that are already canonical.
pub record IsCanonical (r : Rule) (p : List ℕ) : Type 0 where
  pub bytes : AreBytes p
  pub accepted : r.accepted p ≡ true
  pub canonical : r.canonical p ≡ p

-- Canonical payloads of a shape are equal if a format that determines the shape shows them alike.
abbrev pub ShapesAreDetermined : Type 0
ShapesAreDetermined = (s : Shape) (v : Shown) (p q : List ℕ) → shape_determines s v ≡ true →
    IsCanonical (shape_rule s) p → IsCanonical (shape_rule s) q → value_text v p ≡ value_text v q → p ≡ q

-- The table of the attributes of a link of an address family.
abbrev pub of_family : Scope → ℕ → ListTable
of_family scope n = record { table = family_table n; scope = scope }

-- Canonical lists of a link's attributes, of one address family, in requests or not, are equal if their lines are,
-- whatever shallower lines follow.
abbrev pub ListsAreDetermined : Type 0
ListsAreDetermined = (is_request : Bool) (level n : ℕ) (p q s t : List ℕ) →
    IsCanonical (attributes_rule link_peer (family_of n)) p → IsCanonical (attributes_rule link_peer (family_of n)) q →
    IsShallow level s → IsShallow level t → list_lines level (of_family (in_message is_request) n) p ++ s
    ≡ list_lines level (of_family (in_message is_request) n) q ++ t → (p ≡ q) × (s ≡ t)

-- The bytes of a frame without its padding, whose body is canonical.
pub record IsCanonicalFrame (f : List ℕ) : Type 0 where
  pub bytes : AreBytes f
  pub header : 16 ≤ length f
  pub body : body_text link_body (u16_at 4 f) (drop 16 f) ≡ Ok (drop 16 f)

-- A text is empty, or begins as the name of a type does.
abbrev pub StartsFrame : List ℕ → Type 0
StartsFrame [] = ⊤
StartsFrame (c ∷ s) = 48 ≤ c

-- Both numbers of a header are zero.
pub record HasNoNumbers (header : List ℕ) : Type 0 where
  pub sequence : u32_at 8 header ≡ 0
  pub port : u32_at 12 header ≡ 0

-- The numbers of a header are shown, or are zero.
abbrev pub AreKnown : Bool → List ℕ → Type 0
AreKnown true header = ⊤
AreKnown false header = HasNoNumbers header

-- The numbers of a frame are known, and so are those of the request's header that an NLMSG_ERROR has after its code.
pub record NumbersAreKnown (numbers : Bool) (f : List ℕ) : Type 0 where
  pub own : AreKnown numbers f
  pub request : u16_at 4 f ≡ 2 → 20 ≤ length (drop 16 f) → AreKnown numbers (drop 4 (drop 16 f))

-- The lines of a frame begin with the name of its type. They determine all of the frame but its length, and where they
-- end.
pub record FramesAreDetermined : Type 0 where
  pub starts : (numbers : Bool) (f s : List ℕ) → StartsFrame (frame_lines numbers f ++ s)
  pub determined : (numbers : Bool) (f g s t : List ℕ) → IsCanonicalFrame f → IsCanonicalFrame g →
      NumbersAreKnown numbers f → NumbersAreKnown numbers g → StartsFrame s → StartsFrame t →
      frame_lines numbers f ++ s ≡ frame_lines numbers g ++ t → (drop 4 f ≡ drop 4 g) × (s ≡ t)

-- The first frame's bytes in a text, without the padding.
abbrev pub unpadded : List ℕ → List ℕ
unpadded t = take (frame_length t) t

-- The text of an accepted frame is shown as a frame whose body is canonical.
pub record AcceptedFramesAreCanonical : Type 0 where
  pub canonical : (limit : ℕ) (c : List ℕ) (frame : ℕ × List ℕ) → IsLimit limit → AreBytes c →
      first_frame link_body limit c ≡ Ok frame → IsCanonicalFrame (unpadded frame.1)
  pub lines : (o : Choice) (limit : ℕ) (c : List ℕ) (frame : ℕ × List ℕ) → IsLimit limit →
      first_frame link_body limit c ≡ Ok frame → text_lines o frame.1 ≡ shown_lines o (unpadded frame.1)
