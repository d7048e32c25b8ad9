-- The laws of refusals, as the functions of `laws` state them.
use Rattle.std.specs.Prelude.{◌≡◌, ℕ, ◌+◌, ◌≤◌, Bool, cond, List, [], ◌∷◌, ◌++◌, drop, is_none, IsSome, Option, Some}
use Rattle.std.specs.Prelude.{None}
use Rattle.netlink_packet_core_grammar.specs.Attributes.{first_attribute}
use Rattle.netlink_packet_core_grammar.specs.Frames.{BeginsWithFrame, frame_length, frame_type}
use Rattle.attribute_tables_grammar.specs.Lists.{list_rule}
use Rattle.link_tables.specs.Rows.{form_of}
use Rattle.link_tables.specs.declared.rows.Form.{Form}
use Rattle.link_message_grammar.specs.Body.{body_rule, link_body}
use Rattle.link_capture_grammar.specs.Captures.{first_fault}
use Rattle.link_capture_grammar.specs.Bodies.{is_link_type}
use Rattle.link_capture_grammar.specs.declared.fault.FaultKind.TheVariants.{Refused}
use Rattle.link_tables.specs.declared.table.Table.{Table}
use Rattle.link_capture_lists.specs.ListTables.{Listing, whole}
use Rattle.link_capture_lists.specs.RowRules.{grammar_at, peer_of}
use Rattle.link_capture_refusals.specs.Refusals.{Found, frame_refusal, link_refusal, list_refusal, next_refusal}
use Rattle.link_capture_refusals.specs.Refusals.{refusal, whole_refusal}

-- The refusal of a list is that of its first attribute, or else that of the attributes after it; no bytes have none.
pub record ListsUnfoldByAttributes : Type 0 where
  pub next : (l : Listing) (offset b : ℕ) (bytes : List ℕ) →
      list_refusal l offset (b ∷ bytes) ≡ next_refusal list_refusal l offset (b ∷ bytes) (first_attribute (b ∷ bytes))
  pub none : (l : Listing) (offset : ℕ) → list_refusal l offset [] ≡ None

-- A link has no refusal if and only if its rule accepts it.
abbrev pub LinksAreAccepted : Type 0
LinksAreAccepted = (judged : Bool) (attribute_offset offset : ℕ) (b : List ℕ) →
    (body_rule (peer_of judged)).accepted b ≡ is_none (link_refusal list_refusal judged attribute_offset offset b)

-- A list has no refusal if and only if the rule of its table accepts it.
abbrev pub ListsAreAccepted : Type 0
ListsAreAccepted = (judged : Bool) (f : Form) (t : Table) (attribute_offset : ℕ) (p : List ℕ) →
    (list_rule (form_of f) (grammar_at judged t)).accepted p ≡
    is_none (whole_refusal list_refusal (whole f t judged) attribute_offset p)

-- If the first fault of a capture is a refused body, the frame at its offset is whole.
abbrev pub RefusedFramesAreWhole : Type 0
RefusedFramesAreWhole = (limit offset : ℕ) (c : List ℕ) →
    first_fault link_body limit c ≡ Some (record { kind = Refused; offset = offset }) → BeginsWithFrame (drop offset c)

-- There is an offset, and it is from low to high, both included.
abbrev pub IsBetween : ℕ → ℕ → Option ℕ → Type 0
IsBetween low high None = ⊥
IsBetween low high (Some offset) = (low ≤ offset) × (offset ≤ high)

-- The offset of the refusal of c's first frame, which is at `offset`: for a link it is inside the frame or at its end;
-- for other messages there is none.
abbrev pub IsInFrame : ℕ → List ℕ → Found → Type 0
IsInFrame offset c f =
    cond (is_link_type (frame_type c)) (IsBetween offset (offset + frame_length c) f.offset) (f.offset ≡ None)

-- A capture has a refusal if and only if its first fault is a refused body; the refusal is in that frame.
pub record RefusedBodiesHaveRefusals : Type 0 where
  pub refused_body_has_refusal : (limit offset : ℕ) (c : List ℕ) →
      first_fault link_body limit c ≡ Some (record { kind = Refused; offset = offset }) → IsSome (refusal limit c)
  pub offset_in_frame : (limit : ℕ) (c : List ℕ) (f : Found) → refusal limit c ≡ Some f →
      (offset : ℕ) × (first_fault link_body limit c ≡ Some (record { kind = Refused; offset = offset })) ×
      IsInFrame offset (drop offset c) f

-- The refusal of a frame depends only on the frame's bytes.
abbrev pub RefusalsAreIndependent : Type 0
RefusalsAreIndependent = (offset : ℕ) (c d : List ℕ) → BeginsWithFrame c →
    frame_refusal offset (c ++ d) ≡ frame_refusal offset c
