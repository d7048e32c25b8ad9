-- The refusal of a body: the first attribute, in the order of the bytes, that isn't accepted, its offset and the
-- reason.
use Rattle.std.specs.Prelude.{ℕ, zero, suc, ◌+◌, nat_lt, Bool, true, false, cond, List, [], ◌∷◌, length, drop}
use Rattle.std.specs.Prelude.{slice_index, Option, Some, None, option_map}
use Rattle.netlink_packet_core_grammar.specs.Attributes.{Attribute, attribute_length, first_attribute, nla_align}
use Rattle.netlink_packet_core_grammar.specs.Attributes.{proper_kind}
use Rattle.netlink_packet_core_grammar.specs.Frames.{frame_body, frame_type}
use Rattle.netlink_packet_core_grammar.specs.Numbers.{u16_at}
use Rattle.attribute_tables_grammar.specs.Peers.{bytes_peer}
use Rattle.link_tables.specs.declared.rows.Form.{Form}
use Rattle.link_tables.specs.declared.rows.Form.TheVariants.{Any, NonEmpty, OfKindOne, Ports, FirstOnly}
use Rattle.link_message_grammar.specs.Body.{body_rule, link_body}
use Rattle.link_capture_grammar.specs.Bodies.{is_link_type}
use Rattle.link_capture_grammar.specs.Captures.{first_fault}
use Rattle.link_capture_grammar.specs.declared.fault.CaptureFault.{CaptureFault}
use Rattle.link_capture_grammar.specs.declared.fault.FaultKind.{FaultKind}
use Rattle.link_capture_grammar.specs.declared.fault.FaultKind.TheVariants.{Refused}
use Rattle.link_capture_refusals.specs.declared.reason.Reason.{Reason}
use Rattle.link_capture_refusals.specs.declared.reason.Reason.TheVariants as R
use Rattle.link_capture_lists.specs.declared.tables.Inside.{Inside}
use Rattle.link_capture_lists.specs.declared.tables.Inside.TheVariants as I
use Rattle.link_capture_lists.specs.ListTables.{Listing, list_rest, row_in, whole}
use Rattle.link_tables.specs.Tables.{family_table}
use Rattle.link_capture_refusals.specs.ReasonTexts.{missing_reason, shape_reason}
use Rattle.link_capture_lists.specs.RowRules.{following, is_accepted}
pub use Rattle.link_capture_walks.specs.Walks.{or_else}

-- A refusal: the names of the attribute and of those around it, outermost first, its offset in bytes from the capture's
-- start, and the reason.
pub record Found : Type 0 where
  pub path : List (List ℕ)
  pub offset : Option ℕ
  pub reason : Reason

-- A refusal outside of all attributes, at an offset.
abbrev pub found_at : ℕ → Reason → Found
found_at offset reason = record { path = []; offset = Some offset; reason = reason }

-- The same refusal inside an attribute with a name.
abbrev pub named : List ℕ → Found → Found
named name f = record { path = name ∷ f.path; offset = f.offset; reason = f.reason }

-- The reason why bytes don't begin with an attribute.
abbrev pub no_attribute : List ℕ → Reason
no_attribute b = cond (nat_lt (length b) 4) (R.CutHeader (length b)) (R.WrongLength (length b) (u16_at 0 b))

-- ---- one level, by the refusal of lists

-- A function that returns the refusal of a list, of which these bytes are the rest, at an offset.
abbrev pub ListRefusal : Type 0
ListRefusal = Listing → ℕ → List ℕ → Option Found

-- The refusal of a list without an attribute, in an attribute at `attribute_offset`: some list kinds need one.
abbrev pub empty_refusal : Form → ℕ → Option Found
empty_refusal Any attribute_offset = None
empty_refusal NonEmpty attribute_offset = Some (found_at attribute_offset R.EmptyList)
empty_refusal OfKindOne attribute_offset = None
empty_refusal Ports attribute_offset = Some (found_at attribute_offset R.EmptyList)
empty_refusal FirstOnly attribute_offset = Some (found_at (attribute_offset + 4) (R.CutHeader 0))

-- The refusal of a list that is the payload of the attribute at `attribute_offset`.
abbrev pub whole_refusal : ListRefusal → Listing → ℕ → List ℕ → Option Found
whole_refusal list l attribute_offset [] = empty_refusal l.table.form attribute_offset
whole_refusal list l attribute_offset (b ∷ p) = list l (attribute_offset + 4) (b ∷ p)

-- The refusal of a link's body at `offset`: of its header, reported at `attribute_offset` (that of the peer's attribute,
-- or `offset` itself for a message), or of one of its attributes.
abbrev pub link_refusal : ListRefusal → Bool → ℕ → ℕ → List ℕ → Option Found
link_refusal list judged attribute_offset offset b =
    cond (nat_lt (length b) 16) (Some (found_at attribute_offset (R.CutLink (length b))))
    (list (whole Any (family_table (slice_index b 0)) judged) (offset + 16) (drop 16 b))

-- The refusal of a peer that isn't accepted: that of the link's body in it, or, if that is accepted, the reason why it
-- can't be written.
abbrev pub peer_refusal : ListRefusal → ℕ → List ℕ → Option Found
peer_refusal list attribute_offset p =
    or_else (link_refusal list false attribute_offset (attribute_offset + 4) p)
    (Some (found_at attribute_offset (cond ((body_rule bytes_peer).empty_ports p) R.EmptyPorts R.Unfit)))

-- The refusal of a payload that isn't accepted, in the attribute at `attribute_offset`.
abbrev pub inside_refusal : ListRefusal → Bool → Inside → ℕ → List ℕ → Option Found
inside_refusal list judged (I.Value s) attribute_offset p = Some (found_at attribute_offset (shape_reason s (length p)))
inside_refusal list judged (I.List f t) attribute_offset p = whole_refusal list (whole f t judged) attribute_offset p
inside_refusal list judged I.Peer attribute_offset p = peer_refusal list attribute_offset p
inside_refusal list judged (I.Refused k) attribute_offset p = Some (found_at attribute_offset (missing_reason k))

-- The refusal of a payload that isn't accepted, by the name and the content of its attribute.
abbrev pub row_refusal : ListRefusal → Bool → Option (List ℕ × Inside) → ℕ → List ℕ → Option Found
row_refusal list judged None attribute_offset p = None
row_refusal list judged (Some x) attribute_offset p =
    option_map (named x.0) (inside_refusal list judged x.1 attribute_offset p)

-- The refusal of an attribute at `offset`; an accepted one has none.
abbrev pub attribute_refusal : ListRefusal → Listing → ℕ → Attribute → Option Found
attribute_refusal list l offset e =
    cond (is_accepted l e) None
    (row_refusal list l.judged (row_in l.table.rows l.context (proper_kind e.kind)) offset e.payload)

-- The refusal of a list's first attribute, or else that of the bytes after it and its padding.
abbrev pub next_refusal : ListRefusal → Listing → ℕ → List ℕ → Option (Attribute × List ℕ) → Option Found
next_refusal list l offset bytes None = Some (found_at offset (no_attribute bytes))
next_refusal list l offset bytes (Some x) =
    or_else (attribute_refusal list l offset x.0)
    (list (following l x.0) (offset + nla_align (attribute_length x.0)) (list_rest l.table.form x.1))

-- ---- lists, in at most n steps

-- The refusal of a list, if it is found in fewer than n steps; a step goes past an attribute, or into it.
unfoldable pub refusal_within : ℕ → ListRefusal
refusal_within zero l offset bytes = None
refusal_within (suc n) l offset [] = None
refusal_within (suc n) l offset (b ∷ bytes) =
    next_refusal (λ m q d. refusal_within n m q d) l offset (b ∷ bytes) (first_attribute (b ∷ bytes))

-- The refusal of a list.
unfoldable pub list_refusal : ListRefusal
list_refusal l offset bytes = refusal_within (length bytes) l offset bytes

-- ---- of captures

-- The refusal of a message other than a link's, which has fewer bytes than its code.
abbrev pub code_refusal : List ℕ → Found
code_refusal b = record { path = []; offset = None; reason = R.CutCode (length b) }

-- The refusal of c's first frame, whose fault is a refused body and which is at `offset`.
unfoldable pub frame_refusal : ℕ → List ℕ → Option Found
frame_refusal offset c =
    cond (is_link_type (frame_type c)) (link_refusal list_refusal true (offset + 16) (offset + 16) (frame_body c))
    (Some (code_refusal (frame_body c)))

-- The refusal of the frame with a fault, by the fault's offset and kind.
abbrev pub fault_refusal : List ℕ → ℕ → FaultKind → Option Found
fault_refusal c offset Refused = frame_refusal offset (drop offset c)
fault_refusal c offset _ = None

-- The refusal of a capture by its first fault.
abbrev pub first_fault_refusal : List ℕ → Option CaptureFault → Option Found
first_fault_refusal c None = None
first_fault_refusal c (Some fault) = fault_refusal c fault.offset fault.kind

-- The refusal of a capture, if its first fault is a refused body.
abbrev pub refusal : ℕ → List ℕ → Option Found
refusal limit c = first_fault_refusal c (first_fault link_body limit c)
