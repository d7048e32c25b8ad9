-- The attributes of a link message, each with its context, in the order of their bytes.
use Rattle.std.specs.Prelude.{ℕ, suc, ◌+◌, ◌==◌, ◌&&◌, ◌||◌, nat_le, cond, false, true, List, [], ◌∷◌, length}
use Rattle.std.specs.Prelude.{drop, slice_index, Option, Some, None, option_map}
use Rattle.netlink_packet_core_grammar.specs.Attributes.{Attribute, proper_kind}
use Rattle.netlink_packet_core_grammar.specs.Frames.{frame_body, frame_type}
use Rattle.attribute_tables_grammar.specs.Lists.{Context}
use Rattle.link_tables.specs.declared.rows.Form.TheVariants.{Any}
use Rattle.link_tables.specs.Tables.{family_table, is_link_info}
use Rattle.link_capture_grammar.specs.Bodies.{is_link_type}
use Rattle.link_capture_lists.specs.declared.tables.Inside.{Inside}
use Rattle.link_capture_lists.specs.declared.tables.Inside.TheVariants as I
use Rattle.link_capture_lists.specs.ListTables.{Listing, list_rest, row_in, whole}
use Rattle.link_capture_lists.specs.RowRules.{following}
use Rattle.link_capture_walks.specs.Walks.{OfLists, Walk, collected}

-- An attribute with its context: the offset of its header in bytes from the capture's start, its kind and payload, how
-- many attributes it is inside, its name if its table has one, and the link kind whose data it holds or is in.
pub record Found : Type 0 where
  pub offset : ℕ
  pub attribute : Attribute
  pub depth : ℕ
  pub name : Option (List ℕ)
  pub link_kind : Option (List ℕ)

-- A list from some attribute on, how many attributes it is inside, and the link kind whose data it is in.
pub record Level : Type 0 where
  pub list : Listing
  pub depth : ℕ
  pub link_kind : Option (List ℕ)

-- The link kind by which link info reads the payload of a kind: the port kind for port data, the kind for data and
-- statistics.
abbrev pub kind_in_force : Context → ℕ → Option (List ℕ)
kind_in_force c k = cond (k == 5) c.port_kind (cond (k == 2 || k == 3) c.kind None)

-- The link kind whose data an attribute holds or is in, by its kind without flag bits.
abbrev pub link_kind_of : Level → ℕ → Option (List ℕ)
link_kind_of l k = cond (is_link_info l.list.table.rows) (kind_in_force l.list.context k) l.link_kind

-- The name and the content of an attribute of a list, by its kind without flag bits.
abbrev pub row_of : Level → ℕ → Option (List ℕ × Inside)
row_of l k = row_in l.list.table.rows l.list.context k

-- The first attribute of a list, which is at an offset.
abbrev pub found_in : Level → ℕ → Attribute → Found
found_in l offset e =
    record {
      offset = offset;
      attribute = e;
      depth = l.depth;
      name = option_map (λ x. x.0) (row_of l (proper_kind e.kind));
      link_kind = link_kind_of l (proper_kind e.kind);
    }

-- The list in a payload with this content, and the number of bytes before it: 16 for a peer's header, which is a link's.
-- Inside a peer, peers are bytes.
abbrev pub level_inside : Level → Option (List ℕ) → Inside → List ℕ → Option (Level × ℕ)
level_inside l kind (I.List f t) p =
    Some (record { list = whole f t l.list.judged; depth = suc l.depth; link_kind = kind }, 0)
level_inside l kind I.Peer p =
    cond (l.list.judged && nat_le 16 (length p))
    (Some (record { list = whole Any (family_table (slice_index p 0)) false; depth = suc l.depth; link_kind = None }, 16))
    None
level_inside l kind _ p = None

-- The list in the payload of an attribute with this row.
abbrev pub level_by_row : Level → Option (List ℕ) → Option (List ℕ × Inside) → List ℕ → Option (Level × ℕ)
level_by_row l kind None p = None
level_by_row l kind (Some x) p = level_inside l kind x.1 p

-- The list in an attribute of a list.
abbrev pub inside : Level → Attribute → Option (Level × ℕ)
inside l e =
    level_by_row l (link_kind_of l (proper_kind e.kind)) (row_of l (proper_kind e.kind)) e.payload

-- The rest of a list after its first attribute.
abbrev pub after : Level → Attribute → Level
after l e = record { list = following l.list e; depth = l.depth; link_kind = l.link_kind }

-- The walk through the attributes of a list and those inside them.
abbrev pub attribute_walk : Walk Level Found
attribute_walk =
    record {
      direct = λ l offset e. found_in l offset e ∷ [];
      inside = inside;
      after = after;
      rest = λ l bytes. list_rest l.list.table.form bytes;
    }

-- The attributes of a list whose bytes, or the rest of them, begin at `offset`: its first one, those inside that, and
-- those of what follows it and its padding.
unfoldable pub list_attributes : OfLists Level (List Found)
list_attributes l offset bytes = collected attribute_walk l offset bytes

-- A link's attributes, from its first one on.
abbrev pub link_level : List ℕ → Level
link_level b = record { list = whole Any (family_table (slice_index b 0)) true; depth = 0; link_kind = None }

-- The attributes of c's first frame, which is at `offset`, if it is a link message; other messages have none.
unfoldable pub frame_attributes : ℕ → List ℕ → List Found
frame_attributes offset c =
    cond (is_link_type (frame_type c))
    (list_attributes (link_level (frame_body c)) (offset + 16 + 16) (drop 16 (frame_body c))) []

-- The first attribute at an offset or after it.
abbrev pub first_from : ℕ → List Found → Option Found
first_from position [] = None
first_from position (f ∷ fs) = cond (nat_le position f.offset) (Some f) (first_from position fs)
