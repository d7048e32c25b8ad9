-- The laws of encoding quirks, as the functions of `laws` state them.
use Rattle.std.specs.Prelude.{◌≡◌, ℕ, true, false, ◌+◌, List, [], ◌++◌, drop, None, Ok, Err}
use Rattle.netlink_packet_core_grammar.specs.Attributes.{Attribute, proper_kind, nla_align}
use Rattle.link_capture_grammar.specs.declared.fault.FaultKind.{FaultKind}
use Rattle.link_capture_grammar.specs.Captures.{first_frame}
use Rattle.attribute_tables_grammar.specs.Shapes.{Shape}
use Rattle.attribute_tables_grammar.specs.Lists.{canonical_form, is_kept, of_kind_one, first_only, list_rule}
use Rattle.attribute_tables_grammar.specs.LookUps.{table_row}
use Rattle.attribute_tables_grammar.specs.Peers.{RuleOfPeers}
use Rattle.attribute_tables_grammar.specs.Tables.{Table as Rows, grammar}
use Rattle.link_info_grammar.specs.Families.{vxlan, geneve, gre, gre6, ip_tunnel, bareudp, batadv, netkit, pair}
use Rattle.link_message_grammar.specs.Body.{attribute_row, header_text, link_body}
use Rattle.link_message_grammar.specs.LinkMessage.{Family, unspec, bridge, inet_6, other}
use Rattle.link_message_grammar.specs.NestedTables.{inet, xdp, vf_infos}
use Rattle.link_capture_quirks.specs.declared.tables.Data.{Data}
use Rattle.link_capture_quirks.specs.declared.tables.Data.TheVariants.{Vxlan, Geneve, Gre, Gre6, IpTunnel, BareUdp}
use Rattle.link_capture_quirks.specs.declared.tables.Data.TheVariants.{Batadv, Netkit, Pair}
use Rattle.link_capture_quirks.specs.declared.tables.Table.{Table}
use Rattle.link_capture_quirks.specs.declared.tables.Table.TheVariants.{Unspec, Bridge, Link, Inet, Programs, Functions}
use Rattle.link_capture_quirks.specs.declared.tables.Table.TheVariants.{OfKind}
use Rattle.link_capture_quirks.specs.QuirkRows.{header_quirk}
use Rattle.link_capture_walks.specs.Listings.{whole}
use Rattle.link_capture_walks.specs.Walks.{UnfoldsByAttributes}
use Rattle.link_capture_quirks.specs.QuirkLists.{direct_quirks, list_quirks, quirk_walk}
use Rattle.link_capture_quirks.specs.CaptureQuirks.{frame_quirks, quirks_from}

-- The quirks of a list are those of its first attribute, of the list inside that, and of the rest. If no whole
-- attribute is left, there are none.
abbrev pub ListsUnfoldByAttributes : Type 0
ListsUnfoldByAttributes = UnfoldsByAttributes quirk_walk list_quirks

-- The quirks of a capture are those of its first frame, and of the bytes after it and its padding. From a faulty frame
-- on there are none.
pub record QuirksUnfoldByFrames : Type 0 where
  pub next : (limit offset : ℕ) (c : List ℕ) (frame : ℕ × List ℕ) → first_frame link_body limit c ≡ Ok frame →
      quirks_from limit offset c ≡
      frame_quirks offset c ++ quirks_from limit (offset + nla_align frame.0) (drop (nla_align frame.0) c)
  pub fault : (limit offset : ℕ) (c : List ℕ) (kind : FaultKind) → first_frame link_body limit c ≡ Err kind →
      quirks_from limit offset c ≡ []
  pub none : (limit offset : ℕ) → quirks_from limit offset [] ≡ []

-- ---- what is written

-- The list kind of the attributes of a link of an address family.
abbrev pub link_list : Family → Table
link_list unspec = Unspec
link_list bridge = Bridge
link_list inet_6 = Link
link_list other = Link

-- The table with the rows of a kind of data in which quirks occur, except for those of a pair.
abbrev pub IsDataTable : Data → Rows → Type 0
IsDataTable Vxlan t = t ≡ vxlan
IsDataTable Geneve t = t ≡ geneve
IsDataTable Gre t = t ≡ gre
IsDataTable Gre6 t = t ≡ gre6
IsDataTable IpTunnel t = (flags : Shape) × (t ≡ ip_tunnel flags)
IsDataTable BareUdp t = t ≡ bareudp
IsDataTable Batadv t = t ≡ batadv
IsDataTable Netkit t = t ≡ netkit
IsDataTable _ t = ⊥

-- An accepted attribute, as its row writes it, has no quirk itself, under every rule of peers; neither has a header, as
-- it is written.
pub record WrittenAttributesHaveNone : Type 0 where
  -- attributes of a link
  pub link : (p : RuleOfPeers) (f : Family) (offset : ℕ) (e : Attribute) →
      (attribute_row p f (proper_kind e.kind)).rule.accepted e.payload ≡ true →
      direct_quirks (link_list f) offset (canonical_form (attribute_row p f (proper_kind e.kind)) e) ≡ []
  -- of the data of a kind of link
  pub of_kind : (p : RuleOfPeers) (d : Data) (t : Rows) (offset : ℕ) (e : Attribute) → IsDataTable d t →
      direct_quirks (OfKind d) offset (canonical_form (table_row p t (proper_kind e.kind)) e) ≡ []
  -- of the settings of IPv4, and of programs
  pub settings : (p : RuleOfPeers) (offset : ℕ) (e : Attribute) →
      direct_quirks Inet offset (canonical_form (table_row p inet (proper_kind e.kind)) e) ≡ []
  pub programs : (p : RuleOfPeers) (offset : ℕ) (e : Attribute) →
      direct_quirks Programs offset (canonical_form (table_row p xdp (proper_kind e.kind)) e) ≡ []
  -- of the virtual functions that are kept
  pub functions : (p : RuleOfPeers) (offset : ℕ) (e : Attribute) → is_kept of_kind_one e ≡ true →
      direct_quirks Functions offset (canonical_form (table_row p vf_infos (proper_kind e.kind)) e) ≡ []
  -- the text of a pair's data has no attribute after the first one, and no quirk
  pub pair : (p : RuleOfPeers) (offset : ℕ) (b : List ℕ) → (list_rule first_only (grammar p pair)).accepted b ≡ true →
      list_quirks (whole (OfKind Pair) false) offset ((list_rule first_only (grammar p pair)).canonical b) ≡ []
  pub header : (t : ℕ) (b : List ℕ) → header_quirk t (header_text b) ≡ None
