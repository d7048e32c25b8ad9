-- The lists in which encoding quirks occur: the list inside an attribute, and the list kind of the attributes after it.
use Rattle.std.specs.Prelude.{ℕ, ◌+◌, ◌==◌, ◌&&◌, ◌||◌, nat_le, Bool, true, false, cond, List, length, slice_index}
use Rattle.std.specs.Prelude.{Option, Some, None}
use Rattle.attribute_tables_grammar.specs.Lists.{Context}
use Rattle.attribute_tables_grammar.specs.Tables.{info_next}
use Rattle.link_tables.specs.declared.rows.Form.TheVariants.{FirstOnly}
use Rattle.link_tables.specs.declared.rows.Held.{Held}
use Rattle.link_tables.specs.declared.rows.Held.TheVariants.{List as HeldList}
use Rattle.link_tables.specs.declared.table.Table.{Table as Shared}
use Rattle.link_tables.specs.declared.table.TheConstants.{LINK_UNSPEC, LINK_BRIDGE}
use Rattle.link_tables.specs.declared.kinds.TheConstants.{VXLAN, GENEVE, GRE, GRE6}
use Rattle.link_tables.specs.declared.kinds.TheConstants.{IP4_TUNNEL, IP6_TUNNEL, BAREUDP, BATADV, NETKIT, VETH, VXCAN}
use Rattle.link_tables.specs.InForce.{held_in_force}
use Rattle.link_tables.specs.Tables as tables
use Rattle.link_capture_walks.specs.Listings.{Listing as ListingOf, whole}
use Rattle.link_capture_quirks.specs.declared.tables.Data.{Data}
use Rattle.link_capture_quirks.specs.declared.tables.Data.TheVariants.{Other, Vxlan, Geneve, Gre, Gre6, IpTunnel}
use Rattle.link_capture_quirks.specs.declared.tables.Data.TheVariants.{BareUdp, Batadv, Netkit, Pair, AfterFirst}
use Rattle.link_capture_quirks.specs.declared.tables.Table.{Table}
use Rattle.link_capture_quirks.specs.declared.tables.Table.TheVariants.{Unspec, Bridge, Link, Info, Families, Inet}
use Rattle.link_capture_quirks.specs.declared.tables.Table.TheVariants.{Programs, Functions, OfKind}

-- ---- the data of a kind of link, by the shared tables

-- The data with the rows of a table, by its index.
abbrev pub data_of : ℕ → Data
data_of t =
    cond (t == VXLAN.0) Vxlan (cond (t == GENEVE.0) Geneve (cond (t == GRE.0) Gre (cond (t == GRE6.0) Gre6
    (cond (t == IP4_TUNNEL.0 || t == IP6_TUNNEL.0) IpTunnel
    (cond (t == BAREUDP.0) BareUdp (cond (t == BATADV.0) Batadv (cond (t == NETKIT.0) Netkit Other)))))))

-- The data with a payload of the shared tables. Of lists of which only the first attribute is kept, those of `veth` and
-- `vxcan` are a pair: a peer.
abbrev pub data_in : Held → Data
data_in (HeldList FirstOnly t) = cond (t.0 == VETH.0 || t.0 == VXCAN.0) Pair Other
data_in (HeldList form t) = data_of t.0
data_in held = Other

-- The list that a payload of the shared tables is, if it is one.
abbrev pub data_list : Held → Option Table
data_list (HeldList form t) = Some (OfKind (data_in (HeldList form t)))
data_list held = None

-- The list that a payload is, if it is known which.
abbrev pub held_list : Option Held → Option Table
held_list None = None
held_list (Some held) = data_list held

-- The list in an attribute of link info, under the kinds in force.
abbrev pub info_list : Context → ℕ → Option Table
info_list c k = held_list (held_in_force c k)

-- ---- lists

-- A list from some attribute on, by its kind.
abbrev pub Listing : Type 0
Listing = ListingOf Table

-- The attributes of a link, by their table.
abbrev pub link_attributes : Shared → Table
link_attributes t = cond (t.0 == LINK_UNSPEC.0) Unspec (cond (t.0 == LINK_BRIDGE.0) Bridge Link)

-- The attributes of a link of an address family.
abbrev pub family_table : ℕ → Table
family_table n = link_attributes (tables.family_table n)

-- The data that follow an attribute: after the first one of a pair they are `AfterFirst`.
abbrev pub next_data : Data → Data
next_data Pair = AfterFirst
next_data d = d

-- The list kind of the attributes after an attribute: the same one, but for data.
abbrev pub next_table : Table → Table
next_table (OfKind d) = OfKind (next_data d)
next_table t = t

-- The kinds in force after an attribute whose kind has no flag bits.
abbrev pub next_context : Table → Context → ℕ → List ℕ → Context
next_context Info c k p = info_next c k p
next_context t c k p = c

-- The rest of a list after an attribute.
abbrev pub next_list : Listing → ℕ → List ℕ → Listing
next_list l k p =
    record { table = next_table l.table; context = next_context l.table l.context k p; judged = l.judged }

-- ---- the list inside an attribute

-- The list inside an attribute of a link, of every address family: IFLA_LINKINFO, IFLA_VFINFO_LIST, IFLA_XDP.
abbrev pub inside_link : ℕ → Option Table
inside_link k =
    cond (k == 18) (Some Info)
    (cond (k == 22) (Some Functions) (cond (k == 43) (Some Programs) None))

-- The list inside an attribute, unless it is a peer: IFLA_AF_SPEC, the kinds of link info, AF_INET.
abbrev pub inside_table : Table → Context → ℕ → Option Table
inside_table Unspec c k = cond (k == 26) (Some Families) (inside_link k)
inside_table Bridge c k = inside_link k
inside_table Link c k = inside_link k
inside_table Info c k = info_list c k
inside_table Families c k = cond (k == 2) (Some Inet) None
inside_table _ c k = None

-- Attributes of kind 1 in these data are peers.
abbrev pub has_peer : Table → Bool
has_peer (OfKind Netkit) = true
has_peer (OfKind Pair) = true
has_peer _ = false

-- The attribute is a peer, which is judged here and has a header.
abbrev pub is_judged_peer : Listing → ℕ → List ℕ → Bool
is_judged_peer l k p = (k == 1) && (l.judged && (nat_le 16 (length p) && has_peer l.table))

-- A list that is the whole payload of an attribute.
abbrev pub at_payload_start : Listing → Option Table → Option (Listing × ℕ)
at_payload_start l None = None
at_payload_start l (Some t) = Some (whole t l.judged, 0)

-- The list inside an attribute, and the number of bytes before it in the payload: 16 for the header of a peer.
unfoldable pub inside : Listing → ℕ → List ℕ → Option (Listing × ℕ)
inside l k p =
    cond (is_judged_peer l k p) (Some (whole (family_table (slice_index p 0)) false, 16))
    (at_payload_start l (inside_table l.table l.context k))

-- ---- how deeply lists are nested

-- How many levels of lists a list of this kind may have inside, not counting peers.
abbrev pub table_depth : Table → ℕ
table_depth Unspec = 2
table_depth Bridge = 2
table_depth Link = 2
table_depth Info = 1
table_depth Families = 1
table_depth _ = 0

-- A bound on the levels of lists inside a list: three more if peers are judged.
abbrev pub depth : Listing → ℕ
depth l = cond l.judged 3 0 + table_depth l.table
