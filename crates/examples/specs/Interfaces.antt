-- The contents of a table of interfaces, and how messages change it.
use Rattle.std.specs.Prelude.{◌≡◌, ◌≢◌, ℕ, ◌+◌, Bool, true, false, List, [], ◌∷◌, drop, option_map, Option, None, Some}
use Rattle.std.specs.Prelude.{string_bytes}
use Rattle.std.specs.BTreeMap.{get, BTreeMap}
use Rattle.std.specs.Ordering.{nat_cmp}
use Rattle.netlink_packet_core.specs.Attributes.{nla_align}
use Rattle.netlink_packet_core.specs.NetlinkMessage.{NetlinkMessage}
use Rattle.netlink_packet_core.specs.NetlinkPayload.{NetlinkPayload}
use Rattle.netlink_packet_core.specs.NetlinkPayload.TheVariants.{InnerMessage}
use Rattle.link_message.specs.LinkFlags.{LinkFlags}
use Rattle.link_message.specs.LinkAttribute.{LinkAttribute}
use Rattle.link_capture.specs.declared.route.RouteLink.{RouteLink}
use Rattle.link_capture.specs.Texts.{IsFirstMessage}
use Rattle.link_capture.specs.Views.{readable_message}
use Rattle.examples.specs.declared.interfaces.Interface.{Interface}

-- Interfaces by their index.
abbrev pub Interfaces : Type 0
Interfaces = BTreeMap ℕ Interface

-- The name in attributes, in bytes: that of the first IFLA_IFNAME, or none.
abbrev pub name_in_attributes : List LinkAttribute → List ℕ
name_in_attributes [] = []
name_in_attributes (LinkAttribute.IfName name ∷ rest) = string_bytes name
name_in_attributes (_ ∷ rest) = name_in_attributes rest

-- What a table knows of the interface with an index: its name in bytes, and its flags.
abbrev pub known : Interfaces → ℕ → Option (List ℕ × LinkFlags)
known table index = option_map (λ i. (string_bytes i.name, i.flags)) (get nat_cmp table index)

-- The new table has this entry for the index, and the old table's entries for all others.
pub record Sets (index : ℕ) (known_entry : Option (List ℕ × LinkFlags)) (old new : Interfaces) : Type 0 where
  pub it : known new index ≡ known_entry
  pub others : (other : ℕ) → other ≢ index → known new other ≡ known old other

-- A message reports that a link exists.
abbrev pub is_new_link : NetlinkPayload RouteLink → Bool
is_new_link (InnerMessage (RouteLink.NewLink link)) = true
is_new_link _ = false

-- The new table is the old one after a message.
abbrev pub Learns : NetlinkPayload RouteLink → Interfaces → Interfaces → Type 0
Learns (InnerMessage (RouteLink.NewLink link)) old new =
    let m = readable_message link in
    Sets m.header.index (Some (name_in_attributes m.attributes.items, m.header.flags)) old new
Learns (InnerMessage (RouteLink.DelLink link)) old new = Sets (readable_message link).header.index None old new
Learns _ old new = (index : ℕ) → known new index ≡ known old index

-- The new table is the old one after some messages, in their order.
abbrev pub LearnsAll : List (NetlinkMessage RouteLink) → Interfaces → Interfaces → Type 0
LearnsAll [] old new = (index : ℕ) → known new index ≡ known old index
LearnsAll (m ∷ messages) old new = (between : Interfaces) × Learns m.payload old between ×
    LearnsAll messages between new

-- These are the messages that a capture has before this offset.
abbrev pub AreMessages : ℕ → List ℕ → List (NetlinkMessage RouteLink) → ℕ → Type 0
AreMessages limit c [] offset = offset ≡ 0
AreMessages limit c (m ∷ messages) offset =
    (n : ℕ) × IsFirstMessage limit c n m ×
    ((left : ℕ) × (offset ≡ nla_align n + left) × AreMessages limit (drop (nla_align n) c) messages left)
