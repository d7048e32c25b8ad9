-- Requests, and the frames that they are written as.
use Rattle.std.specs.Prelude.{◌≡◌, ℕ, ◌+◌, ◌%◌, ◌^◌, ◌<◌, ◌≤◌, List, [], ◌∷◌, ◌++◌, length, codes, Ok}
use Rattle.netlink_packet_core.specs.Attributes.{Attribute, list_text, zeros}
use Rattle.netlink_packet_core.specs.Families.{attribute}
use Rattle.netlink_packet_core.specs.Headers.{header_text}
use Rattle.netlink_packet_core.specs.Numbers.{be2, le4}
use Rattle.netlink_packet_core.specs.TypedBodies.{TypedBody}
use Rattle.link_message.specs.Body.{link_body}
use Rattle.link_capture.specs.Bodies.{ruled_text}
use Rattle.link_capture.specs.Captures.{IsLegal, texts}

-- The frame of a message with these flags and this sequence number, to the port 0, which is the kernel's (netlink.h,
-- struct nlmsghdr).
abbrev pub request_text : ℕ → ℕ → TypedBody → List ℕ
request_text flags sequence_number message =
    header_text (record {
      length = 16 + length message.1;
      message_type = message.0;
      flags = flags;
      sequence_number =
          sequence_number;
      port_number = 0;
    })
    ++ message.1

-- The frame of a request to make a link: RTM_NEWLINK, with NLM_F_REQUEST, NLM_F_ACK, NLM_F_EXCL and NLM_F_CREATE.
abbrev pub new_link_text : ℕ → List ℕ → List ℕ
new_link_text sequence_number body = request_text 0x605 sequence_number (16, body)

-- A capture is legal and already canonical.
abbrev pub IsNormal : ℕ → List ℕ → Type 0
IsNormal limit c = IsLegal link_body limit c × (texts link_body limit c ≡ c)

-- A request to make a link is legal and already canonical under each limit of at least its length, if its body is
-- already canonical and has a size that is a multiple of 4.
abbrev pub NewLinksAreNormal : Type 0
NewLinksAreNormal =
    (sequence_number limit : ℕ) (b : List ℕ) → ruled_text link_body b ≡ Ok b → length b % 4 ≡ 0 →
    16 + length b < 2 ^ 32 → length (new_link_text sequence_number b) ≤ limit →
    IsNormal limit (new_link_text sequence_number b)

-- The settings of a vxlan: IFLA_VXLAN_ID, IFLA_VXLAN_LEARNING, which is off, and IFLA_VXLAN_PORT, the port of vxlan
-- (IANA).
abbrev pub vxlan_settings : ℕ → List Attribute
vxlan_settings vni = attribute 1 (le4 vni) ∷ attribute 7 (0 ∷ []) ∷ attribute 15 (be2 4789) ∷ []

-- The link info of a vxlan: IFLA_INFO_KIND and IFLA_INFO_DATA.
abbrev pub vxlan_info : ℕ → List Attribute
vxlan_info vni = attribute 1 (codes "vxlan" ++ 0 ∷ []) ∷ attribute 2 (list_text (vxlan_settings vni)) ∷ []

-- The text of the link info of a vxlan.
abbrev pub vxlan_info_text : ℕ → List ℕ
vxlan_info_text vni = list_text (vxlan_info vni)

-- The attributes of a request to make a vxlan: IFLA_IFNAME, IFLA_MTU and IFLA_LINKINFO.
abbrev pub vxlan_attributes : List ℕ → ℕ → ℕ → List Attribute
vxlan_attributes name vni mtu =
    attribute 3 (name ++ 0 ∷ []) ∷ attribute 4 (le4 mtu) ∷ attribute 18 (vxlan_info_text vni) ∷ []

-- The body of a request to make a vxlan: 16 zeros (rtnetlink.h, struct ifinfomsg), and the attributes.
abbrev pub vxlan_body : List ℕ → ℕ → ℕ → List ℕ
vxlan_body name vni mtu = zeros 16 ++ list_text (vxlan_attributes name vni mtu)

-- The request to make a vxlan with this name, network number and greatest size of a packet.
abbrev pub vxlan_text : List ℕ → ℕ → ℕ → ℕ → List ℕ
vxlan_text name vni mtu sequence_number = new_link_text sequence_number (vxlan_body name vni mtu)
