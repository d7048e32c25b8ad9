-- The body of a link message: a header of 16 bytes and a list of attributes. The payloads of the attributes depend on a
-- rule of peers.
use Rattle.std.specs.Prelude.{ℕ, ◌+◌, ◌*◌, ◌==◌, ◌&&◌, not, nat_le, Bool, cond, List, [], ◌∷◌, ◌++◌, length, take, drop}
use Rattle.std.specs.Prelude.{bytes_eq, slice_index}
use Rattle.std.specs.List.{list_any}
use Rattle.netlink_packet_core_grammar.specs.Attributes.{Attribute}
use Rattle.attribute_tables_grammar.specs.Rules.{Rule}
use Rattle.attribute_tables_grammar.specs.Lists.{Row, any}
use Rattle.attribute_tables_grammar.specs.LookUps.{payload_rule, row_of_line}
use Rattle.attribute_tables_grammar.specs.Peers.{RuleOfPeers, bytes_peer}
use Rattle.attribute_tables_grammar.specs.Tables.{Payload.list, rule}
use Rattle.attribute_tables_grammar.specs.Walks.{Measure}
use Rattle.link_message_grammar.specs.LinkMessage.{Family, family_of, info, link_line, link_table}

-- The link layer types that have names (if_arp.h, ARPHRD_*).
abbrev pub layer_types : List ℕ
layer_types =
    0 ∷ 1 ∷ 2 ∷ 3 ∷ 4 ∷ 5 ∷ 6 ∷ 7 ∷ 8 ∷ 15 ∷ 19 ∷ 23 ∷ 24 ∷ 27 ∷ 32 ∷ 256 ∷ 257 ∷ 258 ∷ 259 ∷ 260 ∷ 264 ∷ 270 ∷ 271 ∷
    272 ∷ 280 ∷ 290
    ∷ 512 ∷ 513 ∷ 516 ∷ 517 ∷ 518 ∷ 519 ∷ 768 ∷ 769 ∷ 770 ∷ 771 ∷ 772 ∷ 773 ∷ 774 ∷ 775 ∷ 776 ∷ 777 ∷ 778 ∷ 779 ∷ 780 ∷
    781 ∷ 782 ∷ 783
    ∷ 784 ∷ 785 ∷ 786 ∷ 787 ∷ 800 ∷ 801 ∷ 802 ∷ 803 ∷ 804 ∷ 805 ∷ 820 ∷ 821 ∷ 822 ∷ 823 ∷ 824 ∷ 825 ∷ 826 ∷ 65534 ∷
    65535 ∷ []

-- Whether a layer type has a name.
unfoldable pub has_layer_type_name : ℕ → Bool
has_layer_type_name n = list_any (λ m. m == n) layer_types

-- The two bytes of a link layer type; one without a name is written as ARPHRD_VOID, 65535.
abbrev pub layer_type_text : ℕ → ℕ → List ℕ
layer_type_text a b = cond (has_layer_type_name (a + 256 * b)) (a ∷ b ∷ []) (255 ∷ 255 ∷ [])

-- The header as it is written: family, 0, layer type, index, flags, change mask.
abbrev pub header_text : List ℕ → List ℕ
header_text (family ∷ x ∷ a ∷ b ∷ rest) = family ∷ 0 ∷ layer_type_text a b ++ take 12 rest
header_text _ = []

-- The bytes of a body's attributes.
abbrev pub attribute_bytes : List ℕ → List ℕ
attribute_bytes b = drop 16 b

-- The family of a body.
abbrev pub family : List ℕ → Family
family b = family_of (slice_index b 0)

-- The rule of the attributes of a family, under a rule of peers.
unfoldable pub attributes_rule : RuleOfPeers → Family → Rule
attributes_rule p f = rule p (list any (link_table f))

-- The rule of a body: a header, and the attributes of its family.
unfoldable pub body_rule : RuleOfPeers → Rule
body_rule p = record {
  accepted = λ b. nat_le 16 (length b) && (attributes_rule p (family b)).accepted (attribute_bytes b);
  same = λ a b. bytes_eq (header_text a) (header_text b) &&
      (attributes_rule p (family a)).same (attribute_bytes a) (attribute_bytes b);
  canonical = λ b. header_text b ++ (attributes_rule p (family b)).canonical (attribute_bytes b);
  attributes = λ b. (attributes_rule p (family b)).attributes (attribute_bytes b);
  fits = λ b. (attributes_rule p (family b)).fits (attribute_bytes b);
  empty_ports = λ b. (attributes_rule p (family b)).empty_ports (attribute_bytes b);
}

-- The row of a kind without its flag bits, under a family and a rule of peers.
abbrev pub attribute_row : RuleOfPeers → Family → ℕ → Row
attribute_row p f k = row_of_line p (link_line f k)

-- The rule of the payload of IFLA_LINKINFO, which has at least one attribute, under a rule of peers.
abbrev pub info_payload_rule : RuleOfPeers → Rule
info_payload_rule p = payload_rule p info

-- ---- peers that are link bodies

-- The rule of peers by which a peer is a body that the given rule of bodies accepts, that fits and has no empty ports.
abbrev pub link_peer_of : Rule → RuleOfPeers
link_peer_of r = record {
  accepted = λ b. r.accepted b && not (r.empty_ports b) && r.fits b;
  same = r.same;
  canonical = r.canonical;
  attributes = r.attributes;
}

-- ---- the rules in force

-- The rule of peers in force: a peer is a link body, in which peers are bytes.
unfoldable pub link_peer : RuleOfPeers
link_peer = link_peer_of (body_rule bytes_peer)

-- The rule of link bodies in force.
abbrev pub link_body : Rule
link_body = body_rule link_peer

-- ---- definitions that the laws use

-- The canonical attribute is an IFLA_VF_PORTS without an entry: it was read from a list that has entries, but keeps none.
abbrev pub is_emptied : Attribute → Bool
is_emptied e = e.kind == 24 && length e.payload == 0

-- The measure of a body, from that of its attributes: the header adds 16 bytes.
abbrev pub with_body_header : Measure → Measure
with_body_header m = record { size = 16 + m.size; attributes = m.attributes; fits = m.fits; empty_ports = m.empty_ports }
