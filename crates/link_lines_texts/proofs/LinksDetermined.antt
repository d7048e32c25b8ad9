-- Lines determine the lists of link messages, and the peers in them.
use Rattle.std.proofs.Common.{◌≡◌, ℕ, zero, suc, ◌<◌, ◌≤◌, Bool, true, false, cond, List, [], ◌++◌, length, drop, Some, refl, sym, ap, ◌∙◌, arith}
use Rattle.std.specs.Prelude.{◌==◌, ◌&&◌, not, bytes_eq}
use Rattle.std.proofs.lemmas.Bool.{and_parts, le-leb}
use Rattle.std.proofs.lemmas.List.{length-drop}
use Rattle.std.proofs.lemmas.Slice.Eq.{bytes_eq-Decides}
use Rattle.netlink_packet_core_grammar.specs.Bytes.{AreBytes}
use Rattle.attribute_tables_grammar.specs.Lists.{any}
use Rattle.attribute_tables_grammar.specs.Peers.{RuleOfPeers, bytes_peer, peer_rule}
use Rattle.attribute_tables_grammar.specs.Tables.{Payload}
use Rattle.link_message_grammar.specs.Body.{body_rule, link_peer, attributes_rule}
use Rattle.link_message_grammar.specs.LinkMessage.{Family, unspec, bridge, inet_6, other, link_table}
use Rattle.link_lines_values.proofs.BytesDetermined.{bytes_determined as bytes_are_determined}
use Rattle.link_lines_raw.specs.Attributes.{plain_bytes}
use Rattle.link_lines_raw.specs.Lines.{IsShallow}
use Rattle.link_lines_texts.specs.Format.{Inside.Peer as PeerInside, Inside.Nested, Inside.Plain, is_canonical_peer}
use Rattle.link_lines_texts.specs.declared.format.Scope.{Scope}
use Rattle.link_lines_texts.specs.Coverage.{holds_shown}
use Rattle.link_lines_texts.specs.Frames.{in_message}
use Rattle.link_lines_texts.specs.Lists.{in_peer, inside_text}
use Rattle.link_lines_texts.proofs.RowsComputed.{determined}
use Rattle.link_tables.specs.declared.table.Table.{Table}
use Rattle.link_tables.specs.declared.table.TheConstants.{LINK_BRIDGE, LINK_INET6, LINK_OTHER, LINK_UNSPEC}
use Rattle.link_lines_texts.specs.Determination.{IsCanonical, ListsAreDetermined}
use Rattle.link_lines_texts.proofs.LinkBodiesDetermined.{FamiliesDetermined, IsCanonicalLink, link_part, link_determined, canonical_link}
use Rattle.link_lines_texts.proofs.ListsDetermined.{InsideDetermined, NestedDetermined, below}
use Rattle.link_lines_texts.proofs.TablesDetermined.{payload_determined, settled}

-- What is shown of a peer that is shorter than a bound determines it.
abbrev PeersDetermined : ℕ → RuleOfPeers → Scope → Type 0
PeersDetermined bound peer scope = InsideDetermined bound scope (peer_rule peer) (settled scope PeerInside)

-- The attributes of an address family, under its table of names.
family_determined : (bound : ℕ) (peer : RuleOfPeers) (scope : Scope) → PeersDetermined bound peer scope → (f : Family) (m : Table) → holds_shown (Payload.list any (link_table f)) (Some (Nested m)) ≡ true → NestedDetermined bound (attributes_rule peer f) (record { table = m; scope = scope })
unfolding attributes_rule
family_determined bound peer scope peers f m h level p q s t short o u sx sy same = payload_determined bound peer scope peers (Payload.list any (link_table f)) (Nested m) h level p q s t short o u sx sy refl same

by_family : (bound : ℕ) (peer : RuleOfPeers) (scope : Scope) → PeersDetermined bound peer scope → (a b c : Bool) → NestedDetermined bound (attributes_rule peer (cond a unspec (cond b bridge (cond c inet_6 other)))) (record { table = cond a LINK_UNSPEC (cond b LINK_BRIDGE (cond c LINK_INET6 LINK_OTHER)); scope = scope })
by_family bound peer scope peers true b c = family_determined bound peer scope peers unspec LINK_UNSPEC determined.unspec_determined
by_family bound peer scope peers false true c = family_determined bound peer scope peers bridge LINK_BRIDGE determined.bridge_determined
by_family bound peer scope peers false false true = family_determined bound peer scope peers inet_6 LINK_INET6 determined.inet6_determined
by_family bound peer scope peers false false false = family_determined bound peer scope peers other LINK_OTHER determined.other_determined

families_determined : (bound : ℕ) (peer : RuleOfPeers) (scope : Scope) → PeersDetermined bound peer scope → FamiliesDetermined bound peer scope
families_determined bound peer scope peers level n p q s t = by_family bound peer scope peers (n == 0) (n == 7) (n == 10) level p q s t

-- ---- canonical peers

canonical_peer : (p : List ℕ) → IsCanonical (peer_rule link_peer) p → IsCanonicalLink bytes_peer p
unfolding link_peer
canonical_peer p o =
    let r = body_rule bytes_peer in
    let fits = and_parts (r.accepted p && not (r.empty_ports p)) (r.fits p) o.accepted in
    canonical_link bytes_peer p o.bytes (and_parts (r.accepted p) (not (r.empty_ports p)) fits.0).0 o.canonical

pub found_canonical : (p : List ℕ) → AreBytes p → is_canonical_peer p ≡ true → IsCanonicalLink bytes_peer p
unfolding is_canonical_peer
found_canonical p a h =
    let parts = and_parts (link_peer.accepted p) (bytes_eq (link_peer.canonical p) p) h in
    canonical_peer p (record { bytes = a; accepted = parts.0; canonical = (bytes_eq-Decides (link_peer.canonical p) p).0 parts.1 })

-- The attributes of a body below a bound are still shorter.
shorter : (bound : ℕ) (p : List ℕ) → 16 ≤ length p → length p < suc bound → length (drop 16 p) < bound
shorter bound p h l = omega (arith, h, l, length-drop 16 p)

peer_lines : (scope : Scope) (level : ℕ) (p : List ℕ) → 16 ≤ length p → below level scope PeerInside p ≡ link_part level (in_peer scope) p
peer_lines scope level p h = rw (le-leb 16 (length p) h)

-- Canonical peers are determined if the lists in them are.
canonical_determined : (bound : ℕ) (scope : Scope) → FamiliesDetermined bound bytes_peer (in_peer scope) → (level : ℕ) (p q s t : List ℕ) → length p < suc bound → AreBytes p → AreBytes q → IsCanonicalLink bytes_peer p → IsCanonicalLink bytes_peer q → IsShallow level s → IsShallow level t →
    below level scope PeerInside p ++ s ≡ below level scope PeerInside q ++ t → (p ≡ q) × (s ≡ t)
canonical_determined bound scope lists level p q s t short a b h k i j under =
    link_determined bound bytes_peer (in_peer scope) lists level p q s t (shorter bound p h.size short) a b h k i j
    (sym (ap (λ z. z ++ s) (peer_lines scope level p h.size)) ∙ under ∙ ap (λ z. z ++ t) (peer_lines scope level q k.size))

-- ---- peers inside peers

-- No text is on the line of a peer that is shown as one.
no_text : (level : ℕ) (p : List ℕ) → 16 ≤ length p → inside_text level PeerInside p ≡ []
no_text level p h = rw (le-leb 16 (length p) h)

-- A peer that is shown as one isn't shown like bytes.
peer_differs : (level : ℕ) (p q : List ℕ) → 16 ≤ length p → inside_text level PeerInside p ≡ plain_bytes q → ⊥
peer_differs level p q h same = absurd (let none : [] ≡ plain_bytes q = sym (no_text level p h) ∙ same in cc)

-- Two peers inside a peer, each shown as a peer or as bytes.
inner_by : (bound : ℕ) (scope : Scope) → FamiliesDetermined bound bytes_peer (in_peer scope) → (level : ℕ) (p q s t : List ℕ) (x y : Bool) → is_canonical_peer p ≡ x → is_canonical_peer q ≡ y → length p < suc bound → AreBytes p → AreBytes q → IsShallow level s → IsShallow level t →
    inside_text level (cond x PeerInside Plain) p ≡ inside_text level (cond y PeerInside Plain) q → below level scope (cond x PeerInside Plain) p ++ s ≡ below level scope (cond y PeerInside Plain) q ++ t → (p ≡ q) × (s ≡ t)
inner_by bound scope lists level p q s t false false h k short a b i j same under = (bytes_are_determined.bytes p q a b (ap (drop 6) same), under)
inner_by bound scope lists level p q s t true false h k short a b i j same under = absurd (peer_differs level p q (found_canonical p a h).size same)
inner_by bound scope lists level p q s t false true h k short a b i j same under = absurd (peer_differs level q p (found_canonical q b k).size (sym same))
inner_by bound scope lists level p q s t true true h k short a b i j same under = canonical_determined bound scope lists level p q s t short a b (found_canonical p a h) (found_canonical q b k) i j under

-- Peers are determined inside a peer, by induction on the bound: their lists are shorter than they are.
inner_peers : (is_request : Bool) (bound : ℕ) → PeersDetermined bound bytes_peer (in_peer (in_message is_request))
inner_peers is_request zero level p q s t short o u i j same under = absurd (omega (arith, short))
inner_peers is_request (suc bound) level p q s t short o u i j same under =
    let scope = in_peer (in_message is_request) in
    inner_by bound scope (families_determined bound bytes_peer scope (inner_peers is_request bound)) level p q s t (is_canonical_peer p) (is_canonical_peer q) refl refl short o.bytes u.bytes i j same under

-- The lists of all families are determined inside a peer.
pub peer_lists_are_determined : (is_request : Bool) (bound : ℕ) → FamiliesDetermined bound bytes_peer (in_peer (in_message is_request))
peer_lists_are_determined is_request bound = families_determined bound bytes_peer (in_peer (in_message is_request)) (inner_peers is_request bound)

-- ---- peers in messages

peers_determined : (is_request : Bool) (bound : ℕ) → PeersDetermined bound link_peer (in_message is_request)
peers_determined is_request bound level p q s t short o u i j same under =
    canonical_determined bound (in_message is_request) (peer_lists_are_determined is_request bound) level p q s t (omega (arith, short)) o.bytes u.bytes (canonical_peer p o) (canonical_peer q u) i j under

pub link_lists_are_determined : (is_request : Bool) (bound : ℕ) → FamiliesDetermined bound link_peer (in_message is_request)
link_lists_are_determined is_request bound = families_determined bound link_peer (in_message is_request) (peers_determined is_request bound)

pub lists_are_determined : ListsAreDetermined
lists_are_determined is_request level n p q s t = link_lists_are_determined is_request (suc (length p)) level n p q s t (omega arith)
