-- The laws of the definitions, which the functions of `laws` have as contracts.
use Rattle.std.specs.Prelude.{◌≡◌, ℕ, ◌+◌, ◌*◌, ◌≤◌, ◌<◌, ◌==◌, ◌&&◌, ◌++◌, nat_le, true, false, List, length, take}
use Rattle.std.specs.Prelude.{bytes_eq, Option, Some, None, option_map}
use Rattle.attribute_tables_grammar.specs.Rules.{Lawful, IsMigratedBy}
use Rattle.std.specs.List.{list_any}
use Rattle.attribute_tables_grammar.specs.Lists.{any, without_context}
use Rattle.attribute_tables_grammar.specs.Readings.{AttributeReading, reading_as}
use Rattle.attribute_tables_grammar.specs.LookUps.{line_at, rows_rule}
use Rattle.attribute_tables_grammar.specs.Peers.{RuleOfPeers, LawfulPeer, bytes_peer}
use Rattle.attribute_tables_grammar.specs.Tables.{Payload.list, rule, rising}
use Rattle.attribute_tables_grammar.specs.Walks.{Measure, measure}
use Rattle.attribute_tables_grammar.specs.Laws.{CanonicalDecidesMeaning, KeepsMeaning}
use Rattle.link_info_grammar.specs.LinkInfo.{info_rule}
use Rattle.link_message_grammar.specs.LinkMessage.{Family, link_line, link_table}
use Rattle.link_message_grammar.specs.Body.{attribute_bytes, attribute_row, with_body_header, body_rule, family}
use Rattle.link_message_grammar.specs.Body.{header_text, info_payload_rule, is_emptied, link_peer}
use Rattle.link_message_grammar.specs.Body.{link_peer_of, attributes_rule}

-- Lists of link attributes are lawful, under each address family.
abbrev pub AttributesAreLawful : Type 0
AttributesAreLawful = (p : RuleOfPeers) → LawfulPeer p → (f : Family) → Lawful (rule p (list any (link_table f)))

-- The kinds in each table are in ascending order, so that none occurs twice, and no name in link info occurs twice.
abbrev pub KindsRise : Type 0
KindsRise = (f : Family) → rising (list any (link_table f)) ≡ true

-- Link bodies are lawful.
abbrev pub BodiesAreLawful : Type 0
BodiesAreLawful = (p : RuleOfPeers) → LawfulPeer p → Lawful (body_rule p)

-- The canonical text of a body is at most 77 times as long.
abbrev pub BodiesAreSmall : Type 0
BodiesAreSmall = (p : RuleOfPeers) → LawfulPeer p → (b : List ℕ) → (body_rule p).accepted b ≡ true →
    length ((body_rule p).canonical b) ≤ 77 * length b

-- The canonical form of a body is at most as long as a header of 16 bytes and 77 times its attributes.
abbrev pub BodiesGrowByAttributes : Type 0
BodiesGrowByAttributes = (p : RuleOfPeers) → LawfulPeer p → (b : List ℕ) → (body_rule p).accepted b ≡ true →
    length ((body_rule p).canonical b) ≤ 16 + 77 * length (attribute_bytes b)

-- A body fits if its canonical form is at most a header of 16 bytes and 65535 bytes: no attribute in it is longer.
abbrev pub ShortBodiesFit : Type 0
ShortBodiesFit = (p : RuleOfPeers) (b : List ℕ) → (body_rule p).accepted b ≡ true →
    length ((body_rule p).canonical b) ≤ 65551 → (body_rule p).fits b ≡ true

-- A peer that is a link body is lawful, under every lawful rule of the peers inside it.
abbrev pub PeersThatAreBodiesAreLawful : Type 0
PeersThatAreBodiesAreLawful = (p : RuleOfPeers) → LawfulPeer p → LawfulPeer (link_peer_of (body_rule p))

-- The rule of peers in force is lawful; the peers inside its peers are bytes.
abbrev pub LinkPeerIsLawful : Type 0
LinkPeerIsLawful = LawfulPeer link_peer

-- Two accepted bodies mean the same if and only if their canonical texts are equal.
abbrev pub CanonicalBodiesDetermineMeanings : Type 0
CanonicalBodiesDetermineMeanings = (p : RuleOfPeers) → LawfulPeer p → CanonicalDecidesMeaning (body_rule p)

-- The canonical form of an accepted body means the same as the body, unless a list of VF ports in it keeps no entry.
abbrev pub BodiesKeepMeanings : Type 0
BodiesKeepMeanings = (p : RuleOfPeers) → LawfulPeer p → KeepsMeaning (body_rule p)

-- If a body is accepted both with peers as bytes and under a rule p of peers, its canonical form with peers as bytes has the
-- same canonical form under p as the body, and is accepted under p unless a list of VF ports in it keeps no entry.
abbrev pub OldBodiesAreMigrated : Type 0
OldBodiesAreMigrated = (p : RuleOfPeers) → IsMigratedBy (body_rule bytes_peer) (body_rule p)

-- A body consists of a header and the attributes of its family.
pub record BodyParts (p : RuleOfPeers) (b : List ℕ) : Type 0 where
  pub accepted : (body_rule p).accepted b ≡ nat_le 16 (length b) &&
      (attributes_rule p (family b)).accepted (attribute_bytes b)
  pub canonical : (body_rule p).canonical b ≡ header_text b ++ (attributes_rule p (family b)).canonical (attribute_bytes b)
  pub attributes : (body_rule p).attributes b ≡ (attributes_rule p (family b)).attributes (attribute_bytes b)
  pub fits : (body_rule p).fits b ≡ (attributes_rule p (family b)).fits (attribute_bytes b)
  pub empty_ports : (body_rule p).empty_ports b ≡ (attributes_rule p (family b)).empty_ports (attribute_bytes b)
  pub same : (c : List ℕ) →
      (body_rule p).same b c ≡ bytes_eq (header_text b) (header_text c) &&
      (attributes_rule p (family b)).same (attribute_bytes b) (attribute_bytes c)

-- Every body consists of a header and the attributes of its family.
abbrev pub BodiesAreHeadersAndAttributes : RuleOfPeers → Type 0
BodiesAreHeadersAndAttributes p = (b : List ℕ) → BodyParts p b

-- The attributes that are read from a body.
abbrev pub reading_of : RuleOfPeers → List ℕ → Option (List AttributeReading)
reading_of p b = reading_as any (without_context (attribute_row p (family b))) (attribute_bytes b)

-- The canonical text of a body has its header, and the same attributes are read from it.
pub record IsReadBack (p : RuleOfPeers) (b : List ℕ) : Type 0 where
  pub header : header_text ((body_rule p).canonical b) ≡ header_text b
  pub family : family ((body_rule p).canonical b) ≡ family b
  pub attributes : reading_of p ((body_rule p).canonical b) ≡ reading_of p b

-- An accepted body that fits, and in which no list of ports is empty, is read from its canonical text as from its own
-- bytes.
abbrev pub CanonicalBodiesAreReadBack : RuleOfPeers → Type 0
CanonicalBodiesAreReadBack p = (b : List ℕ) → (body_rule p).accepted b ≡ true → (body_rule p).fits b ≡ true →
    (body_rule p).empty_ports b ≡ false → IsReadBack p b

-- A look-up of a kind returns its row in the table.
abbrev pub KindsAreLookedUp : Type 0
KindsAreLookedUp = (f : Family) (k : ℕ) → line_at (link_table f) k ≡ link_line f k

-- The rule of the attributes of a family is that of the rows that look-ups of each kind find.
abbrev pub AttributesAreLookedUp : RuleOfPeers → Type 0
AttributesAreLookedUp p = (f : Family) → attributes_rule p f ≡ rows_rule any (attribute_row p f)

-- Only link info holds peers: the other rows are the same under every rule of peers.
abbrev pub OnlyLinkInfoHoldsPeers : Type 0
OnlyLinkInfoHoldsPeers = (p q : RuleOfPeers) (f : Family) (k : ℕ) → (k == 18) ≡ false →
    attribute_row p f k ≡ attribute_row q f k

-- A list of VF ports keeps no entry if and only if an IFLA_VF_PORTS without an entry is read.
abbrev pub EmptyPortsAreDetermined : RuleOfPeers → Type 0
EmptyPortsAreDetermined p = (f : Family) (b : List ℕ) (ws : List AttributeReading) →
    reading_as any (without_context (attribute_row p f)) b ≡ Some ws →
    (attributes_rule p f).empty_ports b ≡ list_any (λ w. is_emptied w.entry) ws

-- For b, the rule of the payload of IFLA_LINKINFO and that of a list of link info agree on these four functions.
pub record InfoRulesAgree (p : RuleOfPeers) (b : List ℕ) : Type 0 where
  pub accepted : (info_payload_rule p).accepted b ≡ (info_rule p).accepted b
  pub canonical : (info_payload_rule p).canonical b ≡ (info_rule p).canonical b
  pub attributes : (info_payload_rule p).attributes b ≡ (info_rule p).attributes b
  pub fits : (info_payload_rule p).fits b ≡ (info_rule p).fits b

-- A payload of IFLA_LINKINFO that isn't empty is a list of link info; an empty one is rejected.
pub record InfoPayloadsAreLists (p : RuleOfPeers) : Type 0 where
  pub of_some_bytes : (b : List ℕ) → 0 < length b → InfoRulesAgree p b
  pub of_no_bytes : (b : List ℕ) → length b ≡ 0 → (info_payload_rule p).accepted b ≡ false
  pub same : (a b : List ℕ) → 0 < length a → 0 < length b →
      (info_rule p).same a b ≡ (info_payload_rule p).same a b

-- The measure of a body is that of its attributes after a header of 16 bytes, under every rule of peers; the body is
-- canonical if its header and its attributes are.
pub record BodiesAreMeasured : Type 0 where
  pub short : (p : RuleOfPeers) (b : List ℕ) → length b < 16 → None ≡ measure (body_rule p) b
  pub long : (p : RuleOfPeers) (b : List ℕ) (o : Option Measure) → 16 ≤ length b →
      o ≡ measure (attributes_rule p (family b)) (attribute_bytes b) → option_map with_body_header o ≡ measure (body_rule p) b
  pub canonical_if_parts_are : (p : RuleOfPeers) (b : List ℕ) → header_text b ≡ take 16 b →
      (attributes_rule p (family b)).canonical (attribute_bytes b) ≡ attribute_bytes b → (body_rule p).canonical b ≡ b

-- The laws that functions state under the rule of peers in force, under any rule of peers.
pub record BodyLaws (p : RuleOfPeers) : Type 0 where
  pub headers_and_attributes : BodiesAreHeadersAndAttributes p
  pub is_read_back : CanonicalBodiesAreReadBack p
  pub looked_up : AttributesAreLookedUp p
  pub empty_ports : EmptyPortsAreDetermined p
  pub info_inside : InfoPayloadsAreLists p

-- The laws of bodies hold under every lawful rule of peers.
abbrev pub BodyLawsHoldForAnyPeers : Type 0
BodyLawsHoldForAnyPeers = (p : RuleOfPeers) → LawfulPeer p → BodyLaws p
