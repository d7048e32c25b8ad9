-- Tables of rows, and the rules of their payloads.
use Rattle.std.specs.Prelude.{ℕ, ◌==◌, ◌&&◌, ◌||◌, not, nat_lt, Bool, true, false, cond, List, Option, Some, None}
use Rattle.std.specs.Prelude.{bytes_eq}
use Rattle.netlink_packet_core_grammar.specs.Attributes.{proper_kind}
use Rattle.netlink_packet_core_grammar.specs.Texts.{without_nul}
use Rattle.attribute_tables_grammar.specs.Shapes.{Shape, text, raw, never, shape_bounded}
use Rattle.attribute_tables_grammar.specs.Rules.{Rule, shape_rule}
use Rattle.attribute_tables_grammar.specs.Lists.{Context, Row, raw_row, Grammar, without_context, ListForm, list_rule}
use Rattle.attribute_tables_grammar.specs.Peers.{RuleOfPeers, peer_rule}

mutual
  -- The payload of a row.
  pub data Payload : Type 0 where
    plain : Shape → Payload
    peer : Payload
    list : ListForm → Table → Payload
    -- a list; the kind's name determines the data, the port kind's the port data
    link_info : ListForm → Names → Names → Payload

  -- The rows of kinds without flag bits; a kind without a row is a raw attribute.
  pub data Table : Type 0 where
    end : Table
    row : ℕ → Bool → Payload → Table → Table  -- a kind, and whether it is written with the nested bit

  -- Payloads by name; those of other names are raw bytes.
  pub data Names : Type 0 where
    others : Names
    name : List ℕ → Payload → Names → Names

-- ---- link info: a kind is in force up to the next one, a port kind up to the port data

-- A typed row without the nested bit.
abbrev pub typed : Rule → Row
typed r = record { is_typed = true; is_nested = false; rule = r }

-- The row that the name in force determines; if none is in force, nothing is accepted.
abbrev pub row_in_force : Option (List ℕ) → (List ℕ → Rule) → Row
row_in_force None f = typed (shape_rule never)
row_in_force (Some n) f = typed (f n)

-- The row of a kind of IFLA_INFO_* (if_link.h), from the rules of data and of port data by name.
abbrev pub info_row : (List ℕ → Rule) → (List ℕ → Rule) → Context → ℕ → Row
info_row data' port_data c k =
    cond (k == 1) (typed (shape_rule text))  -- IFLA_INFO_KIND
    (cond (k == 4) (typed (shape_rule text))  -- IFLA_INFO_SLAVE_KIND
    (cond (k == 5) (row_in_force c.port_kind port_data)  -- IFLA_INFO_SLAVE_DATA
    (cond (k == 2) (row_in_force c.kind data')  -- IFLA_INFO_DATA
    (cond (k == 3) (row_in_force c.kind (λ n. shape_rule raw)) raw_row))))  -- IFLA_INFO_XSTATS

-- The context after an attribute of this kind and payload.
abbrev pub info_next : Context → ℕ → List ℕ → Context
info_next c k p =
    cond (k == 1) (record { kind = Some (without_nul p); port_kind = c.port_kind })  -- IFLA_INFO_KIND
    (cond (k == 4) (record { kind = c.kind; port_kind = Some (without_nul p) })  -- IFLA_INFO_SLAVE_KIND
    (cond (k == 5) (record { kind = c.kind; port_kind = None }) c))  -- IFLA_INFO_SLAVE_DATA

-- The rows of link info, from the rules of data and of port data by name.
abbrev pub names_grammar : (List ℕ → Rule) → (List ℕ → Rule) → Grammar
names_grammar data' port_data =
    record { row = info_row data' port_data; next = λ c e. info_next c (proper_kind e.kind) e.payload }

-- ---- the rules

abbrev mutual
  -- The rule of a payload.
  pub rule : RuleOfPeers → Payload → Rule
  rule p (plain s) = shape_rule s
  rule p peer = peer_rule p
  rule p (list form t) = list_rule form (without_context (row_in p t))
  rule p (link_info form data' port_data) = list_rule form (names_grammar (rule_of_name p data') (rule_of_name p port_data))

  -- The row of a kind in a table.
  pub row_in : RuleOfPeers → Table → ℕ → Row
  row_in p end k = raw_row
  row_in p (row l n s t) k =
      elim (k == l) [ true ↦ record { is_typed = true; is_nested = n; rule = rule p s } | false ↦ row_in p t k ]

  -- The rule of the payload of a name.
  pub rule_of_name : RuleOfPeers → Names → List ℕ → Rule
  rule_of_name p others n = shape_rule raw
  rule_of_name p (name m s ns) n = elim (bytes_eq n m) [ true ↦ rule p s | false ↦ rule_of_name p ns n ]

-- The rows of a table.
abbrev pub grammar : RuleOfPeers → Table → Grammar
grammar p t = without_context (row_in p t)

-- ---- checks of whole tables: they are bounded, that is, no attribute's canonical form is more than 77 times as long

abbrev mutual
  -- An attribute with this payload is bounded, and so is each one inside.
  pub payload_bounded : Payload → Bool
  payload_bounded (plain s) = shape_bounded s
  payload_bounded peer = true
  payload_bounded (list form t) = rows_bounded t
  payload_bounded (link_info form data' port_data) = names_bounded data' && names_bounded port_data

  -- Each attribute of the table is bounded, and so is each one inside.
  pub rows_bounded : Table → Bool
  rows_bounded end = true
  rows_bounded (row k n s t) = payload_bounded s && rows_bounded t

  -- An attribute with the payload of a name is bounded, and so is each one inside.
  pub names_bounded : Names → Bool
  names_bounded others = true
  names_bounded (name m s ns) = payload_bounded s && names_bounded ns

-- ---- checks of whole tables: kinds ascend, and no name occurs twice

-- The kind is below the first one of a table.
abbrev pub is_below_first : ℕ → Table → Bool
is_below_first k end = true
is_below_first k (row l n s t) = nat_lt k l

-- The name isn't listed.
abbrev pub lacks_name : List ℕ → Names → Bool
lacks_name n others = true
lacks_name n (name m s ns) = not (bytes_eq n m) && lacks_name n ns

abbrev mutual
  -- Kinds ascend and names are distinct in the payload.
  pub rising : Payload → Bool
  rising (plain s) = true
  rising peer = true
  rising (list form t) = rising_rows t
  rising (link_info form data' port_data) = names_are_distinct data' && names_are_distinct port_data

  -- The kinds of the table ascend, and `rising` holds of its payloads.
  pub rising_rows : Table → Bool
  rising_rows end = true
  rising_rows (row k n s t) = is_below_first k t && rising s && rising_rows t

  -- The names are distinct, and `rising` holds of their payloads.
  pub names_are_distinct : Names → Bool
  names_are_distinct others = true
  names_are_distinct (name n s ns) = lacks_name n ns && rising s && names_are_distinct ns

-- ---- checks of whole tables: no payload inside is a peer's

abbrev mutual
  -- The payload is no peer's, and none is inside.
  pub holds_no_peers : Payload → Bool
  holds_no_peers (plain s) = true
  holds_no_peers peer = false
  holds_no_peers (list form t) = rows_hold_no_peers t
  holds_no_peers (link_info form data' port_data) = names_hold_no_peers data' && names_hold_no_peers port_data

  -- No payload of the table is a peer's, and none is inside.
  pub rows_hold_no_peers : Table → Bool
  rows_hold_no_peers end = true
  rows_hold_no_peers (row k n s t) = holds_no_peers s && rows_hold_no_peers t

  -- No payload of a name is a peer's, and none is inside.
  pub names_hold_no_peers : Names → Bool
  names_hold_no_peers others = true
  names_hold_no_peers (name m s ns) = holds_no_peers s && names_hold_no_peers ns

-- No payload of the table is a peer's, and none is inside, except in the row of kind k.
abbrev pub holds_no_peers_but : ℕ → Table → Bool
holds_no_peers_but k end = true
holds_no_peers_but k (row l n s t) = (l == k || holds_no_peers s) && holds_no_peers_but k t
