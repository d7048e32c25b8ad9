-- Attributes that no table lists, at any depth of a list, including those inside peers that are judged.
use Rattle.std.specs.Prelude.{◌≡◌, ℕ, zero, suc, List, ◌∷◌, ◌++◌, Some, ◌⊎◌}
use Rattle.netlink_packet_core_grammar.specs.Attributes.{Attribute}
use Rattle.attribute_tables_grammar.specs.Lists.{no_kind_in_force, Row, raw_row, Grammar, LawfulGrammar, row_of, context_after}
use Rattle.attribute_tables_grammar.specs.Lists.{ListForm, any, read_as, kept, list_rule, without_context}
use Rattle.attribute_tables_grammar.specs.Peers.{RuleOfPeers, LawfulPeer, peer_rule}
use Rattle.link_message_grammar.specs.Body.{attribute_bytes, attribute_row, family, link_peer_of, body_rule}
use Rattle.link_message_grammar.specs.LinkMessage.{Family}

-- The list with these bytes keeps the attribute e, after the attributes `before` and before the attributes `after`.
pub record Keeps (form : ListForm) (bytes : List ℕ) (e : Attribute) : Type 0 where
  pub read : List Attribute
  pub is_read : read_as form bytes ≡ Some read
  pub before : List Attribute
  pub after : List Attribute
  pub is_kept : kept form read ≡ before ++ e ∷ after

-- The row of an attribute that a list keeps, in the context that the attributes before it determine.
abbrev pub row_there : {form : ListForm} {bytes : List ℕ} {e : Attribute} → Grammar → Keeps form bytes e → Row
row_there {e = e} g k = row_of g (context_after g no_kind_in_force k.before) e

-- The list has an attribute e that no table lists, and keeps it. With a depth over 0, e is in a list that is `depth`
-- levels further inside: in the payload of an attribute, or after the header of a peer that is judged as a link's body.
abbrev pub HoldsUnlisted : ℕ → ListForm → Grammar → List ℕ → Attribute → Type 0
HoldsUnlisted zero form g bytes e = (k : Keeps form bytes e) × (row_there g k ≡ raw_row)
HoldsUnlisted (suc depth) form g bytes e =
    (outer : Attribute) × (k : Keeps form bytes outer)
    × (((inner : ListForm) × (h : Grammar) × LawfulGrammar h × ((row_there g k).rule ≡ list_rule inner h) ×
    HoldsUnlisted depth inner h outer.payload e)
    ⊎ ((p : RuleOfPeers) × LawfulPeer p × ((row_there g k).rule ≡ peer_rule (link_peer_of (body_rule p)))
    × HoldsUnlisted depth any (without_context (attribute_row p (family outer.payload)))
    (attribute_bytes outer.payload) e))

-- Under these rows of each family, the text of a link's body has all attributes that no table lists and that the body
-- has.
abbrev pub KeepsUnlisted : (Family → ℕ → Row) → List ℕ → List ℕ → Type 0
KeepsUnlisted row b text = (depth : ℕ) (e : Attribute) →
    HoldsUnlisted depth any (without_context (row (family b))) (attribute_bytes b) e →
    HoldsUnlisted depth any (without_context (row (family b))) (attribute_bytes text) e
