-- The canonical text of a link's body has no encoding quirk, so neither has a peer's.
use Rattle.std.proofs.Common.{◌≡◌, ℕ, ◌+◌, Bool, true, false, cond, eqb, leb, not, List, [], ◌∷◌, ◌++◌, length, drop, Some, None, refl, ap, ◌∙◌}
use Rattle.std.specs.Prelude.{◌&&◌, nat_le, slice_index}
use Rattle.std.proofs.Math.Bool.{and-false}
use Rattle.std.proofs.lemmas.Bool.{and_parts}
use Rattle.attribute_tables_grammar.specs.Peers.{RuleOfPeers, bytes_peer}
use Rattle.link_message_grammar.specs.Body.{header_text, attribute_bytes, family, attributes_rule, body_rule, link_peer, link_body}
use Rattle.link_message_grammar.specs.LinkMessage.{family_of, unspec, bridge, inet_6, other}
use Rattle.link_message_grammar.proofs.Body.{written_header}
use Rattle.link_capture_quirks.specs.declared.quirk_at.Quirk.TheVariants.{HeaderByte}
use Rattle.link_tables.specs.declared.table.TheConstants.{LINK_UNSPEC, LINK_BRIDGE, LINK_INET6, LINK_OTHER}
use Rattle.link_capture_quirks.specs.QuirkRows.{quirk_if, header_quirk}
use Rattle.link_capture_walks.specs.Listings.{whole}
use Rattle.link_capture_quirks.specs.QuirkTables.{family_table, link_attributes}
use Rattle.link_capture_quirks.specs.QuirkLists.{quirks_at, list_quirks}
use Rattle.link_capture_quirks.specs.QuirkLaws.{ListsUnfoldByAttributes, link_list, WrittenAttributesHaveNone}
use Rattle.link_capture_quirks.specs.CaptureQuirks.{body_list, link_quirks}
use Rattle.link_capture_quirks.proofs.Lists.{NoneInside}
use Rattle.link_capture_quirks.proofs.KindData.{PeerHasNone}
use Rattle.link_capture_quirks.proofs.Links.{attributes-none}

-- the list kind of a family is determined by the first byte
family-list : (n : ℕ) → family_table n ≡ link_list (family_of n)
family-list n = by (eqb n 0) (eqb n 7) (eqb n 10)
  where
    by : (a b c : Bool) → link_attributes (cond a LINK_UNSPEC (cond b LINK_BRIDGE (cond c LINK_INET6 LINK_OTHER))) ≡ link_list (cond a unspec (cond b bridge (cond c inet_6 other)))
    by true b c = refl
    by false true c = refl
    by false false true = refl
    by false false false = refl

first-byte : (b more : List ℕ) → nat_le 16 (length b) ≡ true → slice_index (header_text b ++ more) 0 ≡ slice_index b 0
first-byte (f ∷ x ∷ k ∷ l ∷ tail) more h = refl
first-byte b more h = absurd cc

second-byte : (b more : List ℕ) → nat_le 16 (length b) ≡ true → slice_index (header_text b ++ more) 1 ≡ 0
second-byte (f ∷ x ∷ k ∷ l ∷ tail) more h = refl
second-byte b more h = absurd cc

header-none : (t : ℕ) (b more : List ℕ) → nat_le 16 (length b) ≡ true → (offset : ℕ) → quirks_at offset (header_quirk t (header_text b ++ more)) ≡ []
header-none t b more h offset =
    ap (λ n. quirks_at offset (quirk_if (eqb t 18 && not (eqb n 0)) HeaderByte)) (second-byte b more h)
    ∙ ap (λ x. quirks_at offset (quirk_if x HeaderByte)) (and-false (eqb t 18))

module _ (s : ListsUnfoldByAttributes) (w : WrittenAttributesHaveNone) (p : RuleOfPeers) (j : Bool) (peers : PeerHasNone p j) where
  -- the attributes of the text of a body
  pub list-none : (b : List ℕ) → (body_rule p).accepted b ≡ true → (offset : ℕ) →
      list_quirks (whole (family_table (slice_index ((body_rule p).canonical b) 0)) j) offset (drop 16 ((body_rule p).canonical b)) ≡ []
  unfolding body_rule
  list-none b a offset =
      let h = and_parts (nat_le 16 (length b)) ((attributes_rule p (family b)).accepted (attribute_bytes b)) a in
      let text = (attributes_rule p (family b)).canonical (attribute_bytes b) in
      let rest : List ℕ = drop 16 (header_text b ++ text) in
      ap (λ n. list_quirks (whole (family_table n) j) offset rest) (first-byte b text h.0)
      ∙ ap (λ t. list_quirks (whole t j) offset rest) (family-list (slice_index b 0))
      ∙ ap (list_quirks (whole (link_list (family b)) j) offset) ((written_header b h.0).rest text)
      ∙ attributes-none s w p j peers (family b) offset (attribute_bytes b) h.1

-- ---- peers that are bytes, and peers that are link bodies

bytes-none : PeerHasNone bytes_peer false
bytes-none b a offset = refl

module _ (s : ListsUnfoldByAttributes) (w : WrittenAttributesHaveNone) where
  links-none : PeerHasNone link_peer true
  unfolding link_peer
  links-none b a = go (leb 16 (length ((body_rule bytes_peer).canonical b)) && true)
    where
      go : (x : Bool) → NoneInside (cond x (Some (whole (family_table (slice_index ((body_rule bytes_peer).canonical b) 0)) false, 16)) None) ((body_rule bytes_peer).canonical b)
      go true offset =
          let h = and_parts ((body_rule bytes_peer).accepted b && not ((body_rule bytes_peer).empty_ports b)) ((body_rule bytes_peer).fits b) a in
          let g = and_parts ((body_rule bytes_peer).accepted b) (not ((body_rule bytes_peer).empty_ports b)) h.0 in
          list-none s w bytes_peer false bytes-none b g.0 (offset + 16)
      go false offset = refl

  -- the body of a link's message
  pub body-none : (offset t : ℕ) (b : List ℕ) → link_body.accepted b ≡ true → link_quirks offset t (link_body.canonical b) ≡ []
  unfolding link_quirks body_rule
  body-none offset t b a =
      let h = and_parts (nat_le 16 (length b)) ((attributes_rule link_peer (family b)).accepted (attribute_bytes b)) a in
      let text = link_body.canonical b in
      ap (λ z. z ++ list_quirks (body_list text) (offset + 16) (drop 16 text)) (header-none t b ((attributes_rule link_peer (family b)).canonical (attribute_bytes b)) h.0 (offset + 1))
      ∙ list-none s w link_peer true links-none b a (offset + 16)
