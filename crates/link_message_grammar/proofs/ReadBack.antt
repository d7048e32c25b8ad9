-- The canonical text of a body is read as the body is, under every lawful rule of peers.
use Rattle.std.proofs.Common.{◌≡◌, ℕ, true, false, List, ◌++◌, length, sym, ap, subst, ◌∙◌}
use Rattle.std.specs.Prelude.{nat_le}
use Rattle.std.proofs.lemmas.Bool.{and_parts}
use Rattle.attribute_tables_grammar.specs.Rules.{Rule}
use Rattle.attribute_tables_grammar.specs.Lists.{LawfulGrammar, any, without_context}
use Rattle.attribute_tables_grammar.specs.LookUps.{rows_rule}
use Rattle.attribute_tables_grammar.specs.Peers.{RuleOfPeers, LawfulPeer}
use Rattle.attribute_tables_grammar.specs.Readings.{reading_as}
use Rattle.attribute_tables_grammar.proofs.ReadBack.{lists_are_read_back}
use Rattle.attribute_tables_grammar.proofs.Tables.{table_lawful}
use Rattle.link_message_grammar.specs.Body.{attribute_bytes, attribute_row, body_rule, family, header_text, attributes_rule}
use Rattle.link_message_grammar.specs.Laws.{CanonicalBodiesAreReadBack}
use Rattle.link_message_grammar.specs.LinkMessage.{Family, link_table}
use Rattle.link_message_grammar.proofs.Body.{WrittenHeader, written_header, family_read_back}
use Rattle.link_message_grammar.proofs.Lines.{attributes-grammar}
use Rattle.link_message_grammar.proofs.Parts.{attributes_are_looked_up, bodies_are_headers_and_attributes}
use Rattle.link_message_grammar.proofs.Tables.{table_bounded}

module _ (p : RuleOfPeers) (lawful_peer : LawfulPeer p) where
  rows_lawful : (f : Family) → LawfulGrammar (without_context (attribute_row p f))
  rows_lawful f = subst LawfulGrammar (attributes-grammar p f) (table_lawful p lawful_peer (link_table f) (table_bounded f))

  attributes_read_back : (f : Family) (r : Rule) → r ≡ rows_rule any (attribute_row p f) → (b : List ℕ) → r.accepted b ≡ true → r.empty_ports b ≡ false → r.fits b ≡ true → reading_as any (without_context (attribute_row p f)) (r.canonical b) ≡ reading_as any (without_context (attribute_row p f)) b
  unfolding rows_rule
  attributes_read_back f r h b a m s =
      ap (λ (q : Rule). reading_as any (without_context (attribute_row p f)) (q.canonical b)) h
      ∙ lists_are_read_back (without_context (attribute_row p f)) (rows_lawful f) b
      (sym (ap (λ (q : Rule). q.accepted b) h) ∙ a) (sym (ap (λ (q : Rule). q.empty_ports b) h) ∙ m) (sym (ap (λ (q : Rule). q.fits b) h) ∙ s)

  pub canonical_texts_are_read_back : CanonicalBodiesAreReadBack p
  canonical_texts_are_read_back b a f m =
      let parts = bodies_are_headers_and_attributes p b in
      let r = attributes_rule p (family b) in
      let s = and_parts (nat_le 16 (length b)) (r.accepted (attribute_bytes b)) (sym parts.accepted ∙ a) in
      let w : WrittenHeader b = written_header b s.0 in
      let c = r.canonical (attribute_bytes b) in
      let t : (body_rule p).canonical b ≡ header_text b ++ c = parts.canonical in
      let same : family ((body_rule p).canonical b) ≡ family b = ap family t ∙ family_read_back b c w in
      let rest : attribute_bytes ((body_rule p).canonical b) ≡ c = ap attribute_bytes t ∙ w.rest c in
      record {
        header = ap header_text t ∙ w.idempotent c;
        family = same;
        attributes = ap (λ g. reading_as any (without_context (attribute_row p g)) (attribute_bytes ((body_rule p).canonical b))) same
            ∙ ap (λ x. reading_as any (without_context (attribute_row p (family b))) x) rest
            ∙ attributes_read_back (family b) r (attributes_are_looked_up p (family b)) (attribute_bytes b) s.1 (sym parts.empty_ports ∙ m) (sym parts.fits ∙ f);
      }
