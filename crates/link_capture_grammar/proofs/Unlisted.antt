-- The text of a list has the attributes that no table lists and that the list has.
use Rattle.std.proofs.Common.{◌≡◌, inl, inr, ℕ, zero, suc, true, false, List, [], ◌∷◌, ◌++◌, length, Ok, refl, sym, ap, subst, ◌∙◌}
use Rattle.std.specs.Prelude.{◌&&◌, not, nat_le}
use Rattle.std.proofs.lemmas.Bool.{and_parts}
use Rattle.std.specs.Option.{option_map_or}
use Rattle.netlink_packet_core_grammar.specs.Attributes.{Attribute, proper_kind, list_text}
use Rattle.netlink_packet_core_grammar.specs.Frames.{frame_type, frame_body}
use Rattle.attribute_tables_grammar.specs.Lists.{Context, no_kind_in_force, Row, raw_row, Grammar, LawfulGrammar, row_of, context_after, all_accepted, canonical_form, canonical_forms, canonical_kind, without_context, ListForm, any, ports, read_as, kept, is_empty_ports, list_rule}
use Rattle.attribute_tables_grammar.specs.Peers.{RuleOfPeers, LawfulPeer}
use Rattle.attribute_tables_grammar.specs.Rules.{Rule}
use Rattle.attribute_tables_grammar.specs.Tables.{grammar}
use Rattle.attribute_tables_grammar.proofs.Attributes.{next_canonical, proper_kind-written}
use Rattle.attribute_tables_grammar.proofs.Lists.{read_canonical}
use Rattle.attribute_tables_grammar.proofs.Tables.{table_lawful}
use Rattle.link_message_grammar.specs.Body.{attribute_bytes, attribute_row, body_rule, family, link_peer, link_peer_of, attributes_rule, link_body}
use Rattle.link_message_grammar.specs.LinkMessage.{Family, link_table}
use Rattle.link_message_grammar.proofs.Body.{family_read_back, link_peer_lawful, written_header}
use Rattle.link_message_grammar.proofs.Lines.{attributes-grammar}
use Rattle.link_message_grammar.proofs.Tables.{table_bounded}
use Rattle.link_capture_grammar.specs.Bodies.{is_link_type}
use Rattle.link_capture_grammar.specs.Captures.{first_frame}
use Rattle.link_capture_grammar.specs.Laws.{IsLimit, UnlistedAttributesAreKept}
use Rattle.link_capture_grammar.specs.Unlisted.{Keeps, row_there, HoldsUnlisted, KeepsUnlisted}
use Rattle.link_capture_grammar.proofs.Keeping.{link}

-- what the rule of a list writes for an attribute between others
record Rewritten (g : Grammar) (c : Context) (before after : List Attribute) (x : Attribute) : Type 0 where
  pub accepted : (row_of g (context_after g c before) x).rule.accepted x.payload ≡ true
  pub is : canonical_forms g c (before ++ x ∷ after) ≡ canonical_forms g c before ++ canonical_form (row_of g (context_after g c before) x) x ∷ canonical_forms g (g.next (context_after g c before) x) after
  pub context : context_after g c (canonical_forms g c before) ≡ context_after g c before

module _ (g : Grammar) (lawful : LawfulGrammar g) where
  rewritten_there : (c : Context) (before after : List Attribute) (x : Attribute) → all_accepted g c (before ++ x ∷ after) ≡ true → Rewritten g c before after x
  unfolding all_accepted canonical_forms context_after
  rewritten_there c [] after x h = record { accepted = (and_parts ((row_of g c x).rule.accepted x.payload) _ h).0; is = refl; context = refl }
  rewritten_there c (e ∷ before) after x h =
      let s = and_parts ((row_of g c e).rule.accepted e.payload) _ h in
      let r = rewritten_there (g.next c e) before after x s.1 in
      record {
        accepted = r.accepted;
        is = ap (λ es. canonical_form (row_of g c e) e ∷ es) r.is;
        context = ap (λ d. context_after g d (canonical_forms g (g.next c e) before)) (next_canonical g lawful c e s.0) ∙ r.context;
      }

not_empty_ports : (form : ListForm) (before after : List Attribute) (x : Attribute) → is_empty_ports form (before ++ x ∷ after) ≡ false
not_empty_ports ports [] after x = refl
not_empty_ports ports (e ∷ before) after x = refl
not_empty_ports form before after x = refl

-- a kept attribute of a list is in the list's text, rewritten by its row
record RewrittenInText (form : ListForm) (g : Grammar) (bytes : List ℕ) (x : Attribute) (k : Keeps form bytes x) : Type 0 where
  pub accepted : (row_there g k).rule.accepted x.payload ≡ true
  pub keeps : Keeps form ((list_rule form g).canonical bytes) (canonical_form (row_there g k) x)
  pub row : row_there g keeps ≡ row_there g k

kept_attribute : (form : ListForm) (g : Grammar) (bytes : List ℕ) (x : Attribute) (k : Keeps form bytes x) → LawfulGrammar g → (list_rule form g).accepted bytes ≡ true → RewrittenInText form g bytes x k
kept_attribute form g bytes x k lawful a =
    let all : all_accepted g no_kind_in_force (kept form k.read) ≡ true = sym (ap (λ o. option_map_or (λ es. all_accepted g no_kind_in_force (kept form es)) o false) k.is_read) ∙ a in
    let r = rewritten_there g lawful no_kind_in_force k.before k.after x (subst (λ es. all_accepted g no_kind_in_force es ≡ true) k.is_kept all) in
    let text : (list_rule form g).canonical bytes ≡ list_text (canonical_forms g no_kind_in_force (kept form k.read)) = ap (λ o. option_map_or (λ es. list_text (canonical_forms g no_kind_in_force (kept form es))) o []) k.is_read in
    let s = read_canonical g form no_kind_in_force bytes k.read k.is_read (ap (is_empty_ports form) k.is_kept ∙ not_empty_ports form k.before k.after x) in
    record {
      accepted = r.accepted;
      keeps = record {
        read = canonical_forms g no_kind_in_force (kept form k.read);
        is_read = ap (read_as form) text ∙ s.0;
        before = canonical_forms g no_kind_in_force k.before;
        after = canonical_forms g (g.next (context_after g no_kind_in_force k.before) x) k.after;
        is_kept = s.1 ∙ ap (canonical_forms g no_kind_in_force) k.is_kept ∙ r.is;
      };
      row = ap (λ d. g.row d (proper_kind (canonical_kind (row_there g k) x.kind))) r.context ∙ ap (g.row (context_after g no_kind_in_force k.before)) (proper_kind-written (row_there g k) x.kind);
    }

-- what holds of the text of each list holds of each attribute that is `depth` lists further inside
abbrev IsKeptInText : ℕ → Attribute → Type 0
IsKeptInText depth e = (form : ListForm) (g : Grammar) (bytes : List ℕ) → LawfulGrammar g → (list_rule form g).accepted bytes ≡ true → HoldsUnlisted depth form g bytes e → HoldsUnlisted depth form g ((list_rule form g).canonical bytes) e

-- ---- lists that follow a header

module _ (p : RuleOfPeers) (lawful : LawfulPeer p) (depth : ℕ) (e : Attribute) (inner_kept : IsKeptInText depth e) where
  abbrev Holds : Family → List ℕ → Type 0
  Holds f b = HoldsUnlisted depth any (without_context (attribute_row p f)) b e

  attributes_kept : (f : Family) (b : List ℕ) → (attributes_rule p f).accepted b ≡ true → Holds f b → Holds f ((attributes_rule p f).canonical b)
  unfolding attributes_rule
  attributes_kept f b a =
      subst (λ g. HoldsUnlisted depth any g b e → HoldsUnlisted depth any g ((attributes_rule p f).canonical b) e) (attributes-grammar p f)
      (inner_kept any (grammar p (link_table f)) b (table_lawful p lawful (link_table f) (table_bounded f)) a)

  body_kept : (b text : List ℕ) → (body_rule p).accepted b ≡ true → text ≡ (body_rule p).canonical b → Holds (family b) (attribute_bytes b) → Holds (family b) (attribute_bytes text)
  unfolding body_rule
  body_kept b text a is w =
      let r = attributes_rule p (family b) in
      let s = and_parts (nat_le 16 (length b)) (r.accepted (attribute_bytes b)) a in
      let rest : attribute_bytes text ≡ r.canonical (attribute_bytes b) = ap attribute_bytes is ∙ (written_header b s.0).rest (r.canonical (attribute_bytes b)) in
      subst (Holds (family b)) (sym rest) (attributes_kept (family b) (attribute_bytes b) s.1 w)

  one_family : (b : List ℕ) → (body_rule p).accepted b ≡ true → family ((body_rule p).canonical b) ≡ family b
  unfolding body_rule
  one_family b a =
      let s = and_parts (nat_le 16 (length b)) ((attributes_rule p (family b)).accepted (attribute_bytes b)) a in
      family_read_back b ((attributes_rule p (family b)).canonical (attribute_bytes b)) (written_header b s.0)

  -- a peer, whose first byte determines its rows
  peer_kept : (b : List ℕ) → (link_peer_of (body_rule p)).accepted b ≡ true → Holds (family b) (attribute_bytes b) →
      Holds (family ((link_peer_of (body_rule p)).canonical b)) (attribute_bytes ((link_peer_of (body_rule p)).canonical b))
  peer_kept b a w =
      let both = and_parts ((body_rule p).accepted b && not ((body_rule p).empty_ports b)) ((body_rule p).fits b) a in
      let s = and_parts ((body_rule p).accepted b) (not ((body_rule p).empty_ports b)) both.0 in
      subst (λ f. Holds f (attribute_bytes ((body_rule p).canonical b))) (sym (one_family b s.0)) (body_kept b ((body_rule p).canonical b) s.0 refl w)

pub unlisted_kept : (depth : ℕ) (form : ListForm) (g : Grammar) (bytes : List ℕ) (e : Attribute) → LawfulGrammar g → (list_rule form g).accepted bytes ≡ true → HoldsUnlisted depth form g bytes e → HoldsUnlisted depth form g ((list_rule form g).canonical bytes) e
unlisted_kept zero form g bytes e lawful a w =
    let k = w.0 in
    let n = kept_attribute form g bytes e k lawful a in
    let is_unchanged : canonical_form (row_there g k) e ≡ e = ap (λ r. canonical_form r e) w.1 in
    subst (λ x. (m : Keeps form ((list_rule form g).canonical bytes) x) × (row_there g m ≡ raw_row)) is_unchanged (n.keeps, n.row ∙ w.1)
unlisted_kept (suc depth) form g bytes e lawful a w =
    let outer = w.0 in
    let k = w.1 in
    let n = kept_attribute form g bytes outer k lawful a in
    elim w.2 [
      | inl v ↦
          let inner = v.0 in
          let h = v.1 in
          let is = v.3 in
          let accepted : (list_rule inner h).accepted outer.payload ≡ true = sym (ap (λ (r : Rule). r.accepted outer.payload) is) ∙ n.accepted in
          let deeper = unlisted_kept depth inner h outer.payload e v.2 accepted v.4 in
          let payload : (list_rule inner h).canonical outer.payload ≡ (row_there g k).rule.canonical outer.payload = sym (ap (λ (r : Rule). r.canonical outer.payload) is) in
          (canonical_form (row_there g k) outer, n.keeps, inl (inner, h, v.2, ap (λ (r : Row). r.rule) n.row ∙ is, subst (λ p. HoldsUnlisted depth inner h p e) payload deeper))
      | inr v ↦
          let p = v.0 in
          let is = v.2 in
          let accepted : (link_peer_of (body_rule p)).accepted outer.payload ≡ true = sym (ap (λ (r : Rule). r.accepted outer.payload) is) ∙ n.accepted in
          let deeper = peer_kept p v.1 depth e (λ f h b l x y. unlisted_kept depth f h b e l x y) outer.payload accepted v.3 in
          let payload : (link_peer_of (body_rule p)).canonical outer.payload ≡ (row_there g k).rule.canonical outer.payload = sym (ap (λ (r : Rule). r.canonical outer.payload) is) in
          (canonical_form (row_there g k) outer, n.keeps, inr (p, v.1, ap (λ (r : Row). r.rule) n.row ∙ is, subst (λ b. HoldsUnlisted depth any (without_context (attribute_row p (family b))) (attribute_bytes b) e) payload deeper))
    ]

-- ---- attributes of frames

module _ (p : RuleOfPeers) (lawful : LawfulPeer p) where
  pub of_frames_under : (limit : ℕ) (c : List ℕ) (frame : ℕ × List ℕ) → IsLimit limit → is_link_type (frame_type c) ≡ true → first_frame (body_rule p) limit c ≡ Ok frame → KeepsUnlisted (attribute_row p) (frame_body c) (frame_body frame.1)
  of_frames_under limit c frame l is_link h depth e w =
      let k = link (body_rule p) limit c frame l is_link h in
      body_kept p lawful depth e (λ f g b x y z. unlisted_kept depth f g b e x y z) (frame_body c) (frame_body frame.1) k.0 k.1 w

-- under the rule in force
of_frames : (limit : ℕ) (c : List ℕ) (frame : ℕ × List ℕ) → IsLimit limit → is_link_type (frame_type c) ≡ true → first_frame link_body limit c ≡ Ok frame → KeepsUnlisted (attribute_row link_peer) (frame_body c) (frame_body frame.1)
of_frames = of_frames_under link_peer link_peer_lawful

pub unlisted_attributes_are_kept : UnlistedAttributesAreKept
unlisted_attributes_are_kept = record { of_lists = unlisted_kept; of_frames = of_frames; of_frames_under = of_frames_under }
