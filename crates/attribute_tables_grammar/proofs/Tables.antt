-- Every payload of a table that passes the checks has a lawful rule.
use Rattle.std.proofs.Common.{◌≡◌, ℕ, Bool, true, false, cond, List, [], ◌∷◌, ◌++◌, Option, Some, None, refl, sym, ap, ◌∙◌, arith}
use Rattle.std.specs.Prelude.{bytes_eq, ◌==◌}
use Rattle.std.proofs.lemmas.Bool.{and_parts}
use Rattle.std.proofs.lemmas.Slice.Eq.{bytes_eq-Decides}
use Rattle.netlink_packet_core_grammar.specs.Attributes.{proper_kind}
use Rattle.netlink_packet_core_grammar.specs.Texts.{without_nul}
use Rattle.netlink_packet_core_grammar.proofs.Texts.{without_nul-end}
use Rattle.attribute_tables_grammar.specs.Shapes.{Shape, text, raw, never, shape_bounded}
use Rattle.attribute_tables_grammar.specs.Rules.{Rule, Lawful, shape_rule}
use Rattle.attribute_tables_grammar.specs.Lists.{Context, Row, LawfulGrammar}
use Rattle.attribute_tables_grammar.specs.Peers.{RuleOfPeers, LawfulPeer, bytes_peer, peer_rule}
use Rattle.attribute_tables_grammar.specs.Tables.{Payload, Payload.plain, Payload.peer, Payload.list, Payload.link_info, Table, Table.end, Table.row, Names, Names.others, Names.name, typed, row_in_force, info_row, info_next, names_grammar, rule, row_in, rule_of_name, grammar, payload_bounded, rows_bounded, names_bounded}
use Rattle.attribute_tables_grammar.proofs.Shapes.{shape_lawful}
use Rattle.attribute_tables_grammar.proofs.Lists.{list_lawful}

pub peer_lawful : (p : RuleOfPeers) → LawfulPeer p → Lawful (peer_rule p)
peer_lawful p l = record {
  canonical_accepted = λ b a e. (l.canonical_accepted b a, refl);
  canonical_fits = λ b a f. refl;
  canonical_idempotent = l.canonical_idempotent;
  same_implies_equal_text = l.same_implies_equal_text;
  equal_text_implies_same = l.equal_text_implies_same;
  bounded = λ b a. omega (arith, l.bounded b a);
  counted = l.counted;
  bytes = λ b a f h. l.bytes b a h;
}

pub bytes_peer_lawful : LawfulPeer bytes_peer
bytes_peer_lawful = record {
  canonical_accepted = λ b a. refl;
  canonical_idempotent = λ b a. refl;
  same_implies_equal_text = λ a b x y s. (bytes_eq-Decides a b).0 s;
  equal_text_implies_same = λ a b x y e. (bytes_eq-Decides a b).1 e;
  bounded = λ b a. omega arith;
  counted = λ b a. omega arith;
  bytes = λ b a h. h;
}

-- ---- a property of each rule that a row may have is one of the row

module _ (P : Rule → Type 0) where
  pub pick_row : (b : Bool) (r s : Row) → P r.rule → P s.rule → P (elim b as (λ x. Row) [ true ↦ r | false ↦ s ]).rule
  pick_row true r s p q = p
  pick_row false r s p q = q

  pub pick_rule : (b : Bool) (r s : Rule) → P r → P s → P (elim b as (λ x. Rule) [ true ↦ r | false ↦ s ])
  pick_rule true r s p q = p
  pick_rule false r s p q = q

  either_row : (b : Bool) (r s : Row) → P r.rule → P s.rule → P (cond b r s).rule
  either_row true r s p q = p
  either_row false r s p q = q

  module _ (shapes : (s : Shape) → shape_bounded s ≡ true → P (shape_rule s)) where
    in_force : (o : Option (List ℕ)) (f : List ℕ → Rule) → ((n : List ℕ) → P (f n)) → P (row_in_force o f).rule
    in_force None f h = shapes never refl
    in_force (Some n) f h = h n

    pub info_rows : (data' ports : List ℕ → Rule) → ((n : List ℕ) → P (data' n)) → ((n : List ℕ) → P (ports n)) → (c : Context) (k : ℕ) → P (info_row data' ports c k).rule
    info_rows data' ports d p c k =
        either_row (k == 1) _ _ (shapes text refl)
        (either_row (k == 4) _ _ (shapes text refl)
        (either_row (k == 5) _ _ (in_force c.port_kind ports p)
        (either_row (k == 2) _ _ (in_force c.kind data' d)
        (either_row (k == 3) _ _ (in_force c.kind (λ n. shape_rule raw) (λ n. shapes raw refl)) (shapes raw refl)))))

-- ---- link info

same_names : (p q : List ℕ) → without_nul p ++ 0 ∷ [] ≡ without_nul q ++ 0 ∷ [] → without_nul p ≡ without_nul q
same_names p q h = sym (without_nul-end (without_nul p)) ∙ ap without_nul h ∙ without_nul-end (without_nul q)

pick_next : (is_kind is_port_kind : Bool) (r : Row) (c d : Context) (p q : List ℕ) →
    (cond is_kind (typed (shape_rule text)) (cond is_port_kind (typed (shape_rule text)) r)).rule.canonical p ≡ (cond is_kind (typed (shape_rule text)) (cond is_port_kind (typed (shape_rule text)) r)).rule.canonical q →
    cond is_kind (record { kind = Some (without_nul p); port_kind = c.port_kind }) (cond is_port_kind (record { kind = c.kind; port_kind = Some (without_nul p) }) d) ≡
    cond is_kind (record { kind = Some (without_nul q); port_kind = c.port_kind }) (cond is_port_kind (record { kind = c.kind; port_kind = Some (without_nul q) }) d)
pick_next true b r c d p q h = ap (λ (n : List ℕ). record { kind = Some n; port_kind = c.port_kind }) (same_names p q h)
pick_next false true r c d p q h = ap (λ (n : List ℕ). record { kind = c.kind; port_kind = Some n }) (same_names p q h)
pick_next false false r c d p q h = refl

info_steps : (data' ports : List ℕ → Rule) (c : Context) (k : ℕ) (p q : List ℕ) → (info_row data' ports c k).rule.canonical p ≡ (info_row data' ports c k).rule.canonical q → info_next c k p ≡ info_next c k q
info_steps data' ports c k p q h = pick_next (k == 1) (k == 4) _ c _ p q h

-- ---- tables

pub names_lawful_by : (data' ports : List ℕ → Rule) → ((n : List ℕ) → Lawful (data' n)) → ((n : List ℕ) → Lawful (ports n)) → LawfulGrammar (names_grammar data' ports)
names_lawful_by data' ports d p = record {
  rows = info_rows Lawful shape_lawful data' ports d p;
  steps = λ c e f k h. info_steps data' ports c (proper_kind e.kind) e.payload f.payload h ∙ ap (λ x. info_next c x f.payload) k;
}

module _ (p : RuleOfPeers) (lawful_peer : LawfulPeer p) where
  mutual
    pub lawful : (s : Payload) → payload_bounded s ≡ true → Lawful (rule p s)
    lawful (plain s) m = shape_lawful s m
    lawful peer m = peer_lawful p lawful_peer
    lawful (list form t) m = list_lawful form (grammar p t) (record { rows = λ c k. rows_lawful t m k; steps = λ c e f k h. refl })
    lawful (link_info form data' ports) m =
        let b = and_parts (names_bounded data') (names_bounded ports) m in
        list_lawful form (names_grammar (rule_of_name p data') (rule_of_name p ports)) (names_lawful_by (rule_of_name p data') (rule_of_name p ports) (names_lawful data' b.0) (names_lawful ports b.1))

    pub rows_lawful : (t : Table) → rows_bounded t ≡ true → (k : ℕ) → Lawful (row_in p t k).rule
    rows_lawful end m k = shape_lawful raw refl
    rows_lawful (row l n s t) m k =
        let b = and_parts (payload_bounded s) (rows_bounded t) m in
        pick_row Lawful (k == l) (record { is_typed = true; is_nested = n; rule = rule p s }) (row_in p t k) (lawful s b.0) (rows_lawful t b.1 k)

    pub names_lawful : (ns : Names) → names_bounded ns ≡ true → (n : List ℕ) → Lawful (rule_of_name p ns n)
    names_lawful others m n = shape_lawful raw refl
    names_lawful (name l s ns) m n =
        let b = and_parts (payload_bounded s) (names_bounded ns) m in
        pick_rule Lawful (bytes_eq n l) (rule p s) (rule_of_name p ns n) (lawful s b.0) (names_lawful ns b.1 n)

  pub table_lawful : (t : Table) → rows_bounded t ≡ true → LawfulGrammar (grammar p t)
  table_lawful t m = record { rows = λ c k. rows_lawful t m k; steps = λ c e f k h. refl }

  pub info_lawful : (data' ports : Names) → names_bounded data' ≡ true → names_bounded ports ≡ true → LawfulGrammar (names_grammar (rule_of_name p data') (rule_of_name p ports))
  info_lawful data' ports d q = names_lawful_by (rule_of_name p data') (rule_of_name p ports) (names_lawful data' d) (names_lawful ports q)
