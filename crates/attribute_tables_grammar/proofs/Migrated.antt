-- Under a rule of peers, an encoding that was canonical while peers were bytes is accepted, and has the canonical
-- encoding of the original bytes.
use Rattle.std.proofs.Common.{◌≡◌, ℕ, Bool, true, false, cond, List, Option, Some, None, refl}
use Rattle.std.specs.Prelude.{◌==◌, bytes_eq}
use Rattle.std.proofs.lemmas.Bool.{and_parts}
use Rattle.attribute_tables_grammar.specs.Shapes.{Shape, text, raw, never, shape_bounded}
use Rattle.attribute_tables_grammar.specs.Rules.{Rule, shape_rule, IsMigratedBy}
use Rattle.attribute_tables_grammar.specs.Lists.{Context, Row, raw_row}
use Rattle.attribute_tables_grammar.specs.Peers.{RuleOfPeers, bytes_peer, peer_rule}
use Rattle.attribute_tables_grammar.specs.Tables.{Payload, Payload.plain, Payload.peer, Payload.list, Payload.link_info, Table, Table.end, Table.row, Names, Names.others, Names.name, typed, row_in_force, info_row, names_grammar, rule, row_in, rule_of_name, grammar, payload_bounded, rows_bounded, names_bounded}
use Rattle.attribute_tables_grammar.proofs.Shapes.{shape_lawful}
use Rattle.attribute_tables_grammar.proofs.Attributes.{MigratesRow, migrates_reflexive, row_migrates_reflexive}
use Rattle.attribute_tables_grammar.proofs.Lists.{list_migrates}
use Rattle.attribute_tables_grammar.proofs.Tables.{table_lawful, info_lawful, bytes_peer_lawful}

-- ---- rows and names

shape_migrates : (s : Shape) → shape_bounded s ≡ true → IsMigratedBy (shape_rule s) (shape_rule s)
shape_migrates s m = migrates_reflexive (shape_rule s) (shape_lawful s m)

raw_migrates : MigratesRow raw_row raw_row
raw_migrates = row_migrates_reflexive raw_row (shape_lawful raw refl)

typed_migrates : (r s : Rule) → IsMigratedBy r s → MigratesRow (typed r) (typed s)
typed_migrates r s h = record { kinds = λ k. refl; payloads = h }

nested_migrates : (n : Bool) (r s : Rule) → IsMigratedBy r s → MigratesRow (record { is_typed = true; is_nested = n; rule = r }) (record { is_typed = true; is_nested = n; rule = s })
nested_migrates n r s h = record { kinds = λ k. refl; payloads = h }

pick_row : (b : Bool) (r s r' s' : Row) → MigratesRow r r' → MigratesRow s s' → MigratesRow (elim b as (λ x. Row) [ true ↦ r | false ↦ s ]) (elim b as (λ x. Row) [ true ↦ r' | false ↦ s' ])
pick_row true r s r' s' p q = p
pick_row false r s r' s' p q = q

pick_rule : (b : Bool) (r s r' s' : Rule) → IsMigratedBy r r' → IsMigratedBy s s' → IsMigratedBy (elim b as (λ x. Rule) [ true ↦ r | false ↦ s ]) (elim b as (λ x. Rule) [ true ↦ r' | false ↦ s' ])
pick_rule true r s r' s' p q = p
pick_rule false r s r' s' p q = q

either_row : (b : Bool) (r s r' s' : Row) → MigratesRow r r' → MigratesRow s s' → MigratesRow (cond b r s) (cond b r' s')
either_row true r s r' s' p q = p
either_row false r s r' s' p q = q

in_force : (o : Option (List ℕ)) (f f' : List ℕ → Rule) → ((n : List ℕ) → IsMigratedBy (f n) (f' n)) → MigratesRow (row_in_force o f) (row_in_force o f')
in_force None f f' h = typed_migrates (shape_rule never) (shape_rule never) (shape_migrates never refl)
in_force (Some n) f f' h = typed_migrates (f n) (f' n) (h n)

info_rows : (d d' p p' : List ℕ → Rule) → ((n : List ℕ) → IsMigratedBy (d n) (d' n)) → ((n : List ℕ) → IsMigratedBy (p n) (p' n)) → (c : Context) (k : ℕ) → MigratesRow (info_row d p c k) (info_row d' p' c k)
info_rows d d' p p' h q c k =
    either_row (k == 1) _ _ _ _ (typed_migrates (shape_rule text) (shape_rule text) (shape_migrates text refl))
    (either_row (k == 4) _ _ _ _ (typed_migrates (shape_rule text) (shape_rule text) (shape_migrates text refl))
    (either_row (k == 5) _ _ _ _ (in_force c.port_kind p p' q)
    (either_row (k == 2) _ _ _ _ (in_force c.kind d d' h)
    (either_row (k == 3) _ _ _ _ (in_force c.kind (λ n. shape_rule raw) (λ n. shape_rule raw) (λ n. shape_migrates raw refl)) raw_migrates))))

-- ---- tables

peer_migrates : (p : RuleOfPeers) → IsMigratedBy (peer_rule bytes_peer) (peer_rule p)
peer_migrates p = record { accepted = λ b x y m. y; empty_ports = λ b x y m. refl; fits = λ b x y f. refl; canonical = λ b x y. refl }

module _ (p : RuleOfPeers) where
  mutual
    pub migrated : (s : Payload) → payload_bounded s ≡ true → IsMigratedBy (rule bytes_peer s) (rule p s)
    migrated (plain s) m = shape_migrates s m
    migrated peer m = peer_migrates p
    migrated (list form t) m = list_migrates form (grammar bytes_peer t) (table_lawful bytes_peer bytes_peer_lawful t m) (λ c k. row_in p t k) (λ c k. rows_migrated t m k)
    migrated (link_info form data' ports) m =
        let n = and_parts (names_bounded data') (names_bounded ports) m in
        list_migrates form (names_grammar (rule_of_name bytes_peer data') (rule_of_name bytes_peer ports)) (info_lawful bytes_peer bytes_peer_lawful data' ports n.0 n.1) (info_row (rule_of_name p data') (rule_of_name p ports))
        (info_rows (rule_of_name bytes_peer data') (rule_of_name p data') (rule_of_name bytes_peer ports) (rule_of_name p ports) (names_migrated data' n.0) (names_migrated ports n.1))

    rows_migrated : (t : Table) → rows_bounded t ≡ true → (k : ℕ) → MigratesRow (row_in bytes_peer t k) (row_in p t k)
    rows_migrated end m k = raw_migrates
    rows_migrated (row l n s t) m k =
        let b = and_parts (payload_bounded s) (rows_bounded t) m in
        pick_row (k == l) (record { is_typed = true; is_nested = n; rule = rule bytes_peer s }) (row_in bytes_peer t k) (record { is_typed = true; is_nested = n; rule = rule p s }) (row_in p t k)
        (nested_migrates n (rule bytes_peer s) (rule p s) (migrated s b.0)) (rows_migrated t b.1 k)

    names_migrated : (ns : Names) → names_bounded ns ≡ true → (n : List ℕ) → IsMigratedBy (rule_of_name bytes_peer ns n) (rule_of_name p ns n)
    names_migrated others m n = shape_migrates raw refl
    names_migrated (name l s ns) m n =
        let b = and_parts (payload_bounded s) (names_bounded ns) m in
        pick_rule (bytes_eq n l) (rule bytes_peer s) (rule_of_name bytes_peer ns n) (rule p s) (rule_of_name p ns n) (migrated s b.0) (names_migrated ns b.1 n)
