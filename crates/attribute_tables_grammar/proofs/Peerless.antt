-- The rule of a payload or a row without peers is the same under all rules of peers.
use Rattle.std.proofs.Common.{◌≡◌, ℕ, Bool, true, false, cond, List, Option, Some, refl, sym, ap, ◌∙◌}
use Rattle.std.specs.Prelude.{◌==◌, ◌||◌, bytes_eq}
use Rattle.std.proofs.lemmas.Bool.{and_parts, eqb-true}
use Rattle.attribute_tables_grammar.specs.Lists.{list_rule, without_context}
use Rattle.attribute_tables_grammar.specs.Peers.{RuleOfPeers}
use Rattle.attribute_tables_grammar.specs.Tables.{Payload, Payload.plain, Payload.peer, Payload.list, Payload.link_info, Table, Table.end, Table.row, Names, Names.others, Names.name, rule, row_in, rule_of_name, names_grammar, holds_no_peers, rows_hold_no_peers, names_hold_no_peers, holds_no_peers_but}
use Rattle.attribute_tables_grammar.specs.LookUps.{Line, line_at, payload_rule, row_of_line, table_row}
use Rattle.attribute_tables_grammar.specs.Laws.{RulesWithoutPeersAreOne}
use Rattle.attribute_tables_grammar.proofs.LookUps.{payload-rule}

module _ (p q : RuleOfPeers) where
  mutual
    one_rule : (s : Payload) → holds_no_peers s ≡ true → rule p s ≡ rule q s
    one_rule (plain s) h = refl
    one_rule peer h = absurd cc
    one_rule (list form t) h = ap (λ f. list_rule form (without_context f)) (λ i k. one_row t h k i)
    one_rule (link_info form data' ports) h =
        let parts = and_parts (names_hold_no_peers data') (names_hold_no_peers ports) h in
        λ i. list_rule form (names_grammar (λ n. one_named data' parts.0 n i) (λ n. one_named ports parts.1 n i))

    one_row : (t : Table) → rows_hold_no_peers t ≡ true → (k : ℕ) → row_in p t k ≡ row_in q t k
    one_row end h k = refl
    one_row (row l n s t) h k =
        let parts = and_parts (holds_no_peers s) (rows_hold_no_peers t) h in
        λ i. elim (k == l) [ true ↦ record { is_typed = true; is_nested = n; rule = one_rule s parts.0 i } | false ↦ one_row t parts.1 k i ]

    one_named : (ns : Names) → names_hold_no_peers ns ≡ true → (n : List ℕ) → rule_of_name p ns n ≡ rule_of_name q ns n
    one_named others h n = refl
    one_named (name m s ns) h n =
        let parts = and_parts (holds_no_peers s) (names_hold_no_peers ns) h in
        λ i. elim (bytes_eq n m) [ true ↦ one_rule s parts.0 i | false ↦ one_named ns parts.1 n i ]

-- for a payload
one_payload : (p q : RuleOfPeers) (s : Payload) → holds_no_peers s ≡ true → payload_rule p s ≡ payload_rule q s
one_payload p q s h = payload-rule p s ∙ one_rule p q s h ∙ sym (payload-rule q s)

-- for a row
picked : (p q : RuleOfPeers) (b n : Bool) (s : Payload) (o : Option Line) → (b ≡ true → holds_no_peers s ≡ true) → row_of_line p o ≡ row_of_line q o →
    row_of_line p (cond b (Some (record { is_nested = n; payload = s })) o) ≡ row_of_line q (cond b (Some (record { is_nested = n; payload = s })) o)
picked p q true n s o h more = ap (λ r. record { is_typed = true; is_nested = n; rule = r }) (one_payload p q s (h refl))
picked p q false n s o h more = more

or_other : (a b : Bool) → (a || b) ≡ true → a ≡ false → b ≡ true
or_other true b h e = absurd cc
or_other false b h e = h

one_line : (p q : RuleOfPeers) (c : ℕ) (t : Table) → holds_no_peers_but c t ≡ true → (k : ℕ) → (k == c) ≡ false → table_row p t k ≡ table_row q t k
one_line p q c end h k e = refl
one_line p q c (row l n s t) h k e =
    let parts = and_parts (l == c || holds_no_peers s) (holds_no_peers_but c t) h in
    picked p q (k == l) n s (line_at t k) (λ is. or_other (l == c) (holds_no_peers s) parts.0 (ap (λ m. m == c) (sym (eqb-true k l is)) ∙ e)) (one_line p q c t parts.1 k e)

pub rules_without_peers_are_one : RulesWithoutPeersAreOne
rules_without_peers_are_one = record { payloads = one_payload; rows = one_line }
