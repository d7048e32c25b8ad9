-- Looking up a kind finds the row that the table has, so a list of a table's rows has the rule of the rows found.
use Rattle.std.proofs.Common.{◌≡◌, ℕ, Bool, true, false, cond, List, Option, Some, None, refl, sym, ap, ◌∙◌}
use Rattle.std.specs.Prelude.{◌==◌, bytes_eq}
use Rattle.attribute_tables_grammar.specs.Rules.{Rule}
use Rattle.attribute_tables_grammar.specs.Lists.{Row, ListForm, without_context, list_rule}
use Rattle.attribute_tables_grammar.specs.Peers.{RuleOfPeers}
use Rattle.attribute_tables_grammar.specs.Tables.{Payload, Payload.plain, Payload.peer, Payload.list, Payload.link_info, Table, Table.end, Table.row, Names, Names.others, Names.name, rule, row_in, rule_of_name, grammar}
use Rattle.attribute_tables_grammar.specs.LookUps.{Line, table_list_rule, link_info_rule, payload_rule, line_at, row_of_line, table_row, rows_rule, only_kind_one, holds_no_lists, payload_at, rule_or_raw}

pub payload-rule : (p : RuleOfPeers) (s : Payload) → payload_rule p s ≡ rule p s
unfolding table_list_rule link_info_rule
payload-rule p (plain s) = refl
payload-rule p peer = refl
payload-rule p (list form t) = refl
payload-rule p (link_info form data' ports) = refl

picked : (p : RuleOfPeers) (b n : Bool) (s : Payload) (r : Row) (o : Option Line) → r ≡ row_of_line p o → elim b as (λ x. Row) [ true ↦ record { is_typed = true; is_nested = n; rule = rule p s } | false ↦ r ] ≡ row_of_line p (cond b (Some (record { is_nested = n; payload = s })) o)
picked p true n s r o h = ap (λ (q : Rule). record { is_typed = true; is_nested = n; rule = q }) (sym (payload-rule p s))
picked p false n s r o h = h

-- the row found is the table's
pub row-table : (p : RuleOfPeers) (t : Table) (k : ℕ) → row_in p t k ≡ table_row p t k
row-table p end k = refl
row-table p (row l n s t) k = picked p (k == l) n s (row_in p t k) (line_at t k) (row-table p t k)

pub grammar-table : (p : RuleOfPeers) (t : Table) → grammar p t ≡ without_context (table_row p t)
grammar-table p t = λ i. record { row = λ c k. row-table p t k i; next = λ c e. c }

-- the rule of a list of a table's rows is that of the rows found, for any list kind
pub list-rows : (p : RuleOfPeers) (form : ListForm) (t : Table) → table_list_rule p form t ≡ rows_rule form (table_row p t)
unfolding table_list_rule rows_rule
list-rows p form t = ap (list_rule form) (grammar-table p t)

pub rule-rows : (p : RuleOfPeers) (form : ListForm) (t : Table) → rule p (list form t) ≡ rows_rule form (table_row p t)
unfolding rows_rule
rule-rows p form t = ap (list_rule form) (grammar-table p t)

-- ---- tables with a row for kind 1 only

one_line : (p : RuleOfPeers) (b : Bool) (l : Line) → row_of_line p (cond b (Some l) None) ≡ cond b (row_of_line p (Some l)) (row_of_line p None)
one_line p true l = refl
one_line p false l = refl

pub list-one : (p : RuleOfPeers) (form : ListForm) (n : Bool) (s : Payload) → table_list_rule p form (row 1 n s end) ≡ rows_rule form (only_kind_one (row_of_line p (Some (record { is_nested = n; payload = s }))))
list-one p form n s = list-rows p form (row 1 n s end) ∙ ap (rows_rule form) (λ i k. one_line p (k == 1) (record { is_nested = n; payload = s }) i)

-- ---- payloads that hold no attributes

fits_by : (p : RuleOfPeers) (b : Bool) (l : Line) (o : Option Line) (bytes : List ℕ) → (payload_rule p l.payload).fits bytes ≡ true → (row_of_line p o).rule.fits bytes ≡ true → (row_of_line p (cond b (Some l) o)).rule.fits bytes ≡ true
fits_by p true l o bytes h r = h
fits_by p false l o bytes h r = r

pub fits-without_lists : (p : RuleOfPeers) (t : Table) (k : ℕ) (bytes : List ℕ) → holds_no_lists t ≡ true → (table_row p t k).rule.fits bytes ≡ true
fits-without_lists p end k bytes h = refl
fits-without_lists p (row l n (plain s) t) k bytes h = fits_by p (k == l) (record { is_nested = n; payload = plain s }) (line_at t k) bytes refl (fits-without_lists p t k bytes h)
fits-without_lists p (row l n peer t) k bytes h = fits_by p (k == l) (record { is_nested = n; payload = peer }) (line_at t k) bytes refl (fits-without_lists p t k bytes h)
fits-without_lists p (row l n (list form s) t) k bytes h = absurd cc
fits-without_lists p (row l n (link_info form data' ports) t) k bytes h = absurd cc

-- ---- payloads by name

picked_rule : (p : RuleOfPeers) (b : Bool) (s : Payload) (r : Rule) (o : Option Payload) → r ≡ rule_or_raw p o → elim b as (λ x. Rule) [ true ↦ rule p s | false ↦ r ] ≡ rule_or_raw p (cond b (Some s) o)
picked_rule p true s r o h = sym (payload-rule p s)
picked_rule p false s r o h = h

-- the rule of a name is that of the payload found
pub named-payload : (p : RuleOfPeers) (ns : Names) (n : List ℕ) → rule_of_name p ns n ≡ rule_or_raw p (payload_at ns n)
named-payload p others n = refl
named-payload p (name m s ns) n = picked_rule p (bytes_eq n m) s (rule_of_name p ns n) (payload_at ns n) (named-payload p ns n)
