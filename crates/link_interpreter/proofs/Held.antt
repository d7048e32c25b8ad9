-- The rules of lists, payloads and link info, under the names that contracts use.
use Rattle.std.proofs.Common.{◌≡◌, ℕ, ◌<◌, true, false, List, [], ◌∷◌, length, Option, None, refl, sym, ap, ◌∙◌, arith}
use Rattle.attribute_tables_grammar.specs.Laws.{MeasuresDetermineRules, RowsAreLookedUp, SamenessUnfolds}
use Rattle.attribute_tables_grammar.specs.Lists.{LawfulGrammar, list_rule, non_empty}
use Rattle.attribute_tables_grammar.specs.LookUps.{link_info_rule, payload_rule, rows_rule}
use Rattle.attribute_tables_grammar.specs.Peers.{RuleOfPeers}
use Rattle.attribute_tables_grammar.specs.Rules.{Rule}
use Rattle.attribute_tables_grammar.specs.Walks.{Measure, measure}
use Rattle.link_info_grammar.specs.LinkInfo.{data_rule, info_grammar, info_rule, port_data_rule}
use Rattle.link_message_grammar.specs.Laws.{InfoPayloadsAreLists}
use Rattle.link_interpreter.specs.Measures.{info_list, info_names, rows_of}
use Rattle.link_tables.specs.declared.rows.Form.{Form}
use Rattle.link_tables.specs.declared.rows.Held.{Held}
use Rattle.link_tables.specs.declared.rows.Held.TheVariants.{List as HeldList}
use Rattle.link_tables.specs.declared.table.Table.{Table}
use Rattle.link_tables.specs.Rows.{form_of}
use Rattle.link_tables.specs.Tables.{held_rule, info_payload, table_of}

-- a list's rule is that of its payload
pub list_held : RowsAreLookedUp → (p : RuleOfPeers) (held : Held) (form : Form) (t : Table) → held ≡ HeldList form t → list_rule (form_of form) (rows_of p (table_of t.0)) ≡ held_rule p held
unfolding rows_rule
list_held law p held form t e = sym (law.named p (form_of form) (table_of t.0)) ∙ sym (ap (held_rule p) e)

-- a measure under one name of a rule is one under the others
pub measured_as : (r s : Rule) (payload : List ℕ) (o : Option Measure) → r ≡ s → o ≡ measure r payload → o ≡ measure s payload
measured_as r s payload o e h = h ∙ ap (λ r. measure r payload) e

module _ (p : RuleOfPeers) where
  abbrev pub inside : Rule
  inside = payload_rule p info_payload

  pub record ListParts (b : List ℕ) : Type 0 where
    pub accepted : inside.accepted b ≡ (info_list p).accepted b
    pub canonical : inside.canonical b ≡ (info_list p).canonical b
    pub fits : inside.fits b ≡ (info_list p).fits b

  pub lawful_info : LawfulGrammar (info_grammar p) → LawfulGrammar (info_names p)
  unfolding info_grammar data_rule port_data_rule
  lawful_info law = law

  -- link info in an attribute, from the laws of measures
  pub info_none : MeasuresDetermineRules → (b : List ℕ) → length b ≡ 0 → None ≡ measure inside b
  unfolding info_payload link_info_rule data_rule port_data_rule
  info_none laws b l = laws.no_bytes non_empty (info_names p) b l tt

  pub info_some : MeasuresDetermineRules → (b : List ℕ) → 0 < length b → measure (info_list p) b ≡ measure inside b
  unfolding info_payload link_info_rule data_rule port_data_rule
  info_some laws b l = sym (laws.non_empty (info_names p) b l)

  -- accepted link info is the list with an attribute in it
  pub info_parts : InfoPayloadsAreLists p → (b : List ℕ) → inside.accepted b ≡ true → ListParts b
  unfolding info_payload link_info_rule info_rule info_grammar data_rule port_data_rule
  info_parts law [] a = absurd (cc (a, law.of_no_bytes [] refl))
  info_parts law (x ∷ b) a = let m = law.of_some_bytes (x ∷ b) (omega arith) in record { accepted = m.accepted; canonical = m.canonical; fits = m.fits }

  pub info_same : InfoPayloadsAreLists p → (a b : List ℕ) → 0 < length a → 0 < length b → (info_list p).same a b ≡ inside.same a b
  unfolding info_payload link_info_rule info_rule info_grammar data_rule port_data_rule
  info_same law a b l m = law.same a b l m

  -- empty bytes are no link info, so they are equivalent to none
  pub info_no_left : SamenessUnfolds → (a b : List ℕ) → length a ≡ 0 → false ≡ inside.same a b
  unfolding info_payload link_info_rule data_rule port_data_rule
  info_no_left laws a b l = laws.no_left non_empty (info_names p) a b l tt

  pub info_no_right : SamenessUnfolds → (a b : List ℕ) → length b ≡ 0 → false ≡ inside.same a b
  unfolding info_payload link_info_rule data_rule port_data_rule
  info_no_right laws a b l = laws.no_right non_empty (info_names p) a b l tt

  -- the encoding of link info is that of its list
  pub info_text : InfoPayloadsAreLists p → (b : List ℕ) → 0 < length b → (info_list p).canonical b ≡ inside.canonical b
  unfolding info_payload link_info_rule info_rule info_grammar data_rule port_data_rule
  info_text law b l = sym (law.of_some_bytes b l).canonical
