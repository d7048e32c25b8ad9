-- The laws that need more than one lemma, and the facts that all laws are proved from.
use Rattle.std.proofs.Common.{subst, sym}
use Rattle.attribute_tables_grammar.specs.Rules.{Rule, Lawful}
use Rattle.attribute_tables_grammar.specs.Tables.{rule}
use Rattle.attribute_tables_grammar.specs.Laws.{CanonicalDecidesMeaning, CanonicalPayloadsDetermineMeanings, KeepsMeaning, PayloadsKeepMeanings, TableRowsAreLawful}
use Rattle.attribute_tables_grammar.proofs.Attributes.{after_more, next_canonical, one_context}
use Rattle.attribute_tables_grammar.proofs.LookUps.{row-table, rule-rows, list-rows, list-one, fits-without_lists, named-payload}
use Rattle.attribute_tables_grammar.proofs.MeasureSteps.{measures_unfold, measures_determine_rules}
use Rattle.attribute_tables_grammar.proofs.AlreadyCanonical.{canonical_lists_unfold}
use Rattle.attribute_tables_grammar.proofs.Peerless.{rules_without_peers_are_one}
use Rattle.attribute_tables_grammar.proofs.ReadBack.{canonical_is_cut, lists_are_read_back}
use Rattle.attribute_tables_grammar.proofs.Readings.{readings_unfold, readings_determine_rules, single_first_attributes_are_read, ports_are_entries}
use Rattle.attribute_tables_grammar.proofs.Migrated.{migrated}
use Rattle.attribute_tables_grammar.proofs.SameSteps.{kept_lists_unfold, sameness_unfolds, attributes_are_compared}
use Rattle.attribute_tables_grammar.proofs.ShortTexts.{short_fits}
use Rattle.attribute_tables_grammar.proofs.Tables.{lawful, rows_lawful, table_lawful, bytes_peer_lawful}
use Rattle.attribute_tables_grammar.proofs.TextSteps.{writing_unfolds}

pub one_text_each : (r : Rule) → Lawful r → CanonicalDecidesMeaning r
one_text_each r l a b x y = (l.same_implies_equal_text a b x y, l.equal_text_implies_same a b x y)

pub texts_determine_meanings : CanonicalPayloadsDetermineMeanings
texts_determine_meanings p l s m = one_text_each (rule p s) (lawful p l s m)

pub keeps_meaning : (r : Rule) → Lawful r → KeepsMeaning r
keeps_meaning r l b a e = l.equal_text_implies_same b (r.canonical b) a (l.canonical_accepted b a e).0 (sym (l.canonical_idempotent b a))

pub texts_keep_meanings : PayloadsKeepMeanings
texts_keep_meanings p l s m = keeps_meaning (rule p s) (lawful p l s m)

pub table_rows_lawful : TableRowsAreLawful
table_rows_lawful p l t b k = subst (λ r. Lawful r.rule) (row-table p t k) (rows_lawful p l t b k)

-- what the laws are proved from: rules and tables, look-ups, and the steps of loops
pub ruleset rules_and_tables = (lawful, table_lawful, table_rows_lawful, bytes_peer_lawful, texts_determine_meanings, texts_keep_meanings, short_fits, rules_without_peers_are_one, migrated)

pub ruleset look_ups = (rule-rows, list-rows, list-one, fits-without_lists, named-payload)

pub ruleset lists = (canonical_is_cut, lists_are_read_back, one_context, after_more, next_canonical, readings_determine_rules, measures_determine_rules, single_first_attributes_are_read, ports_are_entries)

pub ruleset steps = (readings_unfold, measures_unfold, canonical_lists_unfold, writing_unfolds, kept_lists_unfold, sameness_unfolds, attributes_are_compared)

pub ruleset laws = (rules_and_tables, look_ups, lists, steps)
