-- The tables pass the checks, and are lawful.
use Rattle.std.proofs.Common.{refl}
use Rattle.attribute_tables_grammar.specs.Lists.{any}
use Rattle.attribute_tables_grammar.specs.LookUps.{link_info_rule}
use Rattle.attribute_tables_grammar.specs.Tables.{Payload.link_info}
use Rattle.attribute_tables_grammar.proofs.Tables.{lawful, info_lawful}
use Rattle.link_info_grammar.specs.Families.{kinds, port_kinds, kind_names, port_kind_names}
use Rattle.link_info_grammar.specs.LinkInfo.{info_grammar, info_rule}
use Rattle.link_info_grammar.specs.Laws.{InfoTablesAreBoundedAndAscend, InfoIsLawful, InfoGrammarIsLawful, TablesAreListed, InfoOfAnyFormIsInfoRule, UnlistedNamesHoldBytes}
use Rattle.link_info_grammar.proofs.Names.{named-lacks, lacks_name-unlisted}

pub tables_pass : InfoTablesAreBoundedAndAscend
tables_pass form = (refl, refl)

pub info_is_lawful : InfoIsLawful
unfolding info_rule info_grammar
info_is_lawful p l = lawful p l (link_info any kinds port_kinds) refl

pub info_grammar_is_lawful : InfoGrammarIsLawful
unfolding info_grammar
info_grammar_is_lawful p l = info_lawful p l kinds port_kinds refl refl

pub tables_are_listed : TablesAreListed
tables_are_listed = (refl, refl)

pub info_is_a_payload : InfoOfAnyFormIsInfoRule
unfolding link_info_rule info_rule info_grammar
info_is_a_payload p = refl

pub unlisted_names_hold_bytes : UnlistedNamesHoldBytes
unlisted_names_hold_bytes = record {
  kinds = λ p n h. named-lacks p kinds n (lacks_name-unlisted kinds kind_names n tables_are_listed.0 h);
  port_kinds = λ p n h. named-lacks p port_kinds n (lacks_name-unlisted port_kinds port_kind_names n tables_are_listed.1 h);
}

-- what the laws are proved from
pub ruleset laws = (tables_pass, info_is_lawful, info_grammar_is_lawful, tables_are_listed, info_is_a_payload, unlisted_names_hold_bytes)
