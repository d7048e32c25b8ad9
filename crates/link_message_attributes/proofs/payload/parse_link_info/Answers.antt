-- Link info that holds an attribute is a list.
use Rattle.std.proofs.Common.{sym, subst, ◌∙◌, rules}
use Rattle.std.proofs.lemmas.Result.{IfOk-weaker}
use Rattle.attribute_tables.specs.Outcomes.{IsRefusedUnless}
use Rattle.link_message_attributes.proofs.Rules.{no_info, some_bytes}
use Rattle.link_message_attributes.proofs.payload.parse_link_info.Goals as goal

pub returns-then-is_empty-clause-judged : goal.returns-then-is_empty-clause-judged
returns-then-is_empty-clause-judged c = let k = no_info c.args.payload.now c.if-is_empty.ensures in search rules

pub returns-clause-judged : goal.returns-clause-judged
returns-clause-judged c =
    let parts = c.info_is_a_list_inside.ensures.of_some_bytes c.args.payload.now (some_bytes c.args.payload.now c.if-is_empty.ensures) in
    subst (IsRefusedUnless c.parse_list_with.result) (sym parts.accepted) c.parse_list_with.ensures.judged

pub returns-clause-written : goal.returns-clause-written
returns-clause-written c =
    let parts = c.info_is_a_list_inside.ensures.of_some_bytes c.args.payload.now (some_bytes c.args.payload.now c.if-is_empty.ensures) in
    IfOk-weaker c.parse_list_with.result _ _ (λ v read. (read.0 ∙ sym parts.canonical, read.1 ∙ sym parts.fits)) c.parse_list_with.ensures.written

pub returns-clause-is_row_variant : goal.returns-clause-is_row_variant
returns-clause-is_row_variant c = c.parse_list_with.ensures.is_row_variant
