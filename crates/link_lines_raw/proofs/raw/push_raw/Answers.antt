use Rattle.std.proofs.Common.{[], ◌∷◌, append-nil, option_map, refl, sym, ap, ◌∙◌}
use Rattle.std.specs.Prelude.{◌++◌}
use Rattle.netlink_packet_core_grammar.specs.Attributes.{Attribute}
use Rattle.link_lines_values.proofs.Appending.{as_text, done, failed, last, start, step}
use Rattle.link_lines_raw.specs.Attributes.{raw_row, raw_text}
use Rattle.link_lines_raw.specs.Lines.{lines_text}
use Rattle.link_lines_raw.specs.Lists.{head_text, inside_lines, named_head, named_list}
use Rattle.link_lines_raw.specs.Views.{listing}
use Rattle.link_lines_raw.proofs.Spans.{held_text, nothing_text}
use Rattle.link_lines_raw.proofs.raw.push_raw.Goals as goal

pub returns-in-Some : goal.returns-in-Some
returns-in-Some c =
    let e : Attribute = record { kind = c.args.attribute.kind; payload = c.args.attribute.payload.now } in
    let row = raw_row c.args.table e.kind in
    let own = (raw_text c.args.level c.args.table [] e) ++ 10 ∷ head_text c.args.level (named_head c.args.level row [] e) in
    let tells = sym c.in_ok-listed.ensures.list ∙ ap (option_map (listing (λ b. b.now))) c.in-Some.is in
    let first = step _ (start c.args.out.now _) c.in_ok-listed.ensures.appends refl in
    as_text (held_text (raw_text c.args.level c.args.table [] e) c.args.level (named_head c.args.level row [] e) (named_list c.args.level row [] e) own _ refl (ap (λ o. own ++ lines_text (inside_lines c.args.level o)) (sym tells)))
    (last c.push_listed.result first c.push_listed.ensures)

pub returns-in-None : goal.returns-in-None
returns-in-None c =
    let e : Attribute = record { kind = c.args.attribute.kind; payload = c.args.attribute.payload.now } in
    let row = raw_row c.args.table e.kind in
    let own = (raw_text c.args.level c.args.table [] e) ++ 10 ∷ head_text c.args.level (named_head c.args.level row [] e) in
    let tells = sym c.in_ok-listed.ensures.list ∙ ap (option_map (listing (λ b. b.now))) c.in-None.is in
    let first = step _ (start c.args.out.now _) c.in_ok-listed.ensures.appends (append-nil own) in
    as_text (held_text (raw_text c.args.level c.args.table [] e) c.args.level (named_head c.args.level row [] e) (named_list c.args.level row [] e) own own refl (nothing_text own c.args.level (named_list c.args.level row [] e) tells)) (done _ first refl)

pub returns-in_err-listed : goal.returns-in_err-listed
returns-in_err-listed c =
    let e : Attribute = record { kind = c.args.attribute.kind; payload = c.args.attribute.payload.now } in
    let row = raw_row c.args.table e.kind in
    let own = (raw_text c.args.level c.args.table [] e) ++ 10 ∷ head_text c.args.level (named_head c.args.level row [] e) in
    failed _ _ _ c.from_residual.ensures.0 (start c.args.out.now _) c.in_err-listed.ensures.appends (held_text (raw_text c.args.level c.args.table [] e) c.args.level (named_head c.args.level row [] e) (named_list c.args.level row [] e) own _ refl refl)
