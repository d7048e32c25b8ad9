use Rattle.std.proofs.Common.{◌∷◌, append-nil, option_map, refl, sym, ap, ◌∙◌}
use Rattle.std.specs.Prelude.{◌++◌}
use Rattle.link_lines_values.proofs.Appending.{as_text, done, failed, last, start, step}
use Rattle.link_lines_raw.specs.Attributes.{after_name}
use Rattle.link_lines_raw.specs.Lines.{lines_text}
use Rattle.link_lines_raw.specs.Lists.{head_text, inside_lines, shown_head, shown_list}
use Rattle.link_lines_raw.specs.Rows.{raw_of}
use Rattle.link_lines_raw.specs.Views.{listing}
use Rattle.link_lines_raw.proofs.Spans.{held_text, nothing_text}
use Rattle.link_lines_raw.proofs.raw.push_held.Goals as goal

pub returns-in-Some : goal.returns-in-Some
returns-in-Some c =
    let raw = raw_of (λ b. b.now) c.args.raw.now in
    let p = c.args.payload.now in
    let own = (after_name c.args.level raw p) ++ 10 ∷ head_text c.args.level (shown_head c.args.level raw p) in
    let tells = sym c.in_ok-listed.ensures.list ∙ ap (option_map (listing (λ b. b.now))) c.in-Some.is in
    let first = step _ (start c.args.out.now _) c.in_ok-listed.ensures.appends refl in
    as_text (held_text (after_name c.args.level raw p) c.args.level (shown_head c.args.level raw p) (shown_list c.args.level raw p) own _ refl (ap (λ o. own ++ lines_text (inside_lines c.args.level o)) (sym tells)))
    (last c.push_listed.result first c.push_listed.ensures)

pub returns-in-None : goal.returns-in-None
returns-in-None c =
    let raw = raw_of (λ b. b.now) c.args.raw.now in
    let p = c.args.payload.now in
    let own = (after_name c.args.level raw p) ++ 10 ∷ head_text c.args.level (shown_head c.args.level raw p) in
    let tells = sym c.in_ok-listed.ensures.list ∙ ap (option_map (listing (λ b. b.now))) c.in-None.is in
    let first = step _ (start c.args.out.now _) c.in_ok-listed.ensures.appends (append-nil own) in
    as_text (held_text (after_name c.args.level raw p) c.args.level (shown_head c.args.level raw p) (shown_list c.args.level raw p) own own refl (nothing_text own c.args.level (shown_list c.args.level raw p) tells)) (done _ first refl)

pub returns-in_err-listed : goal.returns-in_err-listed
returns-in_err-listed c =
    let raw = raw_of (λ b. b.now) c.args.raw.now in
    let p = c.args.payload.now in
    let own = (after_name c.args.level raw p) ++ 10 ∷ head_text c.args.level (shown_head c.args.level raw p) in
    failed _ _ _ c.from_residual.ensures.0 (start c.args.out.now _) c.in_err-listed.ensures.appends (held_text (after_name c.args.level raw p) c.args.level (shown_head c.args.level raw p) (shown_list c.args.level raw p) own _ refl refl)
