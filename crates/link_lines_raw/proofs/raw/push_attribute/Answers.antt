use Rattle.std.proofs.Common.{◌≡◌, ◌∷◌, None, append-nil, option_map, refl, rules}
use Rattle.netlink_packet_core_grammar.specs.Attributes.{Attribute}
use Rattle.link_lines_values.proofs.Appending.{as_text, done, start, step}
use Rattle.link_lines_raw.specs.Attributes.{raw_row}
use Rattle.link_lines_raw.specs.Lists.{head_text, padding_words}
use Rattle.link_lines_raw.proofs.Unnamed.{unnamed_is}
use Rattle.link_lines_raw.proofs.raw.push_attribute.Goals as goal

pub returns-in_ok-push_line_end-in-None-clause-appends : goal.returns-in_ok-push_line_end-in-None-clause-appends
returns-in_ok-push_line_end-in-None-clause-appends c =
    let e : Attribute = record { kind = c.args.attribute.kind; payload = c.args.attribute.payload.now } in
    let padding = head_text c.args.level (padding_words (option_map (λ p. p.now) c.args.padding)) in
    let none : raw_row c.args.table c.args.attribute.kind ≡ None = search rules in
    let first = step _ (start c.args.out.now _) c.in_ok-push_unnamed-in-None.ensures refl in
    as_text (unnamed_is c.args.level c.args.table c.args.list.now e padding none) (done _ (step _ first c.in_ok-push_line_end-in-None.ensures (append-nil (10 ∷ padding))) refl)
