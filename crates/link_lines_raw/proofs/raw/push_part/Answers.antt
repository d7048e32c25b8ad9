use Rattle.std.proofs.Common.{append-nil, option_map, refl, sym, ap, ◌∙◌, ◌+◌, take, drop}
use Rattle.netlink_packet_core_grammar.specs.Attributes.{Attribute}
use Rattle.link_lines_values.proofs.Appending.{as_text, done, start, step}
use Rattle.link_lines_raw.specs.Attributes.{next_hop_line, record_words}
use Rattle.link_lines_raw.specs.Lists.{head_text, padding_words, part_head, part_text, part_with_head}
use Rattle.link_lines_raw.specs.Views.{listed_of}
use Rattle.link_lines_raw.proofs.Spans.{padded_line}
use Rattle.link_lines_raw.proofs.raw.push_part.Goals as goal

pub returns-in_ok-push_padding-in-NextHops-clause-appends : goal.returns-in_ok-push_padding-in-NextHops-clause-appends
unfolding part_text part_head next_hop_line
returns-in_ok-push_padding-in-NextHops-clause-appends c =
    let e : Attribute = record { kind = c.args.part.kind; payload = c.args.part.payload.now } in
    let padding = option_map (λ p. p.now) c.args.padding in
    let below = head_text (c.args.level + 1) (padding_words padding) in
    let words = record_words next_hop_line (take 6 (drop 2 e.payload)) in
    let first = step _ (start c.args.out.now _) c.in_ok-push_record_line-in-NextHops.ensures refl in
    let both = done _ (step _ first c.in_ok-push_padding-in-NextHops.ensures (append-nil below)) refl in
    as_text (padded_line c.args.level words below ∙ ap (λ m. part_with_head c.args.level (listed_of (λ b. b.now) m) e padding) (sym c.in-NextHops.is)) both
