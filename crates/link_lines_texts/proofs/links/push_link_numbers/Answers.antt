use Rattle.std.proofs.Common.{◌≡◌, ◌++◌, codes, decimal, refl}
use Rattle.std.specs.Prelude.{slice_index}
use Rattle.link_lines_values.specs.Names.{named_number}
use Rattle.link_lines_values.proofs.Appending.{as_text, last, start, step}
use Rattle.link_lines_texts.specs.Links.{address_families, labelled, layer_types, link_numbers}
use Rattle.link_lines_texts.proofs.links.push_link_numbers.Goals as goal

pub returns : goal.returns
unfolding link_numbers
returns c =
    let body = c.args.body.now in
    let family = labelled (codes "ifinfomsg family ") (named_number address_families (slice_index body 0)) in
    let text : family ++ (labelled (codes " type ") (named_number layer_types c.read_u16.result) ++ labelled (codes " index ") (decimal c.read_u32.result)) ≡ link_numbers body =
    λ t. family ++ (labelled (codes " type ") (named_number layer_types (c.read_u16.ensures t)) ++ labelled (codes " index ") (decimal (c.read_u32.ensures t))) in
    let first = step _ (start c.args.out.now _) c.in_ok-push_labelled.ensures refl in
    let second = step _ first (c.in_ok-push_labelled-2).ensures refl in
    as_text text (last c.push_labelled_decimal.result second c.push_labelled_decimal.ensures)
