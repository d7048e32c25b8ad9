use Rattle.std.proofs.Common.{◌≡◌, ◌∷◌, ◌++◌, true, length, codes, refl}
use Rattle.std.specs.Prelude.{nat_le}
use Rattle.std.proofs.lemmas.Bool.{le-leb}
use Rattle.link_lines_values.specs.Values.{value_text}
use Rattle.link_lines_values.specs.declared.values.ShownBy.TheVariants.{Signed}
use Rattle.link_lines_values.proofs.Appending.{added, as_text, last, start, step}
use Rattle.link_lines_texts.specs.Frames.{after_code, code_lines, errors}
use Rattle.link_lines_texts.proofs.frames.push_code.Goals as goal

pub returns : goal.returns
unfolding code_lines
returns c =
    let body = c.args.body.now in
    let fits : nat_le 4 (length body) ≡ true = le-leb 4 (length body) c.if-body-lt-CODE_LEN.false in
    let text : codes "  code" ++ (value_text (Signed errors) c.split_at.result.0.now ++ (10 ∷ after_code c.args.numbers c.args.message_type c.args.flags c.split_at.result.1.now)) ≡ code_lines c.args.numbers c.args.message_type c.args.flags body =
    rw fits (λ t. codes "  code" ++ (value_text (Signed errors) (c.split_at.ensures.front t) ++ (10 ∷ after_code c.args.numbers c.args.message_type c.args.flags (c.split_at.ensures.back t)))) in
    let e = c.in_ok-extend_from_slice.ensures in
    let first = added c.extend_from_slice.new.self _ _ (start c.args.out.now _) e.items e.capacity refl in
    let second = step _ first c.in_ok-push_value.ensures refl in
    let f = (c.in_ok-extend_from_slice-2).ensures in
    let third = added c.extend_from_slice-2.new.self _ _ second f.items f.capacity refl in
    as_text text (last c.push_after_code.result third c.push_after_code.ensures)
