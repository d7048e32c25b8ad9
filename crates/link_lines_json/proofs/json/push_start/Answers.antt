use Rattle.std.proofs.Common.{◌∷◌, refl, ap, ◌∙◌}
use Rattle.link_lines_values.proofs.Appending.{added, as_text, last, start}
use Rattle.link_lines_parts.specs.Lines.{first_word, without_newline}
use Rattle.link_lines_json.specs.Json.{typed_json}
use Rattle.link_lines_json.specs.Tokens.{terms}
use Rattle.link_lines_json.proofs.json.push_start.Goals as goal

pub returns : goal.returns
returns c =
    let e = c.in_ok-extend_from_slice.ensures in
    let begun = added c.extend_from_slice.new.self _ _ (start c.args.out.now _) e.items e.capacity refl in
    let text = ap (λ w. 123 ∷ typed_json w (terms c.without_newline.result.now)) c.first_parts-parts.ensures.word
    ∙ ap (λ t. 123 ∷ typed_json (first_word c.args.line.now) (terms t)) (c.without_newline.ensures ∙ ap without_newline c.first_parts-parts.ensures.rest) in
    as_text text (last c.push_typed.result begun c.push_typed.ensures)
