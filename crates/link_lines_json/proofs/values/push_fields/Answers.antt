use Rattle.std.proofs.Common.{List, ℕ, refl, sym, ◌∙◌, append_assoc}
use Rattle.link_lines_values.proofs.Appending.{step}
use Rattle.link_lines_json.specs.Tokens.{TermText, term_text, terms}
use Rattle.link_lines_json.specs.Values.{field_json, separator}
use Rattle.link_lines_json.proofs.Steps.{fields_step}
use Rattle.link_lines_json.proofs.values.push_fields.Goals as goal

pub loop-name-preserved : goal.loop-name-preserved
loop-name-preserved c =
    let name : TermText = term_text c.in-Some.name in
    let value : TermText = term_text c.in-Some-split_term.value in
    let before : List ℕ = separator c.loop-name.is_after in
    let field : List ℕ = field_json name value in
    let more : List TermText = terms c.in-Some-split_term.rest.now in
    let next = fields_step c.loop-name.is_after name value _ _ more c.in-Some.ensures.some c.in-Some-split_term.ensures.some in
    let separated = step _ c.loop-name.invariant c.in_ok-push_separator.ensures (sym (append_assoc before field _) ∙ sym next) in
    step _ separated c.in_ok-push_field.ensures refl
