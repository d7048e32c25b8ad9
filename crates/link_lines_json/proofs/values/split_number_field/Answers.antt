use Rattle.std.proofs.Common.{◌≡◌, ◌∷◌, ◌∙◌, true, drop, sym}
use Rattle.std.specs.List.{list_all, prefix_len}
use Rattle.link_lines_json.specs.Runs.{is_simple}
use Rattle.link_lines_json.specs.Tokens.{ends_term}
use Rattle.link_lines_json.specs.Values.{begins_with_equals_sign}
use Rattle.link_lines_json.proofs.NumberFields.{equals_sign_first, field_json, field_term, run_is_simple}
use Rattle.link_lines_json.proofs.values.split_number_field.Goals as goal

pub returns-then-ends_term-clause-term : goal.returns-then-ends_term-clause-term
returns-then-ends_term-clause-term c =
    let words = c.in-Some.words.now in
    let assigned = c.split_at.result.1.now in
    let value = c.without_first-value.result.now in
    let begins : begins_with_equals_sign assigned ≡ true = sym c.begins_with_equals_sign.ensures ∙ c.if-begins_with_equals_sign.true in
    let after_name : drop (prefix_len is_simple words) words ≡ 61 ∷ value = cc (c.simple_len.ensures, c.split_at.ensures.back, equals_sign_first assigned begins, c.without_first-value.ensures) in
    let ends : ends_term (drop (prefix_len is_simple value) value) ≡ true = cc (c.simple_len-2.ensures, c.split_at-2.ensures.back, c.ends_term.ensures, c.if-ends_term.true) in
    cc (field_term words value after_name ends, c.in-Some.ensures.cases.0, c.if-space-eq32.true, c.simple_len.ensures, c.split_at.ensures.front, c.simple_len-2.ensures, c.split_at-2.ensures.front, c.split_at-2.ensures.back)

pub returns-then-ends_term-clause-json : goal.returns-then-ends_term-clause-json
returns-then-ends_term-clause-json c =
    let name = c.split_at.result.0.now in
    let number = c.split_at-2.result.0.now in
    let simple : list_all is_simple name ≡ true = cc (run_is_simple c.in-Some.words.now, c.simple_len.ensures, c.split_at.ensures.front) in
    field_json name number simple (sym c.is_text_field.ensures ∙ c.if-not-is_text_field.true) (sym c.is_number.ensures ∙ c.if-is_number.true)
