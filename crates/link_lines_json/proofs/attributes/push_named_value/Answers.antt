use Rattle.std.proofs.Common.{ap, ◌∙◌}
use Rattle.link_lines_parts.specs.Names.{is_among}
use Rattle.link_lines_values.proofs.Appending.{as_text}
use Rattle.link_lines_json.specs.Attributes.{value_or_several}
use Rattle.link_lines_json.specs.Names.{bytes_names}
use Rattle.link_lines_json.specs.Tokens.{term_text, terms}
use Rattle.link_lines_json.proofs.BytesOrNumbers.{first_value}
use Rattle.link_lines_json.proofs.attributes.push_named_value.Goals as goal

pub returns : goal.returns
returns c =
    let term = term_text c.args.term in
    let more = terms c.args.rest.now in
    as_text (ap (λ b. value_or_several b term more) c.is_bytes_like_number-is_bytes.ensures ∙ first_value (is_among bytes_names c.args.name.now) term more) c.push_value_or_several.ensures
