use Rattle.std.proofs.Common.{◌≡◌, ◌++◌, ap, ◌∙◌, take, drop, flat_map}
use Rattle.link_lines_values.proofs.Appending.{failed, last, start, step}
use Rattle.link_lines_json.specs.Strings.{escaped}
use Rattle.link_lines_json.proofs.PlainText.{simple_first}
use Rattle.link_lines_json.proofs.strings.push_escaped_text.Goals as goal
use Rattle.link_lines_json.proofs.strings.push_escaped_text.Goals.{After-split_at}

parts : (c : After-split_at) → c.split_at.result.0.now ++ flat_map escaped c.split_at.result.1.now ≡ flat_map escaped c.args.text.now
parts c =
    let text = c.args.text.now in
    ap (λ w. w ++ flat_map escaped c.split_at.result.1.now) c.split_at.ensures.front
    ∙ ap (λ w. take c.simple_len.result text ++ flat_map escaped w) c.split_at.ensures.back
    ∙ ap (λ n. take n text ++ flat_map escaped (drop n text)) c.simple_len.ensures
    ∙ simple_first text

pub returns : goal.returns
returns c =
    let begun = step _ (start c.args.out.now _) c.in_ok-push_simple.ensures (parts (goal.at.returns c).After-split_at) in
    last c.push_escaped_bytes.result begun c.push_escaped_bytes.ensures

pub returns-in_err-push_simple : goal.returns-in_err-push_simple
returns-in_err-push_simple c =
    failed c.from_residual.result _ (flat_map escaped c.split_at.result.1.now) c.from_residual.ensures.0 (start c.args.out.now (flat_map escaped c.args.text.now)) c.in_err-push_simple.ensures (parts (goal.at.returns-in_err-push_simple c).After-split_at)
