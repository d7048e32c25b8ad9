use Rattle.std.proofs.Common.{sym, ap, ◌∙◌}
use Rattle.link_lines_json.specs.Tokens.{terms, terms_of}
use Rattle.link_lines_json.proofs.FirstTokens.{alone}
use Rattle.link_lines_json.proofs.tokens.split_term.Goals as goal

pub returns-then-not-begins_in_brackets-clause-some : goal.returns-then-not-begins_in_brackets-clause-some
unfolding terms
returns-then-not-begins_in_brackets-clause-some c =
    ap terms_of c.in-Some.ensures.some
    ∙ alone c.in-Some.word.now c.in-Some.rest.now (sym c.begins_in_brackets.ensures ∙ c.if-not-begins_in_brackets.true)
