use Rattle.link_lines_json.proofs.FirstTokens.{tokens_next}
use Rattle.link_lines_json.proofs.tokens.split_token.Goals as goal

pub returns-clause-some : goal.returns-clause-some
returns-clause-some c =
    let e = tokens_next c.in-Some.first.now c.in-Some.rest.now in
    cc (e, c.in-Some.ensures.cases.0, c.after.ensures, c.word_size.ensures, c.split_at.ensures.front, c.split_at.ensures.back)
