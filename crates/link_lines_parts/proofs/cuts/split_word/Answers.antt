use Rattle.std.proofs.Common.{◌+◌, ap, sym, ◌∙◌, drop, arith}
use Rattle.std.specs.List.{prefix_len}
use Rattle.link_lines_parts.specs.Lines.{is_in_word}
use Rattle.link_lines_parts.proofs.FirstParts.{words_next}
use Rattle.link_lines_parts.proofs.cuts.split_word.Goals as goal

pub returns-clause-some : goal.returns-clause-some
returns-clause-some c =
    let cut = c.in-Some.ensures.cases.0 in
    let size = ap (λ n. 1 + n) (c.word_len.ensures ∙ ap (λ t. prefix_len is_in_word t) (sym (ap (λ t. drop 1 t) cut))) in
    let e = words_next c.args.line.now (1 + c.word_len.result) (omega (arith, c.in-Some.ensures.cases.1)) size in
    cc (e, c.split_at.ensures.front, c.split_at.ensures.back)
