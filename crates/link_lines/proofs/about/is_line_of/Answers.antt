use Rattle.std.proofs.Common.{◌++◌, Some, None, sym, ap, ◌∙◌, bytes_eq}
use Rattle.std.proofs.lemmas.Bool.Decides.{Decides-eqb}
use Rattle.std.proofs.lemmas.Slice.Eq.{strip_prefix_is}
use Rattle.link_lines.specs.About.{quoted_end}
use Rattle.link_lines.proofs.QuotedWords.{other_start, same_start}
use Rattle.link_lines.proofs.about.is_line_of.Goals as goal

pub returns-in-None : goal.returns-in-None
returns-in-None c =
    other_start c.args.line.now c.args.start.now (quoted_end c.args.word.now)
    (strip_prefix_is Decides-eqb c.args.line.now c.args.start.now None c.in-None.ensures.cases)

pub returns-in-Some : goal.returns-in-Some
returns-in-Some c =
    let begins = strip_prefix_is Decides-eqb c.args.line.now c.args.start.now (Some c.in-Some.rest) c.in-Some.ensures.cases in
    c.is_quoted_end.ensures
    ∙ sym (same_start c.args.start.now c.in-Some.rest.now (quoted_end c.args.word.now))
    ∙ ap (λ s. bytes_eq s (c.args.start.now ++ quoted_end c.args.word.now)) (sym begins)
