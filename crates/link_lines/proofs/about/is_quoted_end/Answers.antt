use Rattle.std.proofs.Common.{◌++◌, ◌+◌, sym, ap, ◌∙◌, bytes_eq, codes, drop, get_or}
use Rattle.link_lines_values.specs.Bytes.{escaped}
use Rattle.link_lines.specs.About.{quoted_end}
use Rattle.link_lines.proofs.QuotedWords.{other_start, same_start, shown_next}
use Rattle.link_lines.proofs.about.is_quoted_end.Goals as goal

pub returns-in-None : goal.returns-in-None
returns-in-None c =
    let word = c.args.word.now in
    let i = c.loop-byte.byte-index in
    let next = shown_next escaped (codes "\"\n") word i c.loop-byte-test.true in
    other_start c.loop-byte.rest.now (escaped (get_or word i 0)) (quoted_end (drop (i + 1) word)) c.in-None.ensures
    ∙ ap (λ t. bytes_eq c.loop-byte.rest.now t) (sym next)
    ∙ c.loop-byte.invariant

pub loop-byte-preserved : goal.loop-byte-preserved
loop-byte-preserved c =
    let word = c.args.word.now in
    let i = c.loop-byte.byte-index in
    let byte = escaped (get_or word i 0) in
    let next = shown_next escaped (codes "\"\n") word i c.loop-byte-test.true in
    sym (same_start byte c.in-Some.following.now (quoted_end (drop (i + 1) word)))
    ∙ ap (λ t. bytes_eq (byte ++ c.in-Some.following.now) t) (sym next)
    ∙ ap (λ s. bytes_eq s (quoted_end (drop i word))) (sym c.in-Some.ensures)
    ∙ c.loop-byte.invariant
