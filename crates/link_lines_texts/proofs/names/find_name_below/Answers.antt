use Rattle.std.proofs.Common.{sym, ap, ◌∙◌}
use Rattle.std.specs.Prelude.{option_map}
use Rattle.link_lines_raw.proofs.NameSearch.{found, in_rows, none_found}
use Rattle.link_lines_texts.specs.Format.{inside_of}
use Rattle.link_lines_texts.specs.NameSearch.{rows_at}
use Rattle.link_lines_texts.proofs.names.find_name_below.Goals as goal

pub returns-in-Some : goal.returns-in-Some
returns-in-Some c =
    let here = in_rows (λ b. b.now) inside_of c.args.word.now (rows_at c.loop-index.index) c.rows_at.result.now c.find_name_in.result c.rows_at.ensures.rows c.find_name_in.ensures in
    sym (found rows_at c.args.word.now c.in-Some.name.now c.loop-index.index c.args.count c.loop-index-test.true c.loop-index.invariant.before (sym here ∙ ap (option_map (λ b. b.now)) c.in-Some.is))

pub loop-index-preserved : goal.loop-index-preserved
loop-index-preserved c =
    let here = in_rows (λ b. b.now) inside_of c.args.word.now (rows_at c.loop-index.index) c.rows_at.result.now c.find_name_in.result c.rows_at.ensures.rows c.find_name_in.ensures in
    record { before = none_found rows_at c.args.word.now c.loop-index.index c.loop-index.invariant.before (sym here ∙ ap (option_map (λ b. b.now)) c.in_default.is) }
