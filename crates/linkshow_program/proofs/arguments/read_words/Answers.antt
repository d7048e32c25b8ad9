use Rattle.std.proofs.Common.{codes, sym, ◌∙◌}
use Rattle.std.specs.Prelude.{string_bytes}
use Rattle.std.proofs.lemmas.Slice.Eq.{bytes_eq-Decides}
use Rattle.linkshow_program.proofs.ArgumentsAsked.{one_argument}
use Rattle.linkshow_program.proofs.arguments.read_words.Goals as goal

pub returns-in-len1-clause-asked : goal.returns-in-len1-clause-asked
returns-in-len1-clause-asked c =
    (c.as_str.result.now, one_argument string_bytes c.args.arguments.now c.word-item.result _ c.in-len1.len_at_least c.in-len1.len_below c.word-item.is (sym c.as_str.ensures.value), sym c.if-is_help.ensures)

pub returns-in-len1-2-clause-asked : goal.returns-in-len1-2-clause-asked
returns-in-len1-2-clause-asked c =
    one_argument string_bytes c.args.arguments.now c.word-item-then-arguments-lt2.result _ c.in-len1.len_at_least c.in-len1.len_below c.word-item-then-arguments-lt2.is
    (sym c.as_str-then-arguments-lt2.ensures.value ∙ (bytes_eq-Decides c.as_str-then-arguments-lt2.result.now (codes "--version")).0 (sym c.if-eq.ensures))
