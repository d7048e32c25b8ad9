use Rattle.std.proofs.Common.{codes, sym, ◌∙◌}
use Rattle.std.specs.Prelude.{string_bytes}
use Rattle.std.proofs.lemmas.Slice.Eq.{bytes_eq-Decides}
use Rattle.link_capture_commands.proofs.Commands.{norm_arguments, same_arguments}
use Rattle.link_capture_commands.proofs.command.read_words.Goals as goal

pub returns-in_ok-read_last-in-len1-up-clause-some : goal.returns-in_ok-read_last-in-len1-up-clause-some
returns-in_ok-read_last-in-len1-up-clause-some c =
    norm_arguments string_bytes c.args.arguments.now c.norm-item.result c.in_ok-read_last-in-len1-up.field-0 c.in-len1-up.len_at_least c.norm-item.is
    (sym c.as_str.ensures.value ∙ (bytes_eq-Decides c.as_str.result.now (codes "norm")).0 (sym c.if-eq.ensures))
    c.in_ok-read_last-in-len1-up.ensures.some

pub returns-in_ok-read_last-in-len3-up-clause-some : goal.returns-in_ok-read_last-in-len3-up-clause-some
returns-in_ok-read_last-in-len3-up-clause-some c =
    same_arguments string_bytes c.args.arguments.now c.same-item.result c.first-item.result c.second-item.result _ _ c.in_ok-read_last-in-len3-up.field-0
    c.in-len3-up.len_at_least c.same-item.is c.first-item.is c.second-item.is
    (sym c.as_str-2.ensures.value ∙ (bytes_eq-Decides c.as_str-2.result.now (codes "same")).0 (sym c.if-eq-2.ensures))
    c.as_str-in-len3-up.ensures.value c.as_str-in-len3-up-2.ensures.value
    c.in_ok-read_last-in-len3-up.ensures.some
