use Rattle.std.proofs.Common.{◌≡◌, ◌++◌, [], take, drop, length, ap, sym, ◌∙◌, length-drop, arith, rules}
use Rattle.std.proofs.lemmas.List.{length-take}
use Rattle.netlink_packet_core_grammar.specs.Attributes.{nla_align}
use Rattle.link_lines_values.proofs.Appending.{done, step}
use Rattle.link_lines_texts.proofs.AppendingWith.{failed_with, spared, whole}
use Rattle.link_lines_texts.specs.Captures.{shown_lines, text_lines}
use Rattle.link_lines.specs.MessageLines.{choice_of}
use Rattle.link_lines.specs.Options.{selection_of}
use Rattle.link_lines.proofs.lines.push_lines.Goals as goal

pub loop-size-preserved : goal.loop-size-preserved
loop-size-preserved c =
    let ch = choice_of (selection_of c.args.options.now) in
    let rest = c.loop-size.rest.now in
    let n = c.in-Some.size in
    let next = ap (λ z. shown_lines ch (take n rest) ++ text_lines ch z) c.after_padding-rest.ensures
    ∙ ap (λ m. shown_lines ch (take m rest) ++ text_lines ch (drop (nla_align m) rest)) c.in-Some.ensures.some.1
    ∙ sym (c.lines_unfold_by_frames.ensures.frame ch rest c.in-Some.ensures.some.0) in
    record {
      appends = step _ c.loop-size.invariant.appends (whole c.in_ok-push_shown.ensures) next;
      within = omega (arith, ap length c.after_padding-rest.ensures, length-drop (nla_align n) rest, c.loop-size.invariant.within);
    }

pub returns-in_err-push_shown : goal.returns-in_err-push_shown
returns-in_err-push_shown c =
    let ch = choice_of (selection_of c.args.options.now) in
    let rest = c.loop-size.rest.now in
    let n = c.in-Some.size in
    let next = ap (λ m. shown_lines ch (take m rest) ++ text_lines ch (drop (nla_align m) rest)) c.in-Some.ensures.some.1
    ∙ sym (c.lines_unfold_by_frames.ensures.frame ch rest c.in-Some.ensures.some.0) in
    failed_with _ _ _ _ _ (omega (arith, length-take n rest, c.loop-size.invariant.within)) c.from_residual.ensures.0 c.loop-size.invariant.appends c.in_err-push_shown.ensures next

pub returns : goal.returns
returns c =
    let none : text_lines (choice_of (selection_of c.args.options.now)) c.loop-size.rest.now ≡ [] = search (rules, c.lines_unfold_by_frames.ensures.none) in
    spared _ _ (done _ c.loop-size.invariant.appends none)
