-- One more message is shown.
use Rattle.std.proofs.Common.{◌+◌, sym, ap, subst, refl, arith, length}
use Rattle.std.proofs.lemmas.List.{length-drop, take_rest}
use Rattle.link_lines.specs.Options.{selection_of}
use Rattle.link_lines.specs.Walks.{Passes, report_in}
use Rattle.link_lines.proofs.Passing.{passes_none}
use Rattle.link_lines.proofs.Stepping.{step_fits, step_passes}
use Rattle.link_lines.proofs.messages.push_messages.Goals as goal

pub messages-init : goal.messages-init
messages-init c = record { passes = passes_none _ _ _ _ _ _ _; bound = omega (arith, c.requires.near); frame_start = refl }

pub messages-preserved : goal.messages-preserved
messages-preserved c =
    let bytes = c.args.bytes.now in
    let len = c.messages.len in
    let rest = take_rest bytes len in
    let fits = step_fits (selection_of c.args.options.now) _ _ _ _ _ (report_in c.messages.found) (report_in c.push_message.new.found) _ c.in-Next.size c.in-Next.is c.in-Ok.ensures.ok in
    let size = c.nla_align-len.ensures in
    record {
      passes = subst (λ n. Passes (selection_of c.args.options.now) c.args.limit c.args.start bytes c.args.from (len + n) c.args.out.now.items c.push_message.new.out.items (report_in c.args.found.now) (report_in c.push_message.new.found)) (sym size) (step_passes _ _ _ bytes _ _ len _ _ _ _ _ _ _ _ c.in-Next.size c.messages.invariant.passes (omega (arith, c.messages-test.true)) rest refl c.in-Next.is c.in-Ok.ensures.ok);
      bound = omega (arith, fits, size, ap length rest, length-drop len bytes);
      frame_start = omega (arith, c.messages.invariant.frame_start, size);
    }
