-- All lines that are selected are appended, or memory runs out.
use Rattle.std.proofs.Common.{◌≡◌, ◌++◌, ◌∙◌, ℕ, List, sym, subst}
use Rattle.link_capture_reader.specs.Readers.{IsFrameOffsetOf}
use Rattle.link_lines.specs.Messages.{first_report, messages}
use Rattle.link_lines.specs.Options.{selection_of}
use Rattle.link_lines.specs.Outcomes.{RunsOutAt}
use Rattle.link_lines.specs.Walks.{report_in, reported_by}
use Rattle.link_lines.proofs.Selecting.{IsShownWhole, fault_at_frame, fault_shown, legal_shown, memory_sufficed, refusal_shown, runs_out, shown_whole}
use Rattle.link_lines.proofs.whole.show_bytes.Goals as goal
use Rattle.link_lines.proofs.whole.show_bytes.Goals.{After-conclude}

whole : (c : After-conclude) → IsShownWhole (selection_of c.args.options.now) c.args.limit c.args.bytes.now c.args.out.now.items c.push_messages.new.out.items (report_in c.push_messages.new.found) c.in-Ok.walked.len c.in-Ok.walked.last
whole c = shown_whole c.messages_unfold.ensures _ _ _ _ _ _ _ _ c.in-Ok.ensures.passes c.in-Ok.ensures.ends

report : (c : After-conclude) → first_report (messages c.args.options.now.keep_going c.args.limit c.args.bytes.now) ≡ reported_by c.conclude.result
report c = (whole c).report ∙ sym c.conclude.ensures

pub returns-in-Ok-clause-legal : goal.returns-in-Ok-clause-legal
returns-in-Ok-clause-legal c =
    let at = (goal.at.returns-in-Ok-clause-legal c).After-conclude in
    legal_shown c.first_faults_are_reported.ensures c.faults_are_at_frames.ensures _ _ _ _ _ (whole at).lines c.conclude.result (report at)

pub returns-in-Ok-clause-fault : goal.returns-in-Ok-clause-fault
returns-in-Ok-clause-fault c =
    let at = (goal.at.returns-in-Ok-clause-fault c).After-conclude in
    fault_shown c.first_faults_are_reported.ensures c.faults_are_at_frames.ensures _ _ _ _ _ (whole at).lines c.conclude.result (report at)

pub returns-in-Ok-clause-refusal : goal.returns-in-Ok-clause-refusal
returns-in-Ok-clause-refusal c =
    let at = (goal.at.returns-in-Ok-clause-refusal c).After-conclude in
    refusal_shown c.first_faults_are_reported.ensures c.faults_are_at_frames.ensures _ _ _ _ _ (whole at).lines c.conclude.result (report at)

pub returns-in-Ok-clause-frame_start : goal.returns-in-Ok-clause-frame_start
returns-in-Ok-clause-frame_start c =
    let at = (goal.at.returns-in-Ok-clause-frame_start c).After-conclude in
    fault_at_frame c.first_faults_are_reported.ensures c.faults_are_at_frames.ensures _ _ _ _ _ (whole at).lines c.conclude.result (report at)

pub returns-in-Ok-clause-memory : goal.returns-in-Ok-clause-memory
returns-in-Ok-clause-memory c =
    let at = (goal.at.returns-in-Ok-clause-memory c).After-conclude in
    memory_sufficed c.first_faults_are_reported.ensures c.faults_are_at_frames.ensures _ _ _ _ _ (whole at).lines c.conclude.result (report at)

pub returns-clause-memory : goal.returns-clause-memory
returns-clause-memory c = λ m.
    let o = selection_of c.args.options.now in
    let old = c.args.out.now.items in
    let new = c.push_messages.new.out.items in
    let at = c.in-Err.offset in
    let memory = c.in-Err.ensures.memory in
    subst (λ e. (w : List ℕ) × RunsOutAt o c.args.limit c.args.bytes.now w e.fault.offset × (new ≡ old ++ w)) (sym c.fault_at.ensures)
    (runs_out o c.args.limit c.args.bytes.now old new at _ _ c.in-Err.ensures.passes memory.0 memory.1)

pub returns-clause-frame_start : goal.returns-clause-frame_start
returns-clause-frame_start c =
    let bad = c.in-Err.ensures in
    subst (λ e. IsFrameOffsetOf c.args.bytes.now e.fault.offset) (sym c.fault_at.ensures) (bad.memory.0, bad.frame_start)
