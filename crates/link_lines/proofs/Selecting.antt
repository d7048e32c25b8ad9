-- The lines of a whole capture that are selected.
use Rattle.std.proofs.Common.{◌≡◌, ◌≢◌, ℕ, ◌+◌, ◌<◌, inl, inr, Bool, true, List, [], ◌++◌, length, drop, Option, None, Some, Result, Ok, Err, refl, sym, ap, subst, ◌∙◌, arith, append-nil}
use Rattle.std.specs.Prelude.{IfErr, OnOk}
use Rattle.std.proofs.lemmas.List.{drop_all, length-drop}
use Rattle.link_capture_grammar.specs.Captures.{IsLegal, IsOfFrames, first_fault}
use Rattle.link_capture_grammar.specs.Laws.{FaultsAreAtFrames}
use Rattle.link_capture_grammar.specs.declared.fault.FaultKind.{FaultKind}
use Rattle.link_capture_grammar.specs.declared.fault.FaultKind.TheVariants.{Memory}
use Rattle.link_message_grammar.specs.Body.{link_body}
use Rattle.link_capture_reader.specs.Readers.{IsFrameOffsetOf}
use Rattle.link_capture_refusals.specs.RefusalViews.{optional_found}
use Rattle.link_lines.specs.MessageLaws.{FirstFaultsAreReported, MessagesUnfold}
use Rattle.link_lines.specs.MessageLines.{Selection, lines_of_messages, shown}
use Rattle.link_lines.specs.Messages.{Message, Report, first_report, messages, messages_at}
use Rattle.link_lines.specs.Outcomes.{IsToBeShown, RunsOutAt}
use Rattle.link_lines.specs.Refused.{reported_refusal}
use Rattle.link_lines.specs.Walks.{Ends, IsJudged, Passes, last_report, or_else, reported_by}
use Rattle.link_lines.specs.declared.messages.Judgement.TheVariants as J
use Rattle.link_lines.specs.declared.refused.ShowFault.{ShowFault}
use Rattle.link_lines.proofs.Passing.{last_there, lines_of_none}
use Rattle.link_lines.proofs.Reaching.{concluded, first_reported, nothing_reported, reached}

-- ---- out of memory

-- The first message is accepted, so it is shown.
pub accepted_shown : (k : Bool) (limit : ℕ) (c text : List ℕ) (n : ℕ) → IsJudged limit c text (J.Accepted n) → IsToBeShown k limit c
accepted_shown k limit c text n e = inl ((n, text), e)

-- Messages with a fault of their body are shown, and the first is one.
pub faulty_shown : (k : Bool) (limit : ℕ) (c text : List ℕ) (kind : FaultKind) (n : ℕ) → k ≡ true → IsJudged limit c text (J.Faulty kind n) → IsToBeShown k limit c
faulty_shown k limit c text kind n goes e = inr (goes, (kind, e.0, e.1))

-- Memory ran out for a message of a walk over the whole capture.
pub runs_out : (o : Selection) (limit : ℕ) (c old new : List ℕ) (at : ℕ) (before now : Option Report) → Passes o limit 0 c 0 at old new before now → at < length c → IsToBeShown o.keep_going limit (drop at c) → (w : List ℕ) × RunsOutAt o limit c w at × (new ≡ old ++ w)
runs_out o limit c old new at before now passes inside shown =
    let k = o.keep_going in
    let ms = passes.messages in (
      lines_of_messages o ms,
      (
        record {
          inside = inside;
          before = ms;
          all = reached k limit c ms 0 at c passes.between ∙ ap (λ n. ms ++ messages_at k limit n (drop at c)) (omega arith);
          goes_on = passes.goes_on;
          written = refl;
        },
        shown,
      ),
      passes.lines,
    )

-- ---- the end of the walk

-- The messages after the end of a walk: none, or the last one.
record IsEnd (o : Selection) (at : ℕ) (last : Option FaultKind) (c : List ℕ) (tail : List Message) : Type 0 where
  no_lines : lines_of_messages o tail ≡ []
  report : first_report tail ≡ last_report at last c

ended : MessagesUnfold → (o : Selection) (limit start to : ℕ) (c : List ℕ) (last : Option FaultKind) → Ends o.keep_going limit c to last → IsEnd o (start + to) last (drop to c) (messages_at o.keep_going limit (start + to) (drop to c))
ended go o limit start to c None end =
    let none : messages_at o.keep_going limit (start + to) (drop to c) ≡ [] = ap (messages_at o.keep_going limit (start + to)) (drop_all to c end) ∙ go.none o.keep_going limit (start + to) in
    record { no_lines = ap (lines_of_messages o) none ∙ lines_of_none o; report = ap first_report none }
ended go o limit start to c (Some kind) end =
    let last = last_there go o limit (start + to) (drop to c) kind (omega (arith, end.0, length-drop to c)) end.1 in
    record { no_lines = last.no_lines; report = last.report }

-- All lines that are selected were appended, and the first report is that of the walk or of the message at its end.
pub record IsShownWhole (o : Selection) (limit : ℕ) (c old new : List ℕ) (found : Option Report) (to : ℕ) (last : Option FaultKind) : Type 0 where
  pub lines : new ≡ old ++ shown o limit c
  pub report : first_report (messages o.keep_going limit c) ≡ or_else found (last_report to last (drop to c))

pub shown_whole : MessagesUnfold → (o : Selection) (limit to : ℕ) (c old new : List ℕ) (found : Option Report) (last : Option FaultKind) → Passes o limit 0 c 0 to old new None found → Ends o.keep_going limit c to last → IsShownWhole o limit c old new found to last
shown_whole go o limit to c old new found last passes ends =
    let ms = passes.messages in
    let tail = messages_at o.keep_going limit (0 + to) (drop to c) in
    let conclusion = concluded o limit c ms tail (reached o.keep_going limit c ms 0 to c passes.between) passes.goes_on in
    let end = ended go o limit 0 to c last ends in
    record {
      lines = passes.lines ∙ ap (λ x. old ++ x) (sym (conclusion.lines ∙ ap (λ x. lines_of_messages o ms ++ x) end.no_lines ∙ append-nil (lines_of_messages o ms)));
      report =
          conclusion.report ∙ ap (λ x. or_else x (first_report tail)) (sym passes.reports) ∙ ap (or_else found) end.report
          ∙ ap (λ n. or_else found (last_report n last (drop to c))) (omega arith);
    }

-- ---- the result

module _ (law : FirstFaultsAreReported) (frames : FaultsAreAtFrames link_body) (o : Selection) (limit : ℕ) (c old new : List ℕ) (lines : new ≡ old ++ shown o limit c) where
  pub legal_shown : (r : Result (Unit {0}) ShowFault) → first_report (messages o.keep_going limit c) ≡ reported_by r → OnOk r (IsLegal link_body limit c × (new ≡ old ++ shown o limit c))
  legal_shown (Ok u) e = (nothing_reported law o.keep_going limit c e, lines)
  legal_shown (Err x) e = tt

  first_of : (x : ShowFault) → first_report (messages o.keep_going limit c) ≡ reported_by (Err x) → (first_fault link_body limit c ≡ Some x.fault) × (optional_found x.refusal ≡ reported_refusal c x.fault.kind x.fault.offset)
  first_of x e = first_reported law o.keep_going limit c (x.fault, optional_found x.refusal) e

  pub fault_shown : (r : Result (Unit {0}) ShowFault) → first_report (messages o.keep_going limit c) ≡ reported_by r → IfErr r (λ x. x.fault.kind ≢ Memory → (first_fault link_body limit c ≡ Some x.fault) × (new ≡ old ++ shown o limit c))
  fault_shown (Ok u) e = tt
  fault_shown (Err x) e = λ m. ((first_of x e).0, lines)

  pub refusal_shown : (r : Result (Unit {0}) ShowFault) → first_report (messages o.keep_going limit c) ≡ reported_by r → IfErr r (λ x. optional_found x.refusal ≡ reported_refusal c x.fault.kind x.fault.offset)
  refusal_shown (Ok u) e = tt
  refusal_shown (Err x) e = (first_of x e).1

  pub fault_at_frame : (r : Result (Unit {0}) ShowFault) → first_report (messages o.keep_going limit c) ≡ reported_by r → IfErr r (λ x. IsFrameOffsetOf c x.fault.offset)
  fault_at_frame (Ok u) e = tt
  fault_at_frame (Err x) e = let f = frames limit c x.fault (first_of x e).0 in (f.0, f.1)

  pub memory_sufficed : (r : Result (Unit {0}) ShowFault) → first_report (messages o.keep_going limit c) ≡ reported_by r → IfErr r (λ x. x.fault.kind ≡ Memory → (w : List ℕ) × RunsOutAt o limit c w x.fault.offset × (new ≡ old ++ w))
  memory_sufficed (Ok u) e = tt
  memory_sufficed (Err x) e = λ m. absurd (subst IsOfFrames m (frames limit c x.fault (first_of x e).0).2)
