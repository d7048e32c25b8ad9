use Rattle.std.proofs.Common.{◌≡◌, ◌++◌, ◌∷◌, [], Ok, ap, ◌∙◌, rules}
use Rattle.std.specs.Prelude.{codes}
use Rattle.link_capture_quirks.specs.CaptureQuirks.{items_left}
use Rattle.linkshow_program.specs.Runs.{note_text, notes_text}
use Rattle.linkshow_program.proofs.NotesWritten.{noted-none, noted-more, noted-failed}
use Rattle.linkshow_program.proofs.notes.report_notes.Goals as goal

pub notes-init : goal.notes-init
notes-init g c = record {
  can = tt;
  finite = tt;
  noted = noted-none _ c.quirks-left.result.quirks_left c.quirks-left.result.fault _ (ap notes_text c.quirks-left.ensures.quirks_left);
}

pub returns-then-not-report_text : goal.returns-then-not-report_text
returns-then-not-report_text g c =
    let line : c.as_str-in-notes.result.now ≡ note_text c.in-Some-Ok.found = c.as_str-in-notes.ensures.value ∙ c.note.ensures ∙ ap (λ z. codes "note: " ++ (z ++ 10 ∷ [])) (c.as_str.ensures.value ∙ c.text.ensures.text) in
    let found : c.in-Some-Ok.field-0 ≡ Ok c.in-Some-Ok.found = search rules in
    let steps : items_left c.notes.left ≡ Ok c.in-Some-Ok.found ∷ items_left c.next.new.self = c.in-Some-Ok.ensures.steps ∙ ap (λ z. z ∷ items_left c.next.new.self) found in
    noted-failed _ _ _ _ _ _ _ c.in-Some-Ok.found _ c.notes.invariant.noted steps line c.if-not-report_text.true c.report_text.ensures

pub notes-preserved : goal.notes-preserved
notes-preserved g c =
    let line : c.as_str-in-notes.result.now ≡ note_text c.in-Some-Ok.found = c.as_str-in-notes.ensures.value ∙ c.note.ensures ∙ ap (λ z. codes "note: " ++ (z ++ 10 ∷ [])) (c.as_str.ensures.value ∙ c.text.ensures.text) in
    let found : c.in-Some-Ok.field-0 ≡ Ok c.in-Some-Ok.found = search rules in
    let steps : items_left c.notes.left ≡ Ok c.in-Some-Ok.found ∷ items_left c.next.new.self = c.in-Some-Ok.ensures.steps ∙ ap (λ z. z ∷ items_left c.next.new.self) found in
    record {
      can = tt;
      finite = tt;
      noted = noted-more _ _ _ _ _ _ _ c.in-Some-Ok.found _ c.notes.invariant.noted steps line c.if-not-report_text.false c.report_text.ensures;
    }
