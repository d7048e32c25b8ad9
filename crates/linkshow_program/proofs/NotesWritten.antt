-- The notes that remain during a walk over encoding quirks.
use Rattle.std.proofs.Common.{◌≡◌, ℕ, Bool, List, [], ◌∷◌, ◌++◌, true, false, Option, Some, None, Result, Ok, Err, refl, sym, ap, subst, ◌∙◌}
use Rattle.link_capture_grammar.specs.declared.fault.CaptureFault.{CaptureFault}
use Rattle.link_capture_reader.specs.States.{IsReported, SinkState, IsReportedUnlessSinkFails}
use Rattle.link_capture_quirks.specs.declared.quirk_at.QuirkAt.{QuirkAt}
use Rattle.link_capture_quirks.specs.CaptureQuirks.{quirks_then_fault}
use Rattle.linkshow_program.specs.Runs.{note_text, notes_text}
use Rattle.linkshow_program.proofs.Reporting.{Come, come_all, come_failed, come_more, come_none}

abbrev pub notes_of : List (Result QuirkAt CaptureFault) → List ℕ
notes_of [] = []
notes_of (Ok x ∷ rest) = note_text x ++ notes_of rest
notes_of (Err fault ∷ rest) = []

pub notes-reported : (xs : List QuirkAt) (fault : Option CaptureFault) → notes_of (quirks_then_fault xs fault) ≡ notes_text xs
notes-reported [] None = refl
notes-reported [] (Some fault) = refl
notes-reported (x ∷ xs) fault = ap (λ z. note_text x ++ z) (notes-reported xs fault)

-- A prefix of a text was written to a sink that didn't fail, and the remaining notes are the rest.
abbrev pub Noted : SinkState → SinkState → List (Result QuirkAt CaptureFault) → List ℕ → Type 0
Noted before now left text = Come before now (notes_of left) text

pub noted-none : (before : SinkState) (xs : List QuirkAt) (fault : Option CaptureFault) (text : List ℕ) → notes_text xs ≡ text → Noted before before (quirks_then_fault xs fault) text
noted-none before xs fault text e = subst (Come before before (notes_of (quirks_then_fault xs fault))) (notes-reported xs fault ∙ e) (come_none before (notes_of (quirks_then_fault xs fault)))

one-less : (left more : List (Result QuirkAt CaptureFault)) (line : List ℕ) (x : QuirkAt) → left ≡ Ok x ∷ more → line ≡ note_text x → notes_of left ≡ line ++ notes_of more
one-less left more line x e l = ap notes_of e ∙ ap (λ z. z ++ notes_of more) (sym l)

-- One more note was written.
pub noted-more : (before now next : SinkState) (left more : List (Result QuirkAt CaptureFault)) (text line : List ℕ) (x : QuirkAt) (r : Bool) → Noted before now left text → left ≡ Ok x ∷ more → line ≡ note_text x → r ≡ true → IsReported now next line r → Noted before next more text
noted-more before now next left more text line x r n e l b i = come_more before now next (notes_of left) line (notes_of more) text r n (one-less left more line x e l) b i

-- No note remains.
pub noted-all : (before now : SinkState) (left : List (Result QuirkAt CaptureFault)) (text : List ℕ) → Noted before now left text → notes_of left ≡ [] → IsReportedUnlessSinkFails before now text
noted-all before now left text n e = (true, come_all before now (notes_of left) text n e)

-- The sink failed inside a note.
pub noted-failed : (before now next : SinkState) (left more : List (Result QuirkAt CaptureFault)) (text line : List ℕ) (x : QuirkAt) (r : Bool) → Noted before now left text → left ≡ Ok x ∷ more → line ≡ note_text x → r ≡ false → IsReported now next line r → IsReportedUnlessSinkFails before next text
noted-failed before now next left more text line x r n e l b i = (false, come_failed before now next (notes_of left) line (notes_of more) text r n (one-less left more line x e l) b i)
