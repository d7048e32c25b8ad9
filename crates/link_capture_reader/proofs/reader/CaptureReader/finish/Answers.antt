-- no frame is cut
use Rattle.std.proofs.Common.{◌≡◌, length, ap, eqb-true, List, [], ℕ, sym, subst, ◌∙◌}
use Rattle.std.proofs.lemmas.List.{nil_from_length}
use Rattle.link_capture_grammar.specs.Captures.{first_fault}
use Rattle.link_capture_reader.specs.Readers.{ReaderState, IsPendingAfter}
use Rattle.link_capture_grammar.specs.Body.{link_body}
use Rattle.link_capture_reader.proofs.Reading.{nothing_cut}
use Rattle.link_capture_reader.proofs.reader.CaptureReader.finish.Goals as goal

pub returns-then-is_empty-clause-ok : goal.returns-then-is_empty-clause-ok
returns-then-is_empty-clause-ok c = λ s h.
    let none : c.args.self.kept ≡ [] = nil_from_length c.args.self.kept (ap (λ (r : ReaderState). length r.kept) (sym c.self.view_is) ∙ sym c.self.inside.pending.kept.ok.0 ∙ eqb-true _ _ (sym c.if-is_empty.ensures)) in
    nothing_cut c.faults_are_at_frames.ensures c.args.self.limit s c.args.self.owed (subst (λ (kept : List ℕ). IsPendingAfter (first_fault link_body c.args.self.limit s) s kept c.args.self.owed) none h.rest)
