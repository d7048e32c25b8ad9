-- Texts that are written to a sink.
use Rattle.std.specs.Prelude.{ℕ, List, [], ◌∷◌, ◌++◌}
use Rattle.std.proofs.Common.{Bor}
use Rattle.link_capture_reader.specs.States.{SinkState, IsReportedUnlessSinkFails}

-- One text was written, and then another.
abbrev pub ReportsBoth : SinkState → SinkState → List ℕ → List ℕ → Type 0
ReportsBoth before after first second = (between : SinkState) × IsReportedUnlessSinkFails before between first ×
    IsReportedUnlessSinkFails between after second

-- Texts, one after the other.
abbrev pub texts_joined : List (Bor (List ℕ)) → List ℕ
texts_joined [] = []
texts_joined (text ∷ more) = text.now ++ texts_joined more
