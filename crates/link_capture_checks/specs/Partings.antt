-- How far the frames of one capture are legal and mean the same as those of another, legal one.
use Rattle.std.specs.Prelude.{◌≡◌, ℕ, ◌+◌, ◌≤◌, ◌<◌, ◌↔◌, List, length, drop}
use Rattle.link_capture_grammar.specs.Captures.{first_fault, shifted, IsLegal}
use Rattle.link_capture_grammar.specs.Laws.{LegalFrame}
use Rattle.link_capture_grammar.specs.Same.{SameFrame, SameCapture}
use Rattle.link_message_grammar.specs.Body.{link_body}

-- What remains to be compared: `rest` is legal, the first fault of b is that of its bytes from `offset` on, and `rest`
-- means the same as these bytes if and only if a means the same as b.
pub record ReducesComparison (limit : ℕ) (a b rest : List ℕ) (offset : ℕ) : Type 0 where
  pub near : offset ≤ length b + 3
  pub legal : IsLegal link_body limit rest
  pub fault : first_fault link_body limit b ≡ shifted offset (first_fault link_body limit (drop offset b))
  pub same : SameCapture link_body limit rest (drop offset b) ↔ SameCapture link_body limit a b

-- The first frames of a and b don't mean the same, the first frame of b isn't legal, or one of both captures has ended.
abbrev pub ComparisonStops : ℕ → List ℕ → List ℕ → Type 0
ComparisonStops limit a b = 0 < length a → 0 < length b → LegalFrame link_body limit b → SameFrame link_body a b → ⊥
