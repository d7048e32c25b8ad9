-- Captures that follow others.
use Rattle.std.specs.Prelude.{◌≡◌, ◌↔◌, ℕ, List, ◌++◌}
use Rattle.link_capture_grammar.specs.Captures.{texts, IsLegal}
use Rattle.link_capture_grammar.specs.Body.{link_body}

-- For every b, the capture a followed by b is legal if and only if b is, and its texts are those of both joined.
abbrev pub LeavesRestIndependent : ℕ → List ℕ → Type 0
LeavesRestIndependent limit a = (b : List ℕ) →
    (IsLegal link_body limit (a ++ b) ↔ IsLegal link_body limit b) ×
    (texts link_body limit (a ++ b) ≡ texts link_body limit a ++ texts link_body limit b)
