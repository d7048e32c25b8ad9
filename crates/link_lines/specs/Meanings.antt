-- The lines of a capture depend only on its meaning.
use Rattle.std.specs.Prelude.{◌≡◌, ℕ, ◌%◌, List, ◌++◌, length, Vec}
use Rattle.link_capture_grammar.specs.Captures.{texts, IsLegal}
use Rattle.link_capture_grammar.specs.Same.{SameCapture}
use Rattle.link_lines_texts.specs.Captures.{Choice, lines}
use Rattle.link_lines.specs.MessageLines.{Selection, shown}
use Rattle.link_message_grammar.specs.Body.{link_body}
use Rattle.link_capture_grammar.specs.Laws.{IsLimit}

-- A buffer gained the lines of c that are selected.
abbrev pub GainsShown : {Y Z : Type 0} → Selection → ℕ → List ℕ → Vec ℕ Y → Vec ℕ Z → Type 0
GainsShown o limit c old new = new.items ≡ old.items ++ shown o limit c

-- Two captures are shown alike.
abbrev pub HaveEqualLines : Choice → ℕ → List ℕ → List ℕ → Type 0
HaveEqualLines o limit a b = lines o limit a ≡ lines o limit b

-- Whatever follows a capture is shown independently, after the capture's lines.
abbrev pub LeavesLinesIndependent : Choice → ℕ → List ℕ → Type 0
LeavesLinesIndependent o limit a = (b : List ℕ) → lines o limit (a ++ b) ≡ lines o limit a ++ lines o limit b

-- A capture is shown as its texts are, and as any capture that means the same. What follows a legal capture, whose size
-- is a multiple of 4, is shown independently.
pub record DependsOnMeaning (o : Choice) (limit : ℕ) (c : List ℕ) : Type 0 where
  pub normal : HaveEqualLines o limit (texts link_body limit c) c
  pub same : (other : List ℕ) → SameCapture link_body limit c other → HaveEqualLines o limit other c
  pub joined : IsLegal link_body limit c → length c % 4 ≡ 0 → LeavesLinesIndependent o limit c

-- `DependsOnMeaning` holds of every capture.
abbrev pub LinesDependOnMeaning : Type 0
LinesDependOnMeaning = (choice : Choice) (limit : ℕ) (c : List ℕ) → IsLimit limit → DependsOnMeaning choice limit c
