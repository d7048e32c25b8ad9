-- Laws of the texts of a capture.
use Rattle.std.specs.Prelude.{◌≡◌, ◌≤◌, ◌*◌, ◌%◌, ℕ, List, length}
use Rattle.link_capture_grammar.specs.Captures.{texts, IsLegal}
use Rattle.link_capture_grammar.specs.Same.{SameCapture}
use Rattle.link_capture_reader.specs.Joined.{LeavesRestIndependent}
use Rattle.link_capture_grammar.specs.Body.{link_body}

-- The laws of the texts of c.
pub record HasLawfulTexts (limit : ℕ) (c : List ℕ) : Type 0 where
  -- they are legal, and already canonical
  pub legal : IsLegal link_body limit (texts link_body limit c)
  pub canonical : texts link_body limit (texts link_body limit c) ≡ texts link_body limit c
  -- a legal capture and its normal text mean the same
  pub same : IsLegal link_body limit c → SameCapture link_body limit c (texts link_body limit c)
  -- they are at most 77 times as long as c
  pub small : length (texts link_body limit c) ≤ 77 * length c
  -- bytes that follow a legal capture whose size is a multiple of 4 are judged and written independently
  pub joined : IsLegal link_body limit c → length c % 4 ≡ 0 → LeavesRestIndependent limit c
