-- What is written of a capture: its text, or what is shown of it.
use Rattle.std.specs.Prelude.{ℕ, Bool, false, List, Option}
use Rattle.link_capture_grammar.specs.declared.fault.CaptureFault.{CaptureFault}
use Rattle.link_capture_grammar.specs.Captures.{first_fault, shifted, texts}
use Rattle.link_lines.specs.MessageLines.{Selection}
use Rattle.link_lines.specs.Messages.{last_fault, messages_at}
use Rattle.link_lines.specs.Pieces.{shown_at}
use Rattle.link_capture_grammar.specs.Body.{link_body}

-- The texts of messages, or lines of them.
pub data Form : Type 0 where
  Text : Form
  Lines : Selection → Form

-- Whether messages with a fault of their body are written too, and those after them.
abbrev pub keeps_going : Form → Bool
keeps_going Text = false
keeps_going (Lines o) = o.keep_going

-- What is written of bytes at an offset of a capture.
abbrev pub written_at : Form → ℕ → ℕ → List ℕ → List ℕ
written_at Text limit offset c = texts link_body limit c
written_at (Lines o) limit offset c = shown_at o limit offset c

-- The fault at which writing stops in bytes at an offset of a capture, with its offset there.
abbrev pub stop_at : Form → ℕ → ℕ → List ℕ → Option CaptureFault
stop_at Text limit offset c = shifted offset (first_fault link_body limit c)
stop_at (Lines o) limit offset c = last_fault (messages_at o.keep_going limit offset c)
