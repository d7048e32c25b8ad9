-- The law of quirks in normal texts, as the function of `laws` states it.
use Rattle.std.specs.Prelude.{◌≡◌, ℕ, List, []}
use Rattle.link_capture_grammar.specs.Captures.{texts}
use Rattle.link_capture_grammar.specs.Laws.{IsLimit}
use Rattle.link_capture_quirks.specs.CaptureQuirks.{capture_quirks}
use Rattle.link_message_grammar.specs.Body.{link_body}

-- The texts of any bytes have no quirk.
abbrev pub TextsHaveNoQuirk : Type 0
TextsHaveNoQuirk = (limit : ℕ) (c : List ℕ) → IsLimit limit → capture_quirks limit (texts link_body limit c) ≡ []
