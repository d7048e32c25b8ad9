-- The measure of a body.
use Rattle.std.specs.Prelude.{ℕ, ◌≡◌, List, length}
use Rattle.attribute_tables_grammar.specs.Rules.{Rule}
use Rattle.link_message_checks.specs.declared.message.BodyMeasure.{BodyMeasure}

-- The numbers of a measure are those of the canonical text.
pub record IsBodyMeasure (r : Rule) (bytes : List ℕ) (m : BodyMeasure) : Type 0 where
  pub text_len : m.text_len ≡ length (r.canonical bytes)
  pub attributes : m.attributes ≡ r.attributes bytes
  pub fits : m.fits ≡ r.fits bytes
  pub empty_ports : m.empty_ports ≡ r.empty_ports bytes
