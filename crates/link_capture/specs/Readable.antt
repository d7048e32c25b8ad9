-- Link messages that are read back equal from the bytes that they are written as.
use Rattle.std.specs.Prelude.{◌≡◌, ◌⊎◌, ℕ, ◌&&◌, Bool, true, false, List, Ok, bytes_eq, slice_index}
use Rattle.link_capture_grammar.specs.Bodies.{ruled_text}
use Rattle.link_message_grammar.specs.Body.{link_body}
use Rattle.link_message.specs.AddressFamilies.{address_family_of}
use Rattle.link_message.specs.declared.message.LinkMessage.{LinkMessage}
use Rattle.link_message.specs.LinkMessages.{link_message_text, link_message_fits, link_message_names_row}
use Rattle.link_message.specs.contracts.message.LinkMessagePartialEq.TheImpl as link_message_eq

-- What is known of a message that is read from a body with these bytes.
pub record IsReadFrom (bytes : List ℕ) (m : LinkMessage) : Type 0 where
  pub accepted : link_body.accepted bytes ≡ true
  pub family : m.header.interface_family ≡ address_family_of (slice_index bytes 0)
  pub text : link_message_text m ≡ link_body.canonical bytes
  pub is_row_variant : link_message_names_row m
  pub fits : link_message_fits m ≡ link_body.fits bytes

-- Whether two messages are equal by `==`.
abbrev pub equal_messages : LinkMessage → LinkMessage → Bool
equal_messages = (link_message_eq.ghosts).eq

-- The message n is equal to m, fits, and is written as the same bytes.
abbrev pub is_read_back_as : LinkMessage → LinkMessage → Bool
is_read_back_as m n = equal_messages n m &&
    (link_message_fits n && bytes_eq (link_message_text n) (link_message_text m))

-- The message fits, and the bytes that it is written as are accepted, already canonical and without empty ports, fit, and
-- are read as an equal message that is written as the same bytes. (`∥ P ∥₁` says that P holds, without a chosen n.)
pub record IsReadable (m : LinkMessage) : Type 0 where
  pub fits : link_message_fits m ≡ true
  pub text : ruled_text link_body (link_message_text m) ≡ Ok (link_message_text m)
  pub read_back : ∥ ((n : LinkMessage) × IsReadFrom (link_message_text m) n × (is_read_back_as m n ≡ true)) ∥₁

-- The bytes that a message is written as are refused, have ports that keep no entry, or are read as a message that isn't
-- equal, doesn't fit, or is written as other bytes.
abbrev pub IsNotReadBack : LinkMessage → Type 0
IsNotReadBack m =
    (link_body.accepted (link_message_text m) ≡ false)
    ⊎ (link_body.empty_ports (link_message_text m) ≡ true)
    ⊎ ((n : LinkMessage) × IsReadFrom (link_message_text m) n × (is_read_back_as m n ≡ false))
