-- Messages with equal texts are equal.
use Rattle.std.specs.Prelude.{◌≡◌, true}
use Rattle.link_message.specs.declared.message.LinkMessage.{LinkMessage}
use Rattle.link_message.specs.LinkMessages.{link_message_text, link_message_names_row}
use Rattle.link_message.specs.contracts.message.LinkMessagePartialEq.TheImpl as equality

-- Two messages of one address family, whose values are the variants that their rows name, are equal by `==` if they are
-- written as the same bytes.
abbrev pub EqualTextsMeanEqualMessages : Type 0
EqualTextsMeanEqualMessages =
    (m n : LinkMessage) → m.header.interface_family ≡ n.header.interface_family →
    link_message_names_row m → link_message_names_row n →
    link_message_text m ≡ link_message_text n → (equality.ghosts).eq m n ≡ true
