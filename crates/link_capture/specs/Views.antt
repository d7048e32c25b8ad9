-- The values of the messages of a capture.
use Rattle.std.specs.Prelude.{ℕ, List}
use Rattle.link_message.specs.declared.message.LinkMessage.{LinkMessage}
use Rattle.link_message.specs.LinkMessages.{link_message_text}
use Rattle.link_capture.specs.declared.types.OtherMessage.{OtherMessage}
use Rattle.link_capture.specs.declared.types.ReadableLink.{ReadableLink}

-- The type of a message whose body is kept.
abbrev pub other_type : OtherMessage → ℕ
other_type m = m.message_type

-- The bytes of the body of a message whose body is kept.
abbrev pub other_bytes : OtherMessage → List ℕ
other_bytes m = m.bytes

-- The link message of a readable one.
abbrev pub readable_message : ReadableLink → LinkMessage
readable_message r = r.message

-- The bytes that a readable link message is written as.
abbrev pub readable_text : ReadableLink → List ℕ
readable_text r = link_message_text (readable_message r)
