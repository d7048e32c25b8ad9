-- The storage of a view of a frame or of a control message's body.
use Rattle.std.specs.Prelude.{ℕ}
use Rattle.netlink_packet_core_messages.specs.declared.buffer.MessageBuffer.{MessageBuffer}

-- The storage beneath a view.
abbrev pub storage : {T : Type 0} {h t : ℕ} → MessageBuffer T h t → T
storage view = view.buffer

-- The view of some storage.
abbrev pub view_of : {T : Type 0} {h t : ℕ} → T → MessageBuffer T h t
view_of buffer = record { buffer = buffer }
