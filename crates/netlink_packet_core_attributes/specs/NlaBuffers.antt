-- The storage of an `NlaBuffer`.
use Rattle.std.specs.Prelude.{ℕ, List}
use Rattle.netlink_packet_core_attributes.specs.declared.nla_buffer.NlaBuffer.{NlaBuffer}

-- The storage beneath a view.
abbrev pub storage : {T : Type 0} → NlaBuffer T → T
storage view = view.buffer

-- The view of some storage.
abbrev pub view_of : {T : Type 0} → T → NlaBuffer T
view_of buffer = record { buffer = buffer }

-- The view once the bytes w are written into its storage from offset 4 on.
abbrev pub with_value : {T : Type 0} → (T → ℕ → List ℕ → T) → NlaBuffer T → List ℕ → NlaBuffer T
with_value with_part view w = view_of (with_part (storage view) 4 w)
