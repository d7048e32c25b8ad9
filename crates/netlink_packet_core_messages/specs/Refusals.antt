-- Why a frame is rejected.
use Rattle.std.specs.Prelude.{ℕ, ◌≤◌, List, Bool}
use Rattle.netlink_packet_core_numbers.specs.Errors.{is_memory}
use Rattle.netlink_packet_core_messages.specs.declared.frame_error.FrameError.{FrameError}
use Rattle.netlink_packet_core_messages.specs.declared.frame_error.FrameError.TheVariants.{Frame, Inner}

-- The error is out of memory.
abbrev pub is_out_of_memory : {E : Type 0} → (E → Bool) → FrameError E → Bool
is_out_of_memory inner_is_memory (Frame e) = is_memory e
is_out_of_memory inner_is_memory (Inner e) = inner_is_memory e

-- The guarantee of an error for a body of type t: an error of the protocol has the protocol's guarantee; others occur
-- only for control messages, the types 1 to 4.
abbrev pub Determines : {E : Type 0} → (E → ℕ → List ℕ → Type 0) → FrameError E → ℕ → List ℕ → Type 0
Determines inner_determines (Frame e) t b = (1 ≤ t) × (t ≤ 4)
Determines inner_determines (Inner e) t b = inner_determines e t b
