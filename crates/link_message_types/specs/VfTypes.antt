-- The numbers of virtual functions.
use Rattle.std.specs.Prelude.{ℕ, List, [], ◌∷◌}
use Rattle.netlink_packet_core.specs.Named.{numbered_by}
use Rattle.link_message_types.specs.declared.vf.VfLinkState.{VfLinkState}

-- The number of a state.
abbrev pub vf_link_state_number : VfLinkState → ℕ
vf_link_state_number VfLinkState.Auto = 0
vf_link_state_number VfLinkState.Enable = 1
vf_link_state_number VfLinkState.Disable = 2
vf_link_state_number (VfLinkState.Other n) = n

-- The states with a variant of their own.
abbrev pub listed_vf_link_states : List VfLinkState
listed_vf_link_states = VfLinkState.Auto ∷ VfLinkState.Enable ∷ VfLinkState.Disable ∷ []

-- The state of a number.
abbrev pub vf_link_state_of : ℕ → VfLinkState
vf_link_state_of n = numbered_by vf_link_state_number listed_vf_link_states VfLinkState.Other n
