-- The numbers and names of the states of links.
use Rattle.std.specs.Prelude.{ℕ, List, [], ◌∷◌, codes, Option}
use Rattle.std.specs.Fmt.{decimal}
use Rattle.netlink_packet_core.specs.Named.{numbered_by, named_by}
use Rattle.link_message_types.specs.declared.link_state.State.{State}

-- The number and the name of a state.
abbrev pub state_row : State → ℕ × List ℕ
state_row State.Unknown = (0, codes "UNKNOWN")
state_row State.NotPresent = (1, codes "NOTPRESENT")
state_row State.Down = (2, codes "DOWN")
state_row State.LowerLayerDown = (3, codes "LOWERLAYERDOWN")
state_row State.Testing = (4, codes "TESTING")
state_row State.Dormant = (5, codes "DORMANT")
state_row State.Up = (6, codes "UP")
state_row (State.Other n) = (n, decimal n)

-- The states with a variant of their own.
abbrev pub listed_states : List State
listed_states =
    State.Unknown ∷
    State.NotPresent ∷
    State.Down ∷
    State.LowerLayerDown ∷
    State.Testing ∷
    State.Dormant ∷
    State.Up ∷
    []

-- The number of a state.
abbrev pub state_number : State → ℕ
state_number v = (state_row v).0

-- The state of a number.
abbrev pub state_of : ℕ → State
state_of n = numbered_by state_number listed_states State.Other n

-- The display of a state.
abbrev pub state_text : State → List ℕ
state_text v = (state_row v).1

-- The state with a name.
abbrev pub state_named : List ℕ → Option State
state_named s = named_by state_text listed_states s
