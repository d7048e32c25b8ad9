-- The numbers and texts of AMT.
use Rattle.std.specs.Prelude.{ℕ, List, [], ◌∷◌, codes, Option}
use Rattle.std.specs.Fmt.{decimal}
use Rattle.netlink_packet_core.specs.Named.{numbered_by, named_by}
use Rattle.link_info_types.specs.declared.amt.AmtMode.{AmtMode}

-- The number and the display of an AMT mode.
abbrev pub amt_mode_row : AmtMode → ℕ × List ℕ
amt_mode_row AmtMode.Gateway = (0, codes "gateway")
amt_mode_row AmtMode.Relay = (1, codes "relay")
amt_mode_row (AmtMode.Other n) = (n, decimal n)

-- The variants of an AMT mode, except `Other`, in the order of their numbers.
abbrev pub listed_amt_modes : List AmtMode
listed_amt_modes = AmtMode.Gateway ∷ AmtMode.Relay ∷ []

-- The number of an AMT mode.
abbrev pub amt_mode_number : AmtMode → ℕ
amt_mode_number v = (amt_mode_row v).0

-- The AMT mode with this number.
abbrev pub amt_mode_of : ℕ → AmtMode
amt_mode_of n = numbered_by amt_mode_number listed_amt_modes AmtMode.Other n

-- The display of an AMT mode.
abbrev pub amt_mode_text : AmtMode → List ℕ
amt_mode_text v = (amt_mode_row v).1

-- The AMT mode whose display is this text, if there is one.
abbrev pub amt_mode_named : List ℕ → Option AmtMode
amt_mode_named s = named_by amt_mode_text listed_amt_modes s
