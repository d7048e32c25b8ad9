-- The numbers and texts of GENEVE.
use Rattle.std.specs.Prelude.{ℕ, List, [], ◌∷◌, codes, Option}
use Rattle.std.specs.Fmt.{decimal}
use Rattle.netlink_packet_core.specs.Named.{numbered_by, named_by}
use Rattle.link_info_types.specs.declared.geneve.GeneveDf.{GeneveDf}

-- The number and the display of a setting of the DF bit of a GENEVE tunnel.
abbrev pub geneve_df_row : GeneveDf → ℕ × List ℕ
geneve_df_row GeneveDf.Unset = (0, codes "unset")
geneve_df_row GeneveDf.Set = (1, codes "set")
geneve_df_row GeneveDf.Inherit = (2, codes "inherit")
geneve_df_row (GeneveDf.Other n) = (n, decimal n)

-- The variants of a setting of the DF bit of a GENEVE tunnel, except `Other`, in the order of their numbers.
abbrev pub listed_geneve_dfs : List GeneveDf
listed_geneve_dfs = GeneveDf.Unset ∷ GeneveDf.Set ∷ GeneveDf.Inherit ∷ []

-- The number of a setting of the DF bit of a GENEVE tunnel.
abbrev pub geneve_df_number : GeneveDf → ℕ
geneve_df_number v = (geneve_df_row v).0

-- The setting of the DF bit of a GENEVE tunnel with this number.
abbrev pub geneve_df_of : ℕ → GeneveDf
geneve_df_of n = numbered_by geneve_df_number listed_geneve_dfs GeneveDf.Other n

-- The display of a setting of the DF bit of a GENEVE tunnel.
abbrev pub geneve_df_text : GeneveDf → List ℕ
geneve_df_text v = (geneve_df_row v).1

-- The setting of the DF bit of a GENEVE tunnel whose display is this text, if there is one.
abbrev pub geneve_df_named : List ℕ → Option GeneveDf
geneve_df_named s = named_by geneve_df_text listed_geneve_dfs s
