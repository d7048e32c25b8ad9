-- The numbers and texts of GTP.
use Rattle.std.specs.Prelude.{ℕ, List, [], ◌∷◌, ◌++◌, codes}
use Rattle.std.specs.Fmt.{decimal}
use Rattle.netlink_packet_core.specs.Named.{numbered_by}
use Rattle.link_info_types.specs.declared.gtp.GtpRole.{GtpRole}

-- The number and the display of a GTP role.
abbrev pub gtp_role_row : GtpRole → ℕ × List ℕ
gtp_role_row GtpRole.Ggsn = (0, codes "ggsn")
gtp_role_row GtpRole.Sgsn = (1, codes "sgsn")
gtp_role_row (GtpRole.Other n) = (n, codes "unknown(" ++ (decimal n ++ codes ")"))

-- The variants of a GTP role, except `Other`, in the order of their numbers.
abbrev pub listed_gtp_roles : List GtpRole
listed_gtp_roles = GtpRole.Ggsn ∷ GtpRole.Sgsn ∷ []

-- The number of a GTP role.
abbrev pub gtp_role_number : GtpRole → ℕ
gtp_role_number v = (gtp_role_row v).0

-- The GTP role with this number.
abbrev pub gtp_role_of : ℕ → GtpRole
gtp_role_of n = numbered_by gtp_role_number listed_gtp_roles GtpRole.Other n

-- The display of a GTP role.
abbrev pub gtp_role_text : GtpRole → List ℕ
gtp_role_text v = (gtp_role_row v).1
