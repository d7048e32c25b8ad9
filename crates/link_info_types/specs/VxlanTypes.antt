-- The numbers and texts of VXLAN.
use Rattle.std.specs.Prelude.{ℕ, List, [], ◌∷◌, codes}
use Rattle.std.specs.Fmt.{decimal}
use Rattle.netlink_packet_core.specs.Named.{numbered_by}
use Rattle.link_info_types.specs.declared.vxlan.VxlanDf.{VxlanDf}

-- The number and the display of a setting of the DF bit of a VXLAN tunnel.
abbrev pub vxlan_df_row : VxlanDf → ℕ × List ℕ
vxlan_df_row VxlanDf.Unset = (0, codes "unset")
vxlan_df_row VxlanDf.Set = (1, codes "set")
vxlan_df_row VxlanDf.Inherit = (2, codes "inherit")
vxlan_df_row (VxlanDf.Other n) = (n, decimal n)

-- The variants of a setting of the DF bit of a VXLAN tunnel, except `Other`, in the order of their numbers.
abbrev pub listed_vxlan_dfs : List VxlanDf
listed_vxlan_dfs = VxlanDf.Unset ∷ VxlanDf.Set ∷ VxlanDf.Inherit ∷ []

-- The number of a setting of the DF bit of a VXLAN tunnel.
abbrev pub vxlan_df_number : VxlanDf → ℕ
vxlan_df_number v = (vxlan_df_row v).0

-- The setting of the DF bit of a VXLAN tunnel with this number.
abbrev pub vxlan_df_of : ℕ → VxlanDf
vxlan_df_of n = numbered_by vxlan_df_number listed_vxlan_dfs VxlanDf.Other n

-- The display of a setting of the DF bit of a VXLAN tunnel.
abbrev pub vxlan_df_text : VxlanDf → List ℕ
vxlan_df_text v = (vxlan_df_row v).1
