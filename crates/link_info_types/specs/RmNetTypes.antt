-- The flags of RMNET.
use Rattle.std.specs.Prelude.{ℕ, List, [], ◌∷◌, codes}
use Rattle.link_info_types.specs.declared.rmnet.RmNetFlags.{RmNetFlags}

-- The bits of a set of RMNET flags.
abbrev pub rm_net_flags_bits : RmNetFlags → ℕ
rm_net_flags_bits f = f.0

-- The RMNET flags that have a name, each with its bits.
abbrev pub rm_net_flags_table : List (List ℕ × ℕ)
rm_net_flags_table =
    (codes "IngressDeaggregation", 0x01) ∷
    (codes "IngressCommands", 0x02) ∷
    (codes "IngressMapCksumV4", 0x04) ∷
    (codes "EgressMapCksumV4", 0x08) ∷
    (codes "IngressMapCksumV5", 0x10) ∷
    (codes "EgressMapCksumV5", 0x20) ∷
    []
