-- The text of a request for a link by its name.
use Rattle.std.specs.Prelude.{ℕ, List, [], ◌∷◌, ◌++◌}
use Rattle.netlink_packet_core.specs.Attributes.{zeros, list_text}
use Rattle.netlink_packet_core.specs.Families.{attribute}

-- The text of a request: a header of zeros, IFLA_EXT_MASK without statistics, and IFLA_IFNAME.
abbrev pub request_text : List ℕ → List ℕ
request_text name = zeros 16 ++ list_text (attribute 29 (8 ∷ 0 ∷ 0 ∷ 0 ∷ []) ∷ attribute 3 (name ++ 0 ∷ []) ∷ [])
