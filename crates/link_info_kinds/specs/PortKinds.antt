-- The kind of a port, by its name.
use Rattle.std.specs.Prelude.{◌≡◌, ◌==◌, ◌&&◌, ℕ, Bool, true, List, [], ◌∷◌, ◌++◌, codes, string_bytes, Option, Some}
use Rattle.std.specs.Prelude.{None}
use Rattle.netlink_packet_core.specs.Attributes.{Attribute, proper_kind}
use Rattle.netlink_packet_core.specs.AttributeViews.{viewed_kind, viewed_payload}
use Rattle.netlink_packet_core.specs.Texts.{is_text, without_nul}
use Rattle.link_info_grammar.specs.Families.{port_kind_names}
use Rattle.link_info_grammar.specs.KindNames.{is_unlisted}
use Rattle.link_info_kinds.specs.declared.info_port_kind.InfoPortKind.{InfoPortKind}
use Rattle.link_info_kinds.specs.declared.info_port_kind.InfoPortKind.TheVariants as PortKind

-- The name of a port kind.
abbrev pub info_port_kind_text : InfoPortKind → List ℕ
info_port_kind_text PortKind.Bond = codes "bond"
info_port_kind_text PortKind.Bridge = codes "bridge"
info_port_kind_text PortKind.Vrf = codes "vrf"
info_port_kind_text PortKind.Team = codes "team"
info_port_kind_text (PortKind.Other s) = string_bytes s

-- The variants except `Other`, in the order of `port_kind_names`.
abbrev pub listed_port_kinds : List InfoPortKind
listed_port_kinds = PortKind.Bond ∷ PortKind.Bridge ∷ PortKind.Vrf ∷ PortKind.Team ∷ []

-- The port kind, unless it is `Other`.
abbrev pub listed_port_kind : InfoPortKind → Option InfoPortKind
listed_port_kind (PortKind.Other s) = None
listed_port_kind k = Some k

-- The port kind is the one of its name: no listed name is in an `Other`.
abbrev pub info_port_kind_is_named : InfoPortKind → Bool
info_port_kind_is_named (PortKind.Other s) = is_unlisted port_kind_names (string_bytes s)
info_port_kind_is_named _ = true

-- The port kind is the one with this name.
abbrev pub IsPortNamedBy : List ℕ → InfoPortKind → Type 0
IsPortNamedBy n k = (info_port_kind_text k ≡ n) × (info_port_kind_is_named k ≡ true)

-- The attribute of a port kind: IFLA_INFO_SLAVE_KIND with the name and a NUL.
abbrev pub info_port_kind_entry : InfoPortKind → Attribute
info_port_kind_entry k = record { kind = 4; payload = info_port_kind_text k ++ 0 ∷ [] }

-- The attribute at the start of the bytes is accepted as a port kind.
abbrev pub info_port_kind_accepted : List ℕ → Bool
info_port_kind_accepted b = (proper_kind (viewed_kind b) == 4) && is_text (viewed_payload b)

-- The attribute is accepted, and its name is allocated, since it isn't listed.
abbrev pub info_port_kind_allocates : List ℕ → Bool
info_port_kind_allocates b =
    info_port_kind_accepted b && is_unlisted port_kind_names (without_nul (viewed_payload b))
