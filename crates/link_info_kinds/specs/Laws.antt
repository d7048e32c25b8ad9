-- The laws of kinds, as the functions of `laws` state them.
use Rattle.std.specs.Prelude.{◌≡◌, true}
use Rattle.link_info_kinds.specs.Kinds.{info_kind_text, info_kind_is_named, listed_kind}
use Rattle.link_info_kinds.specs.PortKinds.{info_port_kind_text, info_port_kind_is_named, listed_port_kind}
use Rattle.link_info_kinds.specs.declared.info_kind.InfoKind.{InfoKind}
use Rattle.link_info_kinds.specs.declared.info_port_kind.InfoPortKind.{InfoPortKind}

-- Kinds with one name are the same variant, or both `Other`.
abbrev pub NamesDetermineKinds : Type 0
NamesDetermineKinds = (k m : InfoKind) → info_kind_is_named k ≡ true → info_kind_is_named m ≡ true →
    info_kind_text k ≡ info_kind_text m → listed_kind k ≡ listed_kind m

-- Port kinds with one name are the same variant, or both `Other`.
abbrev pub NamesDeterminePortKinds : Type 0
NamesDeterminePortKinds =
    (k m : InfoPortKind) → info_port_kind_is_named k ≡ true → info_port_kind_is_named m ≡ true →
    info_port_kind_text k ≡ info_port_kind_text m →
    listed_port_kind k ≡ listed_port_kind m
