-- The tables of tunnels over IP hold no attributes.
use Rattle.std.proofs.Common.{◌≡◌, true, refl}
use Rattle.attribute_tables_grammar.specs.LookUps.{holds_no_lists}
use Rattle.link_info_kinds.specs.declared.info_kind.InfoKind.{InfoKind}
use Rattle.link_info_tunnels.specs.IpTunnel.{ip_tunnel_of}

pub holds-no_lists : (k : InfoKind) → holds_no_lists (ip_tunnel_of k) ≡ true
unfolding ip_tunnel_of
holds-no_lists k = refl

pub ruleset ip_tunnels = (holds-no_lists)
