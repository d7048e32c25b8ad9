-- Values of `InfoAmt` with equal attributes are equal.
use Rattle.std.proofs.Common.{[], ◌∷◌, refl, Option}
use Rattle.netlink_packet_core.specs.Attributes.{Attribute}
use Rattle.attribute_tables_grammar.specs.LookUps.{line_at}
use Rattle.link_info_grammar.specs.Families.{amt}
use Rattle.link_info_tunnels.specs.declared.amt.InfoAmt.{InfoAmt}
use Rattle.link_info_tunnels.specs.declared.amt.InfoAmt.TheVariants.{Mode, RelayPort, GatewayPort, Link, LocalIp, RemoteIp, DiscoveryIp, MaxTunnels, Other}
use Rattle.link_info_types.specs.AmtTypes.{amt_mode_of}
use Rattle.link_info_tunnels.specs.Amt.{amt_entry, amt_is_row_variant}
use Rattle.link_info_tunnels.specs.contracts.amt.InfoAmtPartialEq.TheImpl as equality
use Rattle.link_info_tunnels.specs.contracts.amt.InfoAmtEq.TheImpl.Laws.{laws-law}
use Rattle.link_message.specs.Injective.{IsInjective}
use Rattle.link_message.proofs.Decoders.{RoundTrip, injective_by, value_of, round_trips, be2_of, ip_of, le4_of}

-- The value that an attribute encodes.
abbrev value : Attribute → Option InfoAmt
value = value_of (line_at amt) Other (
    (1, λ p. Mode (amt_mode_of (le4_of p))) ∷
    (2, λ p. RelayPort (be2_of p)) ∷
    (3, λ p. GatewayPort (be2_of p)) ∷
    (4, λ p. Link (le4_of p)) ∷
    (5, λ p. LocalIp (ip_of p)) ∷
    (6, λ p. RemoteIp (ip_of p)) ∷
    (7, λ p. DiscoveryIp (ip_of p)) ∷
    (8, λ p. MaxTunnels (le4_of p)) ∷ [])

round_trip : RoundTrip amt_entry amt_is_row_variant value
round_trip (Other a) h = rw h refl
round_trip v h = simp round_trips cc

pub amt_injective : IsInjective (equality.ghosts).eq amt_entry amt_is_row_variant
amt_injective = injective_by _ laws-law.refl _ _ value round_trip
