-- Values of `InfoXfrm` with equal attributes are equal.
use Rattle.std.proofs.Common.{[], ◌∷◌, refl, Option}
use Rattle.netlink_packet_core.specs.Attributes.{Attribute}
use Rattle.attribute_tables_grammar.specs.LookUps.{line_at}
use Rattle.link_info_grammar.specs.Families.{xfrm}
use Rattle.link_info_tunnels.specs.declared.xfrm.InfoXfrm.TheVariants.{Link, IfId, Other}
use Rattle.link_info_tunnels.specs.declared.xfrm.InfoXfrm.{InfoXfrm}
use Rattle.link_info_tunnels.specs.Xfrm.{xfrm_entry, xfrm_is_row_variant}
use Rattle.link_info_tunnels.specs.contracts.xfrm.InfoXfrmPartialEq.TheImpl as equality
use Rattle.link_info_tunnels.specs.contracts.xfrm.InfoXfrmEq.TheImpl.Laws.{laws-law}
use Rattle.link_message.specs.Injective.{IsInjective}
use Rattle.link_message.proofs.Decoders.{RoundTrip, injective_by, value_of, round_trips, le4_of}

-- The value that an attribute encodes.
abbrev value : Attribute → Option InfoXfrm
value = value_of (line_at xfrm) Other (
    (1, λ p. Link (le4_of p)) ∷
    (2, λ p. IfId (le4_of p)) ∷ [])

round_trip : RoundTrip xfrm_entry xfrm_is_row_variant value
round_trip (Other a) h = rw h refl
round_trip v h = simp round_trips cc

pub xfrm_injective : IsInjective (equality.ghosts).eq xfrm_entry xfrm_is_row_variant
xfrm_injective = injective_by _ laws-law.refl _ _ value round_trip
