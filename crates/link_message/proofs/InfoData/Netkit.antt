-- Values of `InfoNetkit` with equal attributes are equal.
use Rattle.std.proofs.Common.{◌≡◌, [], ◌∷◌, Some, refl, ap, arith}
use lib.Pointwise.{bytes_decides}
use Rattle.attribute_tables_grammar.specs.LookUps.{line_at}
use Rattle.link_info_grammar.specs.Families.{netkit}
use Rattle.link_info_devices.specs.declared.netkit.InfoNetkit.{InfoNetkit}
use Rattle.link_info_devices.specs.declared.netkit.InfoNetkit.TheVariants as Netkit
use Rattle.link_info_types.specs.NetkitTypes.{netkit_mode_of, netkit_policy_of, netkit_scrub_number, netkit_scrub_of}
use Rattle.link_info_types.specs.declared.netkit.NetkitScrub.{NetkitScrub}
use Rattle.link_info_devices.specs.Netkit.{netkit_entry, netkit_is_row_variant}
use Rattle.link_info_devices.specs.contracts.netkit.InfoNetkitPartialEq.TheImpl as equality
use Rattle.link_info_devices.specs.contracts.netkit.InfoNetkitEq.TheImpl.Laws.{laws-law}
use Rattle.link_message.specs.Injective.{IsInjective}
use Rattle.link_message.proofs.Decoders.{Decoders, Otherwise, RoundTripIfDecoded, injective_or, value_of, round_trips, boolean_of, le2_of, le4_of}

-- The decoder of each kind whose value owns neither bytes nor text.
abbrev decoders : Decoders InfoNetkit
decoders =
    (2, λ p. Netkit.Primary (boolean_of p)) ∷
    (3, λ p. Netkit.Policy (netkit_policy_of (le4_of p))) ∷
    (4, λ p. Netkit.PeerPolicy (netkit_policy_of (le4_of p))) ∷
    (5, λ p. Netkit.Mode (netkit_mode_of (le4_of p))) ∷
    (6, λ p. Netkit.Scrub (netkit_scrub_of (le4_of p))) ∷
    (7, λ p. Netkit.PeerScrub (netkit_scrub_of (le4_of p))) ∷
    (8, λ p. Netkit.Headroom (le2_of p)) ∷
    (9, λ p. Netkit.Tailroom (le2_of p)) ∷ []

scrub_round_trip : (s : NetkitScrub) → netkit_scrub_of (netkit_scrub_number s) ≡ s
scrub_round_trip NetkitScrub.None = refl
scrub_round_trip NetkitScrub.Default = refl

round_trip : RoundTripIfDecoded netkit_entry netkit_is_row_variant (value_of (line_at netkit) Netkit.Other decoders)
round_trip (Netkit.Other a) h = rw h refl
round_trip (Netkit.Scrub s) h = simp round_trips (ap (λ t. Some (Netkit.Scrub t)) (scrub_round_trip s))
round_trip (Netkit.PeerScrub s) h = simp round_trips (ap (λ t. Some (Netkit.PeerScrub t)) (scrub_round_trip s))
round_trip v h = simp round_trips cc

otherwise : Otherwise (equality.ghosts).eq netkit_entry netkit_is_row_variant (line_at netkit) decoders
otherwise (Netkit.Peer x) (Netkit.Peer y) l m i j d p q k e = (bytes_decides x.items y.items).1 e
otherwise v w l m i j d p q k e = absurd (first_of (omega arith, cc))

pub netkit_injective : IsInjective (equality.ghosts).eq netkit_entry netkit_is_row_variant
netkit_injective = injective_or _ laws-law.refl _ _ (line_at netkit) Netkit.Other decoders round_trip otherwise
