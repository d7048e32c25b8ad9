-- Programs of the express data path with equal attributes are equal.
use Rattle.std.proofs.Common.{[], ◌∷◌, refl, Option}
use Rattle.netlink_packet_core.specs.Attributes.{Attribute}
use Rattle.attribute_tables_grammar.specs.LookUps.{line_at}
use Rattle.link_message_grammar.specs.NestedTables.{xdp}
use Rattle.link_message_nested.specs.Xdp.{link_xdp_entry, link_xdp_names_row}
use Rattle.link_message_nested.specs.declared.xdp.LinkXdp.{LinkXdp}
use Rattle.link_message_nested.specs.declared.xdp.LinkXdp.TheVariants.{Fd, Attached, Flags, ProgId, DrvProgId, SkbProgId, HwProgId, ExpectedFd, Other}
use Rattle.link_message_nested.specs.contracts.xdp.LinkXdpPartialEq.TheImpl as equality
use Rattle.link_message_nested.specs.contracts.xdp.LinkXdpEq.TheImpl.Laws.{laws-law}
use Rattle.link_message_types.specs.XdpTypes.{xdp_attached_of}
use Rattle.link_message.specs.Injective.{IsInjective}
use Rattle.link_message.proofs.Decoders.{RoundTrip, injective_by, value_of, round_trips, byte_of, le4_of, signed_of}

-- The value that an attribute encodes.
abbrev value : Attribute → Option LinkXdp
value = value_of (line_at xdp) Other (
    (1, λ p. Fd (signed_of p)) ∷
    (2, λ p. Attached (xdp_attached_of (byte_of p))) ∷
    (3, λ p. Flags (le4_of p)) ∷
    (4, λ p. ProgId (le4_of p)) ∷
    (5, λ p. DrvProgId (le4_of p)) ∷
    (6, λ p. SkbProgId (le4_of p)) ∷
    (7, λ p. HwProgId (le4_of p)) ∷
    (8, λ p. ExpectedFd (le4_of p)) ∷ [])

round_trip : RoundTrip link_xdp_entry link_xdp_names_row value
round_trip (Other a) h = rw h refl
round_trip v h = simp round_trips cc

pub xdp_injective : IsInjective (equality.ghosts).eq link_xdp_entry link_xdp_names_row
xdp_injective = injective_by _ laws-law.refl _ _ value round_trip
