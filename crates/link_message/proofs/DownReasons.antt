-- Values of `LinkProtocolDownReason` with equal attributes are equal.
use Rattle.std.proofs.Common.{[], ◌∷◌, refl, Option}
use Rattle.netlink_packet_core.specs.Attributes.{Attribute}
use Rattle.attribute_tables_grammar.specs.LookUps.{line_at}
use Rattle.link_message_grammar.specs.NestedTables.{protocol_down_reason}
use Rattle.link_message_nested.specs.declared.down_reason.LinkProtocolDownReason.TheVariants.{Mask, Value, Other}
use Rattle.link_message_nested.specs.declared.down_reason.LinkProtocolDownReason.{LinkProtocolDownReason}
use Rattle.link_message_nested.specs.DownReasons.{link_protocol_down_reason_entry, link_protocol_down_reason_names_row}
use Rattle.link_message_nested.specs.contracts.down_reason.LinkProtocolDownReasonPartialEq.TheImpl as equality
use Rattle.link_message_nested.specs.contracts.down_reason.LinkProtocolDownReasonEq.TheImpl.Laws.{laws-law}
use Rattle.link_message.specs.Injective.{IsInjective}
use Rattle.link_message.proofs.Decoders.{RoundTrip, injective_by, value_of, round_trips, le4_of}

-- The value that an attribute encodes.
abbrev value : Attribute → Option LinkProtocolDownReason
value = value_of (line_at protocol_down_reason) Other (
    (1, λ p. Mask (le4_of p)) ∷
    (2, λ p. Value (le4_of p)) ∷ [])

round_trip : RoundTrip link_protocol_down_reason_entry link_protocol_down_reason_names_row value
round_trip (Other a) h = rw h refl
round_trip v h = simp round_trips cc

pub downreasons_injective : IsInjective (equality.ghosts).eq link_protocol_down_reason_entry link_protocol_down_reason_names_row
downreasons_injective = injective_by _ laws-law.refl _ _ value round_trip
