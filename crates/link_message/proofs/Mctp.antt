-- Values of `AfSpecMctp` with equal attributes are equal.
use Rattle.std.proofs.Common.{[], ◌∷◌, refl, Option}
use Rattle.netlink_packet_core.specs.Attributes.{Attribute}
use Rattle.attribute_tables_grammar.specs.LookUps.{line_at}
use Rattle.link_message_grammar.specs.NestedTables.{mctp}
use Rattle.link_message_nested.specs.declared.mctp.AfSpecMctp.TheVariants.{Net, PhysBinding, Other}
use Rattle.link_message_nested.specs.declared.mctp.AfSpecMctp.{AfSpecMctp}
use Rattle.link_message_types.specs.MctpTypes.{mctp_phys_binding_of}
use Rattle.link_message_nested.specs.Mctp.{af_spec_mctp_entry, af_spec_mctp_names_row}
use Rattle.link_message_nested.specs.contracts.mctp.AfSpecMctpPartialEq.TheImpl as equality
use Rattle.link_message_nested.specs.contracts.mctp.AfSpecMctpEq.TheImpl.Laws.{laws-law}
use Rattle.link_message.specs.Injective.{IsInjective}
use Rattle.link_message.proofs.Decoders.{RoundTrip, injective_by, value_of, round_trips, byte_of, le4_of}

-- The value that an attribute encodes.
abbrev value : Attribute → Option AfSpecMctp
value = value_of (line_at mctp) Other (
    (1, λ p. Net (le4_of p)) ∷
    (2, λ p. PhysBinding (mctp_phys_binding_of (byte_of p))) ∷ [])

round_trip : RoundTrip af_spec_mctp_entry af_spec_mctp_names_row value
round_trip (Other a) h = rw h refl
round_trip v h = simp round_trips cc

pub mctp_injective : IsInjective (equality.ghosts).eq af_spec_mctp_entry af_spec_mctp_names_row
mctp_injective = injective_by _ laws-law.refl _ _ value round_trip
