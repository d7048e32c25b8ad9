-- The management component transport protocol on a link: the kind and the payload of each value.
use Rattle.std.specs.Prelude.{[], ◌∷◌, ◌≡◌}
use Rattle.netlink_packet_core.specs.Attributes.{Attribute, proper_kind}
use Rattle.netlink_packet_core.specs.Families.{attribute}
use Rattle.netlink_packet_core.specs.Numbers.{le4}
use Rattle.attribute_tables_grammar.specs.LookUps.{HasNoRow}
use Rattle.link_message_grammar.specs.NestedTables.{mctp}
use Rattle.link_message_types.specs.MctpTypes.{mctp_phys_binding_number, mctp_phys_binding_of}
use Rattle.link_message_nested.specs.declared.mctp.AfSpecMctp.{AfSpecMctp}
use Rattle.link_message_nested.specs.declared.mctp.AfSpecMctp.TheVariants.{Net, PhysBinding, Other}

-- The kind and the payload of a value.
abbrev pub af_spec_mctp_entry : AfSpecMctp → Attribute
af_spec_mctp_entry (Net n) = attribute 1 (le4 n)
af_spec_mctp_entry (PhysBinding v) = attribute 2 (mctp_phys_binding_number v ∷ [])
af_spec_mctp_entry (Other a) = a

-- The value is the variant that its row names: a kind with a row isn't kept as `Other`, nor a named number as `Other`.
abbrev pub af_spec_mctp_names_row : AfSpecMctp → Type 0
af_spec_mctp_names_row (PhysBinding v) = v ≡ mctp_phys_binding_of (mctp_phys_binding_number v)
af_spec_mctp_names_row (Other a) = HasNoRow mctp (proper_kind a.kind)
af_spec_mctp_names_row _ = Unit {0}
