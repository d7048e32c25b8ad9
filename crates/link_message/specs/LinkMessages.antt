-- Link messages: their bytes, and the variants that rows name.
use Rattle.std.specs.Prelude.{ℕ, Bool, List, ◌++◌, map}
use Rattle.std.specs.List.{All, list_any}
use Rattle.netlink_packet_core.specs.Lists.{text_by, all_fit_by}
use Rattle.attribute_tables_grammar.specs.Readings.{AttributeReading}
use Rattle.attribute_tables.specs.Written.{written_as}
use Rattle.link_message_grammar.specs.Body.{is_emptied}
use Rattle.link_message_types.specs.AddressFamilies.{table_family}
use Rattle.link_message_types.specs.Headers.{link_header_bytes}
use Rattle.link_message_attributes.specs.LinkAttributes.{link_attribute_entry, link_attribute_fits}
use Rattle.link_message_attributes.specs.LinkAttributes.{link_attribute_names_row}
use Rattle.link_message.specs.declared.message.LinkMessage.{LinkMessage}

-- The bytes of a message: its header, followed by its attributes.
abbrev pub link_message_text : LinkMessage → List ℕ
link_message_text m = link_header_bytes m.header ++ text_by link_attribute_entry m.attributes.items

-- Each length inside a message fits the 2 bytes of its header.
abbrev pub link_message_fits : LinkMessage → Bool
link_message_fits m = all_fit_by link_attribute_entry link_attribute_fits m.attributes.items

-- Whether an attribute is written as a list of ports without an entry.
abbrev pub link_message_empty_ports : LinkMessage → Bool
link_message_empty_ports m = list_any (λ v. is_emptied (link_attribute_entry v)) m.attributes.items

-- The attributes that a message is written as, each with whether what is inside it fits.
abbrev pub link_message_written : LinkMessage → List AttributeReading
link_message_written m = map (written_as link_attribute_entry link_attribute_fits) m.attributes.items

-- Each attribute is the variant that its row names, under the family of the header.
abbrev pub link_message_names_row : LinkMessage → Type 0
link_message_names_row m = All (link_attribute_names_row (table_family m.header.interface_family)) m.attributes.items
