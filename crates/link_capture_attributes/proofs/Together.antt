-- The laws, from those of the crates below.
use Rattle.netlink_packet_core_grammar.proofs.Together.{first_is_within}
use Rattle.link_capture_walks.proofs.Steps.{unfolds_by_attributes}
use Rattle.link_capture_lists.proofs.Lookups.{shorter_rest}
use Rattle.link_capture_attributes.specs.Attributes.{attribute_walk, list_attributes}
use Rattle.link_capture_attributes.specs.AttributeLaws.{AttributesAreApart, AttributesAreWhereTheySay, ListsUnfoldByAttributes}
use Rattle.link_capture_attributes.proofs.Places.{apart, next_from, there}

pub lists : ListsUnfoldByAttributes
unfolding list_attributes
lists = unfolds_by_attributes attribute_walk first_is_within (λ l bytes. shorter_rest l.list.table.form bytes)

pub attributes_are_apart : AttributesAreApart
attributes_are_apart = apart lists first_is_within

pub attributes_are_where_they_say : AttributesAreWhereTheySay
attributes_are_where_they_say = there lists first_is_within

pub ruleset laws = (lists, attributes_are_apart, attributes_are_where_they_say, next_from)
