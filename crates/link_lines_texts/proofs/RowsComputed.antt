-- Each row has a name and a format that determines it, by computation.
use Rattle.std.proofs.Common.{◌≡◌, true, Some, refl}
use Rattle.std.specs.List.{list_all}
use Rattle.attribute_tables_grammar.specs.Lists.{any}
use Rattle.attribute_tables_grammar.specs.Tables.{Payload}
use Rattle.link_message_grammar.specs.LinkMessage.{unspec, bridge, inet_6, other, link_table}
use Rattle.link_message_grammar.specs.NestedTables.{resized}
use Rattle.link_lines_values.specs.Layouts.{layout_fields}
use Rattle.link_lines_values.specs.NumberTexts.{number_texts}
use Rattle.link_lines_texts.specs.Format.{Inside.Nested}
use Rattle.link_lines_raw.specs.Names.{all_named_rows, has_name, names_apart}
use Rattle.link_lines_raw.specs.Tables.{bridge_rows, kind_rows, link_rows as raw_link_rows, raw_rows_of}
use Rattle.link_lines_texts.specs.Coverage.{has_line, holds_shown, in_each, is_info_kind, raw_names_differ}
use Rattle.link_lines_texts.specs.Laws.{RowsAreDetermined}
use Rattle.link_lines_texts.specs.declared.raw_tables.TheConstants.{RAW_TABLES}
use Rattle.link_tables.specs.declared.table.TheConstants.{LINK_BRIDGE, LINK_INET6, LINK_INFO, LINK_OTHER, LINK_UNSPEC}
use Rattle.link_lines_texts.specs.AttributeNames.{data_names, info_attribute_names, link_rows, link_names, nested_names, family_names, attribute_name_of, attribute_names_of}

unspec_is_determined : holds_shown (Payload.list any (link_table unspec)) (Some (Nested LINK_UNSPEC)) ≡ true
unfolding attribute_name_of attribute_names_of nested_names link_names family_names link_rows info_attribute_names data_names resized layout_fields number_texts
unspec_is_determined = refl

bridge_is_determined : holds_shown (Payload.list any (link_table bridge)) (Some (Nested LINK_BRIDGE)) ≡ true
unfolding attribute_name_of attribute_names_of nested_names link_names family_names link_rows info_attribute_names data_names resized layout_fields number_texts
bridge_is_determined = refl

inet6_is_determined : holds_shown (Payload.list any (link_table inet_6)) (Some (Nested LINK_INET6)) ≡ true
unfolding attribute_name_of attribute_names_of nested_names link_names family_names link_rows info_attribute_names data_names resized layout_fields number_texts
inet6_is_determined = refl

other_is_determined : holds_shown (Payload.list any (link_table other)) (Some (Nested LINK_OTHER)) ≡ true
unfolding attribute_name_of attribute_names_of nested_names link_names family_names link_rows info_attribute_names data_names resized layout_fields number_texts
other_is_determined = refl

pub all_are_named : in_each (all_named_rows has_name) ≡ true
unfolding nested_names link_names family_names link_rows info_attribute_names data_names
all_are_named = refl

pub all_on_lines : in_each (all_named_rows has_line) ≡ true
unfolding nested_names link_names family_names link_rows info_attribute_names data_names layout_fields number_texts
all_on_lines = refl

pub info_is_named : all_named_rows is_info_kind (attribute_names_of LINK_INFO.0) ≡ true
unfolding attribute_names_of link_names family_names info_attribute_names
info_is_named = refl

pub all_are_apart : in_each names_apart ≡ true
unfolding nested_names link_names family_names link_rows info_attribute_names data_names
all_are_apart = refl

pub all_raw_apart : list_all raw_names_differ RAW_TABLES.now ≡ true
unfolding attribute_names_of nested_names link_names family_names link_rows info_attribute_names data_names raw_rows_of raw_link_rows kind_rows bridge_rows
all_raw_apart = refl

pub determined : RowsAreDetermined
determined = record { unspec_determined = unspec_is_determined; bridge_determined = bridge_is_determined; inet6_determined = inet6_is_determined; other_determined = other_is_determined; named = all_are_named; on_lines = all_on_lines; info_named = info_is_named; apart = all_are_apart; raw = all_raw_apart }
