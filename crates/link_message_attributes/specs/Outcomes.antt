-- The outcome of reading the payload of an attribute of a link, for contracts.
use Rattle.std.specs.Prelude.{◌≡◌, ℕ, true, List, Option, Result, IfNone, IfOk}
use Rattle.netlink_packet_core.specs.Families.{attribute}
use Rattle.netlink_packet_core.specs.declared.DecodeError.{DecodeError}
use Rattle.attribute_tables_grammar.specs.Lists.{Row}
use Rattle.attribute_tables.specs.Outcomes.{IfMemory, IfRead, RowIsRewrittenBy, SucceedsIf}
use Rattle.link_message_grammar.specs.LinkMessage.{Family, HasNoLinkRow}
use Rattle.link_message_attributes.specs.LinkAttributes.{link_attribute_entry, link_attribute_fits}
use Rattle.link_message_attributes.specs.LinkAttributes.{link_attribute_names_row, row_may_allocate}
use Rattle.link_message_attributes.specs.declared.attributes.LinkAttribute.{LinkAttribute}

-- The payload of a kind was read under its row, or the kind has none.
pub record IsRowRead (result : Result (Option LinkAttribute) DecodeError) (family : Family) (row : Row) (kind : ℕ)
    (payload : List ℕ) : Type 0 where
  -- Ok only if the row accepts the payload, and an error other than out of memory only if it doesn't
  pub judged : SucceedsIf result (row.rule.accepted payload)
  -- nothing is read only if the family has no row for the kind
  pub none : IfOk result (λ o. IfNone o (HasNoLinkRow family kind))
  pub typed : IfRead result (λ _. row.is_typed ≡ true)
  pub written : RowIsRewrittenBy result link_attribute_entry link_attribute_fits row (attribute kind payload)
  pub is_row_variant : IfRead result (λ v. link_attribute_names_row family v)
  pub memory : IfMemory result (row_may_allocate family kind payload ≡ true)
