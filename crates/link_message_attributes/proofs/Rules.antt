-- The rules of a link's attributes, and of link info in one of them.
use Rattle.std.proofs.Common.{◌≡◌, ◌==◌, ◌<◌, ℕ, List, [], ◌∷◌, true, false, length, refl, sym, arith}
use Rattle.std.proofs.lemmas.Bool.{eqb-true}
use Rattle.netlink_packet_core_grammar.specs.Attributes as Attributes
use Rattle.attribute_tables_grammar.specs.Lists.{any}
use Rattle.attribute_tables_grammar.specs.LookUps as LookUps
use Rattle.attribute_tables_grammar.specs.LookUps.{rows_rule}
use Rattle.link_message_grammar.specs.Body.{attribute_row, attributes_rule, info_payload_rule, link_peer}
use Rattle.link_message_grammar.specs.Laws.{AttributesAreLookedUp}
use Rattle.link_message_grammar.specs.LinkMessage.{Family}

pub attributes-rule : AttributesAreLookedUp link_peer → (f : Family) → attributes_rule link_peer f ≡ rows_rule any (attribute_row link_peer f)
attributes-rule law = law

pub ruleset attribute_rules = (attributes-rule)

-- Empty bytes are no link info.
pub no_info : (b : List ℕ) → true ≡ length b == 0 → (info_payload_rule link_peer).accepted b ≡ false
unfolding LookUps.link_info_rule Attributes.attributes_within
no_info [] h = refl
no_info (x ∷ b) h = absurd (omega (arith, eqb-true (length (x ∷ b)) 0 (sym h)))

pub some_bytes : (b : List ℕ) → false ≡ length b == 0 → 0 < length b
some_bytes [] h = absurd cc
some_bytes (x ∷ b) h = omega arith
