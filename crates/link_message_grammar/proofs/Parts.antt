-- The rule of a body by its parts, under any rule of peers.
use Rattle.std.proofs.Common.{◌≡◌, ℕ, ◌<◌, List, length, refl, ap}
use Rattle.attribute_tables_grammar.specs.LookUps.{link_info_rule, rows_rule}
use Rattle.attribute_tables_grammar.specs.Lists.{any, list_rule}
use Rattle.attribute_tables_grammar.specs.Peers.{RuleOfPeers}
use Rattle.attribute_tables_grammar.proofs.SameSteps.{sameness_unfolds}
use Rattle.attribute_tables_grammar.proofs.Readings.{non_empty_alike, non_empty_refuses}
use Rattle.link_info_grammar.specs.LinkInfo.{info_grammar, info_rule}
use Rattle.link_message_grammar.proofs.Lines.{attributes-grammar}
use Rattle.link_message_grammar.specs.Body.{body_rule, info_payload_rule, attributes_rule}
use Rattle.link_message_grammar.specs.Laws.{BodiesAreHeadersAndAttributes, AttributesAreLookedUp, InfoRulesAgree, InfoPayloadsAreLists}

module _ (p : RuleOfPeers) where
  pub bodies_are_headers_and_attributes : BodiesAreHeadersAndAttributes p
  unfolding body_rule
  bodies_are_headers_and_attributes b = record { accepted = refl; canonical = refl; attributes = refl; fits = refl; empty_ports = refl; same = λ c. refl }

  pub attributes_are_looked_up : AttributesAreLookedUp p
  unfolding attributes_rule rows_rule
  attributes_are_looked_up f = ap (list_rule any) (attributes-grammar p f)

  some_info : (b : List ℕ) → 0 < length b → InfoRulesAgree p b
  unfolding link_info_rule info_grammar info_rule
  some_info b l = let a = non_empty_alike (info_grammar p) b l in record { accepted = a.accepted; canonical = a.canonical; attributes = a.attributes; fits = a.fits }

  same_info : (a b : List ℕ) → 0 < length a → 0 < length b → (info_rule p).same a b ≡ (info_payload_rule p).same a b
  unfolding link_info_rule info_grammar info_rule
  same_info a b l m = sameness_unfolds.non_empty (info_grammar p) a b l m

  pub info_is_a_list_inside : InfoPayloadsAreLists p
  unfolding link_info_rule info_grammar
  info_is_a_list_inside = record { of_some_bytes = some_info; of_no_bytes = non_empty_refuses (info_grammar p); same = same_info }
