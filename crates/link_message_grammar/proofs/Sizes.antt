-- The sizes of canonical bodies; short ones fit.
use Rattle.std.proofs.Common.{◌≡◌, ℕ, ◌+◌, true, List, length, ap, ◌∙◌, arith, length-append}
use Rattle.std.specs.Prelude.{nat_le}
use Rattle.std.proofs.lemmas.Bool.{and_parts}
use Rattle.attribute_tables_grammar.specs.Lists.{any}
use Rattle.attribute_tables_grammar.specs.Peers.{RuleOfPeers}
use Rattle.attribute_tables_grammar.specs.Tables.{Payload.list, grammar}
use Rattle.attribute_tables_grammar.proofs.Lists.{list_small}
use Rattle.attribute_tables_grammar.proofs.ShortTexts.{short_fits}
use Rattle.attribute_tables_grammar.proofs.Tables.{table_lawful}
use Rattle.link_message_grammar.specs.Body.{header_text, attribute_bytes, family, attributes_rule, body_rule}
use Rattle.link_message_grammar.specs.LinkMessage.{link_table}
use Rattle.link_message_grammar.specs.Laws.{BodiesGrowByAttributes, ShortBodiesFit}
use Rattle.link_message_grammar.proofs.Body.{written_header}
use Rattle.link_message_grammar.proofs.Tables.{table_bounded}

-- An accepted body has accepted attributes, and is written with a header of 16 bytes.
record Parts (p : RuleOfPeers) (b : List ℕ) : Type 0 where
  accepted : (attributes_rule p (family b)).accepted (attribute_bytes b) ≡ true
  size : length ((body_rule p).canonical b) ≡ 16 + length ((attributes_rule p (family b)).canonical (attribute_bytes b))

parts : (p : RuleOfPeers) (b : List ℕ) → (body_rule p).accepted b ≡ true → Parts p b
unfolding body_rule
parts p b a =
    let s = and_parts (nat_le 16 (length b)) ((attributes_rule p (family b)).accepted (attribute_bytes b)) a in
    let c = (attributes_rule p (family b)).canonical (attribute_bytes b) in
    record { accepted = s.1; size = length-append (header_text b) c ∙ ap (λ n. n + length c) (written_header b s.0).size }

pub bodies_grow_by_attributes : BodiesGrowByAttributes
unfolding attributes_rule
bodies_grow_by_attributes p l b a =
    let k = parts p b a in
    let small = list_small any (grammar p (link_table (family b))) (table_lawful p l (link_table (family b)) (table_bounded (family b))) (attribute_bytes b) k.accepted in
    omega (arith, k.size, small)

pub short_bodies_fit : ShortBodiesFit
unfolding body_rule attributes_rule
short_bodies_fit p b a l =
    let k = parts p b a in
    short_fits p (list any (link_table (family b))) (attribute_bytes b) k.accepted (omega (arith, l, k.size))
