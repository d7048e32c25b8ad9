-- The tables pass the tests.
use Rattle.std.proofs.Common.{◌≡◌, true, refl}
use Rattle.attribute_tables_grammar.specs.Rules.{Lawful}
use Rattle.attribute_tables_grammar.specs.Lists.{any}
use Rattle.attribute_tables_grammar.specs.Peers.{RuleOfPeers, LawfulPeer}
use Rattle.attribute_tables_grammar.specs.Tables.{Payload.list, rows_bounded, rising, rule}
use Rattle.attribute_tables_grammar.proofs.Tables.{lawful}
use Rattle.link_message_grammar.specs.NestedTables.{resized}
use Rattle.link_message_grammar.specs.LinkMessage.{Family, unspec, bridge, inet_6, other, link_table}

pub table_bounded : (f : Family) → rows_bounded (link_table f) ≡ true
unfolding resized
table_bounded unspec = refl
table_bounded bridge = refl
table_bounded inet_6 = refl
table_bounded other = refl

pub table_lawful : (p : RuleOfPeers) → LawfulPeer p → (f : Family) → Lawful (rule p (list any (link_table f)))
table_lawful p l f = lawful p l (list any (link_table f)) (table_bounded f)

pub kinds_rise : (f : Family) → rising (list any (link_table f)) ≡ true
unfolding resized
kinds_rise unspec = refl
kinds_rise bridge = refl
kinds_rise inet_6 = refl
kinds_rise other = refl
