-- Only link info holds peers: every other row of a link's attributes is the same under every rule of peers.
use Rattle.std.proofs.Common.{◌≡◌, true, refl, sym, ap, ◌∙◌}
use Rattle.attribute_tables_grammar.specs.LookUps.{row_of_line}
use Rattle.attribute_tables_grammar.specs.Tables.{holds_no_peers_but}
use Rattle.attribute_tables_grammar.proofs.Peerless.{rules_without_peers_are_one}
use Rattle.link_message_grammar.specs.NestedTables.{resized}
use Rattle.link_message_grammar.specs.LinkMessage.{Family, unspec, bridge, inet_6, other, link_table}
use Rattle.link_message_grammar.specs.Laws.{OnlyLinkInfoHoldsPeers}
use Rattle.link_message_grammar.proofs.Lines.{kinds_are_looked_up}

of_family : (f : Family) → holds_no_peers_but 18 (link_table f) ≡ true
unfolding resized
of_family unspec = refl
of_family bridge = refl
of_family inet_6 = refl
of_family other = refl

pub only_link_info_holds_peers : OnlyLinkInfoHoldsPeers
only_link_info_holds_peers p q f k e =
    ap (row_of_line p) (sym (kinds_are_looked_up f k)) ∙ rules_without_peers_are_one.rows p q 18 (link_table f) (of_family f) k e ∙ ap (row_of_line q) (kinds_are_looked_up f k)
