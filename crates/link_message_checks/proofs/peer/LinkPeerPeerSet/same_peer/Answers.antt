use Rattle.std.proofs.Common.{sym, ◌∙◌}
use Rattle.attribute_tables_grammar.specs.Peers.{bytes_peer}
use Rattle.link_message_grammar.specs.Body.{link_peer}
use Rattle.link_message_checks.proofs.ShortBodies.{headers_determine}
use Rattle.link_message_checks.proofs.peer.LinkPeerPeerSet.same_peer.Goals as goal

pub returns-then-left-lt-LINK_HEADER_LEN : goal.returns-then-left-lt-LINK_HEADER_LEN
unfolding link_peer
returns-then-left-lt-LINK_HEADER_LEN c =
    let a = c.args.left.now in
    let b = c.args.right.now in
    c.same_header.ensures ∙ headers_determine bytes_peer a b c.then-left-lt-LINK_HEADER_LEN.either ∙ sym ((c.body_laws_hold.ensures.headers_and_attributes a).same b)
