-- the rule of data of a kind without peers is the same under all rules of peers
use Rattle.std.proofs.Common.{sym, subst}
use Rattle.attribute_tables.specs.Outcomes.{SucceedsIf}
use Rattle.attribute_tables_grammar.specs.Peers.{bytes_peer}
use Rattle.link_info_data.specs.Outcomes.{IsDataRead}
use Rattle.link_info_data.proofs.WithoutPeers.{no_peers}
use Rattle.link_info_data.proofs.info_data.InfoData.read_with.Goals as goal

pub returns-in_default : goal.returns-in_default
returns-in_default g c =
    let k = c.args.kind.now in
    let b = c.args.payload.now in
    let none = no_peers k c.in_default.not-Netkit c.in_default.not-Veth c.in_default.not-Vxcan in
    let e = sym (c.data_without_peers_have_one_rule.ensures g.R.PeerRule.peer bytes_peer k none) in
    record {
      judged = subst (λ r. SucceedsIf c.read.result (r.accepted b)) e c.read.ensures.judged;
      read = subst (λ r. IsDataRead c.read.result k r b) e c.read.ensures.read;
    }
