use Rattle.std.proofs.lemmas.Str.{is_utf8-from_IsUtf8}
use Rattle.link_message.specs.Body.{link_body}
use Rattle.examples.specs.Requests.{vxlan_body}
use Rattle.examples.proofs.LegalRequests.{canonical_body, canonical_ruled}
use Rattle.examples.proofs.RequestFrames.{vxlan_aligned}
use Rattle.examples.proofs.requests.vxlans_are_legal.Goals as goal

pub returns-clause-canonical : goal.returns-clause-canonical
returns-clause-canonical c short =
    let a = c.args in
    canonical_ruled link_body (vxlan_body a.name.now a.vni a.mtu) (canonical_body c.encodings_are_split.ensures a.name.now a.vni a.mtu (is_utf8-from_IsUtf8 a.name.now c.utf8.name) short)

pub returns-clause-aligned : goal.returns-clause-aligned
returns-clause-aligned c = vxlan_aligned c.encodings_are_split.ensures c.args.name.now c.args.vni c.args.mtu
