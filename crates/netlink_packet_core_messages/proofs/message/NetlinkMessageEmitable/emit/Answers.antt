use Rattle.std.proofs.Common.{sym, arith}
use Rattle.netlink_packet_core_messages.proofs.Sizes.{length-message_text}
use Rattle.netlink_packet_core_messages.proofs.message.NetlinkMessageEmitable.emit.Goals as goal

pub serialize-requires-clause-capacity : goal.serialize-requires-clause-capacity
serialize-requires-clause-capacity g c =
    let l = length-message_text g.I.NetlinkSerializable.entry c.args.self.now in
    omega (arith, c.requires.capacity, c.requires.ready.0.has_length, l)

pub returns : goal.returns
returns g c =
    let l = length-message_text g.I.NetlinkSerializable.entry c.args.self.now in
    let t = c.requires.ready.0.has_length in
    rw (l, sym t) c.serialize.ensures
