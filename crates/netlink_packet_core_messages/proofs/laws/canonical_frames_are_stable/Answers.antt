-- a written message is read back
use Rattle.std.proofs.Common.{◌≡◌, ◌++◌, Some, rules}
use Rattle.netlink_packet_core_messages.specs.Messages.{read_message, message_text, message_value}
use Rattle.netlink_packet_core_messages.proofs.Whole.{message_reads}
use Rattle.netlink_packet_core_messages.proofs.laws.canonical_frames_are_stable.Goals as goal

pub returns : goal.returns
returns g c =
    let I = g.I.NetlinkSerializable in
    let back : read_message g.I.NetlinkDeserializable.reads (message_text I.entry c.args.message.now ++ c.args.rest.now) ≡ Some (message_value g.I.NetlinkDeserializable.value c.args.message.now) =
    message_reads I.entry I.fits g.I.NetlinkDeserializable.reads g.I.NetlinkDeserializable.value g.met.I.NetlinkProtocol.round_trip g.met.I.NetlinkProtocol.inner c.args.message.now c.args.rest.now c.code_fits.ensures c.requires.fits c.requires.finalized in
    search rules
