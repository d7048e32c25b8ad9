use Rattle.netlink_packet_core_messages.proofs.Whole.{message_reads}
use Rattle.netlink_packet_core_messages.proofs.laws.messages_read_back.Goals as goal

pub returns : goal.returns
returns g c =
    message_reads g.I.NetlinkSerializable.entry g.I.NetlinkSerializable.fits g.I.NetlinkDeserializable.reads g.I.NetlinkDeserializable.value g.met.I.NetlinkProtocol.round_trip g.met.I.NetlinkProtocol.inner c.args.message.now c.args.rest.now c.code_fits.ensures c.requires.fits c.requires.finalized
