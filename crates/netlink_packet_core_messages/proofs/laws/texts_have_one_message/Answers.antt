-- a written message is read back
use Rattle.std.proofs.Common.{◌≡◌, ◌++◌, ◌∙◌, [], Some, sym, ap}
use Rattle.netlink_packet_core_messages.specs.Messages.{read_message, message_text, message_value}
use Rattle.netlink_packet_core_messages.proofs.Whole.{message_reads}
use Rattle.netlink_packet_core_messages.proofs.laws.texts_have_one_message.Goals as goal

pub returns : goal.returns
returns g c =
    let I = g.I.NetlinkSerializable in
    let one : read_message g.I.NetlinkDeserializable.reads (message_text I.entry c.args.message.now ++ []) ≡ Some (message_value g.I.NetlinkDeserializable.value c.args.message.now) =
    message_reads I.entry I.fits g.I.NetlinkDeserializable.reads g.I.NetlinkDeserializable.value g.met.I.NetlinkProtocol.round_trip g.met.I.NetlinkProtocol.inner c.args.message.now [] c.code_fits.ensures c.requires.fits c.requires.finalized in
    let two : read_message g.I.NetlinkDeserializable.reads (message_text I.entry c.args.other.now ++ []) ≡ Some (message_value g.I.NetlinkDeserializable.value c.args.other.now) =
    message_reads I.entry I.fits g.I.NetlinkDeserializable.reads g.I.NetlinkDeserializable.value g.met.I.NetlinkProtocol.round_trip g.met.I.NetlinkProtocol.inner c.args.other.now [] c.code_fits-2.ensures c.requires.other_fits c.requires.other_finalized in
    let same : Some (message_value g.I.NetlinkDeserializable.value c.args.message.now) ≡ Some (message_value g.I.NetlinkDeserializable.value c.args.other.now) = sym one ∙ ap (λ t. read_message g.I.NetlinkDeserializable.reads (t ++ [])) c.requires.same ∙ two in
    cc
