use Rattle.std.proofs.Common.{◌++◌, ◌∙◌, sym, append_assoc}
use Rattle.netlink_packet_core_messages.specs.Headers.{header_text}
use Rattle.netlink_packet_core_messages.specs.Payloads.{payload_entry}
use Rattle.netlink_packet_core_messages.proofs.Headers.{length_at}
use Rattle.netlink_packet_core_messages.proofs.Sizes.{length-message_text}
use Rattle.netlink_packet_core_messages.proofs.Whole.{whole}
use Rattle.netlink_packet_core_messages.proofs.laws.messages_are_frames.Goals as goal

pub returns-clause-whole : goal.returns-clause-whole
returns-clause-whole g c =
    let m = c.args.message.now in
    let t = (payload_entry g.I.NetlinkSerializable.entry m.payload).1 in
    rw (append_assoc (header_text m.header) t c.args.rest.now) (whole m.header t c.args.rest.now c.requires.has_length)

pub returns-clause-length : goal.returns-clause-length
returns-clause-length g c =
    let m = c.args.message.now in
    let t = (payload_entry g.I.NetlinkSerializable.entry m.payload).1 in
    let l = length-message_text g.I.NetlinkSerializable.entry m in
    rw (append_assoc (header_text m.header) t c.args.rest.now) (length_at m.header (t ++ c.args.rest.now) ∙ c.requires.has_length ∙ sym l)

pub returns-clause-size : goal.returns-clause-size
returns-clause-size g c = length-message_text g.I.NetlinkSerializable.entry c.args.message.now
