-- A fault of a header.
use Rattle.std.proofs.Common.{length}
use Rattle.netlink_packet_core_grammar.specs.Frames.{frame_length}
use Rattle.link_lines.proofs.Header.{header_fault}
use Rattle.link_lines.proofs.messages.judge.Goals as goal

pub returns-in-Err-clause-ok : goal.returns-in-Err-clause-ok
returns-in-Err-clause-ok c =
    let bytes = c.args.bytes.now in
    let header = c.in-Err.ensures.err in
    (c.frames_are_judged.ensures.header c.args.limit bytes c.in-Err.kind header, header_fault c.args.limit (length bytes) (frame_length bytes) c.in-Err.kind header)
