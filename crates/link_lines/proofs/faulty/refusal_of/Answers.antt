-- The first message is a message without what follows it.
use Rattle.std.proofs.Common.{subst, sym}
use Rattle.netlink_packet_core_grammar.specs.Frames.{BeginsWithFrame}
use Rattle.link_lines.proofs.Header.{frame_is_frame}
use Rattle.link_lines.proofs.faulty.refusal_of.Goals as goal

pub why_frame-requires-clause-frame : goal.why_frame-requires-clause-frame
why_frame-requires-clause-frame c = subst BeginsWithFrame (sym c.frame_of-frame.ensures) (frame_is_frame c.args.bytes.now c.requires)
