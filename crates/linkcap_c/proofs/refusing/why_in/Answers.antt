use Rattle.std.proofs.Common.{arith}
use Rattle.linkcap_c.proofs.refusing.why_in.Goals as goal

pub following-requires : goal.following-requires
following-requires c = let s = c.faults_are_at_frames.ensures c.args.limit c.args.bytes.now c.in-Err.field-0 c.in-Err.ensures.fault in omega (arith, s.0)
