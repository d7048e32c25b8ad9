-- a capture with a fault means the same as none
use Rattle.link_capture_comparing.proofs.Together.{faulty_differs}
use Rattle.link_capture_comparing.proofs.sources.are_same.Goals as goal

pub returns-in-Err : goal.returns-in-Err
returns-in-Err c = (λ h. absurd cc, λ s. absurd (faulty_differs c.same_captures_are_legal.ensures c.args.limit c.args.left.now c.args.right.now c.in-Err.field-0 c.in-Err.ensures.fault s))
