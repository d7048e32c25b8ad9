use Rattle.std.proofs.Common.{sym, ◌∙◌, arith}
use Rattle.link_interpreter.proofs.same.next_kept.Goals as goal

pub loop-rest-preserved : goal.loop-rest-preserved
loop-rest-preserved c =
    record {
      kept = sym (c.kept_attributes_unfold.ensures.past _ _ _ _ c.in-Some.ensures.first (sym (c.is_kept.ensures _) ∙ c.if-is_kept.false)) ∙ c.loop-rest.invariant.kept;
      within = omega (arith, c.in-Some.ensures.within, c.in-Some.ensures.following);
    }
