use Rattle.std.proofs.Common.{◌∙◌, sym}
use Rattle.link_message_types.proofs.Masks.{join_step, join_end}
use Rattle.link_message_types.proofs.ext_mask.LinkExtentMask.join.Goals as goal

pub loop-mask-preserved : goal.loop-mask-preserved
loop-mask-preserved c = c.loop-mask.invariant ∙ join_step c.loop-mask.number c.from-number.result c.args.masks.now c.loop-mask.mask-index _ c.loop-mask-test.true c.from-number.ensures

pub returns : goal.returns
returns c = sym (c.loop-mask.invariant ∙ join_end c.loop-mask.number c.args.masks.now c.loop-mask.mask-index c.loop-mask-test.false)
