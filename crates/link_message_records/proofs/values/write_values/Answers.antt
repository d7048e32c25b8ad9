use Rattle.std.proofs.Common.{length, arith, length-drop}
use Rattle.link_message_records.proofs.Filled.{enough_at}
use Rattle.link_message_records.proofs.values.write_values.Goals as goal

pub write_prefix-at-requires : goal.write_prefix-at-requires
write_prefix-at-requires g c =
    let v = c.value-item.result in
    let enough = enough_at g.T.Fields.bytes g.T.Fields.size c.args.values.now c.loop-value.value-index v c.loop-value-test.true c.value-item.is (g.met.T.Number.has_size v) in
    omega (arith, enough, c.loop-value.invariant.position, length-drop c.loop-value.at c.loop-value.buffer)
