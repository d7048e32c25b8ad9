use Rattle.std.proofs.Common.{pos, rules, ◌≡◌, ◌<◌, ◌+◌, ◌++◌, ◌∙◌, ap, sym, arith, length, get_or, take}
use Rattle.std.specs.Int.{w32, cast_unsigned}
use Rattle.link_message_nested.specs.InetSettings.{requested_from, requested_setting}
use Rattle.link_message_nested.proofs.Requests.{requested_next}
use Rattle.link_message_nested.proofs.inet.Request.new.Goals as goal

pub loop-index-preserved : goal.loop-index-preserved
loop-index-preserved c =
    let values = c.args.asked.now.values in
    let i = c.loop-index.index in
    let many : length values ≡ 33 = search rules in
    let within : i < length values = omega (arith, many, c.loop-index-test.true) in
    let is : c.cast_unsigned.result ≡ cast_unsigned w32 (get_or values i (pos 0)) = search rules in
    record {
      capacity = omega (arith, c.push.ensures.capacity, c.loop-index.invariant.capacity);
      requested = c.push.ensures.requested
          ∙ ap (λ r. r ++ requested_setting (i + 1) c.cast_unsigned.result) c.loop-index.invariant.requested
          ∙ ap (λ n. requested_from 1 (take i values) ++ requested_setting (i + 1) n) is
          ∙ sym (requested_next values i (pos 0) within);
    }
