use Rattle.std.proofs.Common.{◌≡◌, ◌++◌, ◌*◌, ◌∙◌, ap, sym, arith, take, length-set}
use Rattle.std.specs.List.{flat_map}
use Rattle.std.proofs.lemmas.List.{take_all}
use Rattle.netlink_packet_core.specs.Attributes.{zeros}
use Rattle.link_message_records.proofs.Filled.{read_more, rest_more}
use Rattle.link_message_records.proofs.values.Values.parse.Goals as goal

pub loop-i-preserved : goal.loop-i-preserved
loop-i-preserved g c =
    let s = g.T.Fields.size in
    let i = c.loop-i.i in
    let inv = c.loop-i.invariant in
    record {
      size = length-set c.loop-i.values i c.read_filled-number.result.0 ∙ inv.size;
      text = read_more g.T.Fields.bytes s i c.args.payload.now c.loop-i.rest.now c.read_filled-number.result.1.now c.loop-i.values c.read_filled-number.result.0 (omega (arith, inv.size, c.loop-i-test.true)) c.read_filled-number.ensures.number inv.rest inv.text;
      rest = rest_more s i c.args.payload.now c.loop-i.rest.now c.read_filled-number.result.1.now inv.rest c.read_filled-number.ensures.rest;
    }

pub returns-clause-text : goal.returns-clause-text
returns-clause-text g c =
    let inv = c.loop-i.invariant in
    let ended : c.loop-i.i ≡ g.row.N = omega (arith, c.loop-i-test.false, c.loop-i.auto.i-end) in
    let all : take c.loop-i.i c.loop-i.values ≡ c.loop-i.values = take_all c.loop-i.i c.loop-i.values (omega (arith, inv.size, ended)) in
    ap (flat_map g.T.Fields.bytes) (sym all)
    ∙ inv.text
    ∙ ap (λ i. take (g.T.Fields.size * i) (c.args.payload.now ++ zeros (g.T.Fields.size * i))) ended
