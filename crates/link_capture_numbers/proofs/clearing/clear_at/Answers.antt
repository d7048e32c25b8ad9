use Rattle.std.proofs.Common.{◌≡◌, ◌+◌, ◌-◌, ◌++◌, take, drop, ap, ◌∙◌, arith}
use Rattle.std.proofs.lemmas.List.{drop-drop}
use Rattle.netlink_packet_core_grammar.specs.Attributes.{zeros}
use Rattle.link_capture_numbers.specs.Cleared.{zeros_at}
use Rattle.link_capture_numbers.proofs.clearing.clear_at.Goals as goal

pub returns : goal.returns
unfolding zeros_at
returns c =
    let eight : c.args.offset + 8 - c.args.offset ≡ 8 = omega arith in
    ap (λ l. take c.args.offset c.args.bytes.now ++ (l ++ drop (c.args.offset + 8 - c.args.offset) (drop c.args.offset c.args.bytes.now))) c.copy_from_slice.ensures.after
    ∙ ap (λ k. take c.args.offset c.args.bytes.now ++ (zeros 8 ++ drop k (drop c.args.offset c.args.bytes.now))) eight
    ∙ ap (λ l. take c.args.offset c.args.bytes.now ++ (zeros 8 ++ l)) (drop-drop 8 c.args.offset c.args.bytes.now)
