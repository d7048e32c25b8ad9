use Rattle.std.proofs.Common.{◌≡◌, ◌-◌, ◌++◌, length, take, sym, ap, ◌∙◌, append_assoc, arith}
use Rattle.netlink_packet_core_grammar.specs.Attributes.{zeros}
use Rattle.link_interpreter.proofs.SameShapes.{pad_in}
use Rattle.link_interpreter.proofs.write_shapes.append_resized.Goals as goal

pub returns-clause-text : goal.returns-clause-text
returns-clause-text c =
    let out = c.args.out.now.items in
    let size = c.args.size in
    let payload = c.args.payload.now in
    let prefix : c.first-prefix.result.now ≡ take size payload = c.first-prefix.ensures in
    c.append_zeros.ensures.text ∙ ap (λ x. x ++ zeros (size - length c.first-prefix.result.now)) c.append.ensures.text
    ∙ append_assoc out c.first-prefix.result.now (zeros (size - length c.first-prefix.result.now))
    ∙ ap (λ x. out ++ (x ++ zeros (size - length x))) prefix ∙ ap (λ x. out ++ x) (sym (pad_in size size payload (omega arith)))
