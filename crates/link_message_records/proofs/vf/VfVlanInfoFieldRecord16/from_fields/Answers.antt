use Rattle.std.proofs.Common.{rules, ℕ, List, ap, ◌∙◌}
use Rattle.netlink_packet_core.specs.Numbers.{be2}
use Rattle.netlink_packet_core_grammar.proofs.Numbers.{be2_read}
use Rattle.link_message_records.proofs.vf.VfVlanInfoFieldRecord16.from_fields.Goals as goal

pub returns-clause-fields : goal.returns-clause-fields
returns-clause-fields c =
    ap (λ (x : List ℕ). (c.args.arg1.0, (c.args.arg1.1.0, (c.args.arg1.1.1.0, x)))) (ap be2 c.from.ensures.keeps_the_number ∙ be2_read c.args.arg1.1.1.1 _ (search rules) (search rules) c.from_be_bytes.ensures)
