use Rattle.std.proofs.Common.{◌∙◌, ap, arith}
use Rattle.netlink_packet_core_grammar.specs.Numbers.{le4}
use Rattle.link_info_types.specs.NetkitTypes.{netkit_scrub_number}
use Rattle.link_info_devices.proofs.Scrubs.{scrub_of_parts}
use Rattle.link_info_devices.proofs.netkit.parse_scrub.Goals as goal

pub returns-in-len4-clause-ok : goal.returns-in-len4-clause-ok
returns-in-len4-clause-ok c =
    ap (λ s. le4 (netkit_scrub_number s)) c.from-in-len4-4.ensures.named
    ∙ scrub_of_parts c.args.payload.now _ _ _ _ (omega (arith, c.in-len4.len_at_least, c.in-len4.len_below)) c.from.ensures c.from-in-len4.ensures c.from-in-len4-2.ensures c.from-in-len4-3.ensures
