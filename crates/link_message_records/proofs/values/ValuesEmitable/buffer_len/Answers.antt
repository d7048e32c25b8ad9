use Rattle.std.proofs.Common.{◌*◌, ◌∙◌, ap, sym, length}
use Rattle.netlink_packet_core.specs.Numbers.{as_usize}
use Rattle.link_message_records.proofs.Filled.{length_flat}
use Rattle.link_message_records.proofs.values.ValuesEmitable.buffer_len.Goals as goal

pub returns : goal.returns
returns g c =
    let size = length_flat g.T.Fields.bytes g.T.Fields.size c.args.self.now.values g.met.T.Number.has_size in
    c.saturating_mul.ensures
    ∙ ap (λ n. as_usize (n * length c.as_slice.result.now)) c.len.ensures
    ∙ ap (λ v. as_usize (g.T.Fields.size * length v)) c.as_slice.ensures
    ∙ ap as_usize (sym size)
