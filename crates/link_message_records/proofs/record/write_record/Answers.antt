use Rattle.std.proofs.Common.{◌++◌, ◌-◌, ◌∙◌, ap, sym}
use Rattle.netlink_packet_core.specs.Attributes.{zeros}
use Rattle.link_message_records.specs.Records.{with_zeros}
use Rattle.link_message_records.proofs.Pairs.{padded, padding_is}
use Rattle.link_message_records.proofs.record.write_record.Goals as goal

pub returns : goal.returns
returns g c =
    let fields = g.R.Fields.Fields.bytes (g.R.FieldRecord.fields_of c.args.value.now) in
    let padding = g.row.N - g.R.Fields.Fields.size in
    let x = g.R.Fields.Fields.bytes c.fields.result in
    let text = padding_is padding fields ∙ ap (λ v. g.R.Fields.Fields.bytes v ++ zeros padding) (sym c.fields.ensures) in
    let prefix = padded x _ _ _ _ _ (with_zeros padding fields) g.R.Fields.Fields.size padding g.row.N _ c.write_prefix-size.ensures.has_size g.met.R.FieldRecord.fills_record c.split_at_mut-prefix.ensures.front_len c.write_prefix-size.ensures.buffer c.write_prefix-size.ensures.size c.split_at_mut-rest.ensures.front c.split_at_mut-rest.ensures.back c.fill_zeros.ensures text in
    ap (λ z. z ++ c.split_at_mut-prefix.result.1.now) prefix
    ∙ ap (λ z. with_zeros padding fields ++ z) c.split_at_mut-prefix.ensures.back
