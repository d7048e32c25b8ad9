use Rattle.link_message_records.proofs.Pairs.{write_both}
use Rattle.link_message_records.proofs.fields.Tuple2Fields.write_prefix.Goals as goal

pub returns-clause-buffer : goal.returns-clause-buffer
returns-clause-buffer g c =
    write_both (g.A.Fields.bytes c.args.self.now.0) (g.B.Fields.bytes c.args.self.now.1) c.args.buffer.now _ _ _ _ g.A.Fields.size g.B.Fields.size _ c.write_prefix-first.ensures.has_size c.write_prefix-first.ensures.buffer c.write_prefix-first.ensures.size c.split_at_mut-rest.ensures.front c.split_at_mut-rest.ensures.back c.write_prefix-second.ensures.buffer
