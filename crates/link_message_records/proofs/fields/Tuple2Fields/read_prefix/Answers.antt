use Rattle.link_message_records.proofs.Pairs.{read_both}
use Rattle.link_message_records.proofs.fields.Tuple2Fields.read_prefix.Goals as goal

pub returns-clause-values : goal.returns-clause-values
returns-clause-values g c = read_both g.A.Fields.size g.B.Fields.size c.args.prefix.now _ _ _ c.in_ok-first.ensures.values c.in_ok-first.ensures.rest c.in_ok-second.ensures.values
