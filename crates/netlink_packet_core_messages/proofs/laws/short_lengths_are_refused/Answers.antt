use Rattle.netlink_packet_core_grammar.specs.Laws.{NumbersAreIndependent}
use Rattle.netlink_packet_core_grammar.proofs.Numbers.{u16_at-append, u32_at-append}
use Rattle.netlink_packet_core_messages.proofs.Past.{short_refused}
use Rattle.netlink_packet_core_messages.proofs.laws.short_lengths_are_refused.Goals as goal

numbers_are_independent : NumbersAreIndependent
numbers_are_independent = record { two_bytes = u16_at-append; four_bytes = u32_at-append }

pub returns : goal.returns
returns g c = short_refused numbers_are_independent g.I.NetlinkDeserializable.reads c.args.header.now c.args.rest.now c.requires.whole c.requires.short
