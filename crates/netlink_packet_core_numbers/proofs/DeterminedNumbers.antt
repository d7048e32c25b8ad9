-- The bytes of a number determine it.
use Rattle.std.proofs.Common.{ap, sym, ◌∙◌}
use Rattle.netlink_packet_core_grammar.proofs.Numbers.{from_le2, from_le4, from_le8, from_be2, from_be4, from_be8}
use Rattle.std.specs.Int.{w16, w32, w64, w128, from_le_bytes, from_be_bytes}
use Rattle.netlink_packet_core_grammar.specs.Numbers.{le2, le4, le8, le16, be2, be4, be8, be16}
use Rattle.netlink_packet_core_numbers.proofs.Sixteen.{from_le_bytes-to_le_bytes_16, from_be_bytes-to_be_bytes_16}
use Rattle.netlink_packet_core_numbers.specs.Laws.{IsDetermined, OneNumber}

pub le2-determined : IsDetermined le2
le2-determined m n e = sym (from_le2 m) ∙ ap (from_le_bytes w16) e ∙ from_le2 n

pub le4-determined : IsDetermined le4
le4-determined m n e = sym (from_le4 m) ∙ ap (from_le_bytes w32) e ∙ from_le4 n

pub le8-determined : IsDetermined le8
le8-determined m n e = sym (from_le8 m) ∙ ap (from_le_bytes w64) e ∙ from_le8 n

pub le16-determined : OneNumber 128 le16
unfolding le16
le16-determined m n h k e = sym (from_le_bytes-to_le_bytes_16 m h) ∙ ap (from_le_bytes w128) e ∙ from_le_bytes-to_le_bytes_16 n k

pub be2-determined : IsDetermined be2
be2-determined m n e = sym (from_be2 m) ∙ ap (from_be_bytes w16) e ∙ from_be2 n

pub be4-determined : IsDetermined be4
be4-determined m n e = sym (from_be4 m) ∙ ap (from_be_bytes w32) e ∙ from_be4 n

pub be8-determined : IsDetermined be8
be8-determined m n e = sym (from_be8 m) ∙ ap (from_be_bytes w64) e ∙ from_be8 n

pub be16-determined : OneNumber 128 be16
unfolding be16
be16-determined m n h k e = sym (from_be_bytes-to_be_bytes_16 m h) ∙ ap (from_be_bytes w128) e ∙ from_be_bytes-to_be_bytes_16 n k
