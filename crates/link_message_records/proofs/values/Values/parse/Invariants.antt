-- The numbers read so far are a prefix of the payload, padded with zeros.
use Rattle.std.proofs.Common.{◌≡◌, ◌*◌, ◌++◌, length, take, drop}
use Rattle.std.specs.List.{flat_map}
use Rattle.netlink_packet_core.specs.Attributes.{zeros}
use Rattle.link_message_records.proofs.values.Values.parse.Given as goal

abbrev pub invariant-loop-i : goal.invariant-loop-i
invariant-loop-i g l = record {
  size : length l.values ≡ g.row.N;
  text : flat_map g.T.Fields.bytes (take l.i l.values) ≡ take (g.T.Fields.size * l.i) (l.payload ++ zeros (g.T.Fields.size * l.i));
  rest : l.rest ≡ drop (g.T.Fields.size * l.i) l.payload;
}
