use Rattle.std.proofs.Common.{sym, ◌∙◌, arith}
use Rattle.std.specs.Prelude.{slice_index}
use Rattle.link_message_checks.proofs.Headers.{named_layer, void_layer}
use Rattle.link_message_checks.proofs.header.layer_type.Goals as goal

pub returns-then-has_name : goal.returns-then-has_name
returns-then-has_name c = named_layer (slice_index c.args.bytes.now 2) (slice_index c.args.bytes.now 3) (let f = c.type_inv.bytes 2 in omega (arith, f)) (sym c.has_name.ensures ∙ c.if-has_name.true)

pub returns-else-has_name : goal.returns-else-has_name
returns-else-has_name c = void_layer (slice_index c.args.bytes.now 2) (slice_index c.args.bytes.now 3) (sym c.has_name.ensures ∙ c.if-has_name.false)
