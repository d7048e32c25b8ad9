use Rattle.std.proofs.Common.{refl}
use Rattle.link_message_types.proofs.HeaderBytes.{whole_header}
use Rattle.link_message_types.proofs.header.LinkHeaderRecord16.to_bytes.Goals as goal

pub returns : goal.returns
returns c = whole_header c.args.self.now _ _ refl c.emit.ensures
