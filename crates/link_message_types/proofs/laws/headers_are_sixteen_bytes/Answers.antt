use Rattle.link_message_types.proofs.HeaderBytes.{length-link_header_bytes}
use Rattle.link_message_types.proofs.laws.headers_are_sixteen_bytes.Goals as goal

pub returns : goal.returns
returns c = length-link_header_bytes
