-- Identifiers of ports and switches.
use Rattle.std.specs.Prelude.{ℕ, List}
use Rattle.link_message_types.specs.declared.phys_id.LinkPhysId.{LinkPhysId}

-- The bytes that an identifier is written as.
abbrev pub link_phys_id_bytes : LinkPhysId → List ℕ
link_phys_id_bytes v = v.bytes
