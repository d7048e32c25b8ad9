-- Records of many numbers of one size, one after the other.
use Rattle.std.specs.Prelude.{ℕ, ℤ, List}
use Rattle.std.specs.List.{flat_map}
use Rattle.netlink_packet_core.specs.Numbers.{le4, le8, signed_bits}
use Rattle.attribute_tables_grammar.specs.LookUps.{payload_rule}
use Rattle.attribute_tables_grammar.specs.Peers.{bytes_peer}
use Rattle.attribute_tables_grammar.specs.Rules.{Rule}
use Rattle.link_message_grammar.specs.NestedTables.{resized}
use Rattle.link_message_records.specs.declared.values.Values.{Values}

-- The bytes of unsigned numbers of 4 bytes.
abbrev pub u32_values_bytes : {n : ℕ} → Values ℕ n → List ℕ
u32_values_bytes v = flat_map le4 v.values

-- The bytes of unsigned numbers of 8 bytes.
abbrev pub u64_values_bytes : {n : ℕ} → Values ℕ n → List ℕ
u64_values_bytes v = flat_map le8 v.values

-- The bytes of signed numbers of 4 bytes.
abbrev pub i32_values_bytes : {n : ℕ} → Values ℤ n → List ℕ
i32_values_bytes v = flat_map (λ z. le4 (signed_bits z)) v.values

-- The rule of a row of settings of n bytes.
abbrev pub settings_rule : ℕ → Rule
settings_rule n = payload_rule bytes_peer (resized n)
