-- The IPv4 settings of a link: the kind and the payload of each value.
use Rattle.std.specs.Prelude.{ℕ, ℤ, suc, ◌==◌, cond, List, [], ◌∷◌, ◌++◌, map, take}
use Rattle.std.specs.Int.{w32, cast_unsigned}
use Rattle.netlink_packet_core.specs.Attributes.{Attribute, proper_kind, list_text}
use Rattle.netlink_packet_core.specs.Families.{attribute}
use Rattle.netlink_packet_core.specs.Numbers.{le4}
use Rattle.attribute_tables_grammar.specs.LookUps.{HasNoRow}
use Rattle.link_message_grammar.specs.NestedTables.{inet}
use Rattle.link_message_records.specs.ValueRecords.{i32_values_bytes}
use Rattle.link_message_nested.specs.declared.inet.AfSpecInet.{AfSpecInet}
use Rattle.link_message_nested.specs.declared.inet.Request.{Request}
use Rattle.link_message_nested.specs.declared.inet.RequestedSetting.{RequestedSetting}

-- The attribute that requests a setting; none if it is 0.
abbrev pub requested_setting : ℕ → ℕ → List Attribute
requested_setting k n = cond (n == 0) [] (attribute k (le4 n) ∷ [])

-- The attributes that request settings, each with its index as kind; the first has the given one.
abbrev pub requested_from : ℕ → List ℤ → List Attribute
requested_from k [] = []
requested_from k (z ∷ zs) = requested_setting k (cast_unsigned w32 z) ++ requested_from (suc k) zs

-- The kind and the payload of a value.
abbrev pub af_spec_inet_entry : AfSpecInet → Attribute
af_spec_inet_entry (AfSpecInet.DevConf r) = attribute 1 (i32_values_bytes r)
af_spec_inet_entry (AfSpecInet.DevConfRequest r) = attribute 0x8001 (list_text (requested_from 1 r.values))
af_spec_inet_entry (AfSpecInet.Other a) = a

-- The value is the variant that its row names: a kind with a row isn't kept as `Other`, and none is read as a request.
abbrev pub af_spec_inet_names_row : AfSpecInet → Type 0
af_spec_inet_names_row (AfSpecInet.DevConf r) = Unit {0}
af_spec_inet_names_row (AfSpecInet.DevConfRequest r) = ⊥
af_spec_inet_names_row (AfSpecInet.Other a) = HasNoRow inet (proper_kind a.kind)

-- ---- requested settings, as code holds them

-- The attribute of a requested setting.
abbrev pub requested_entry : RequestedSetting → Attribute
requested_entry s = attribute s.kind (le4 s.number)

-- The attributes of all settings in a request.
abbrev pub requested_so_far : Request → List Attribute
requested_so_far r = map requested_entry (take r.count r.settings)
