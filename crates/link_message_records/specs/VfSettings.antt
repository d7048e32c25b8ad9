-- Settings of virtual functions that are on or off (if_link.h, such as struct ifla_vf_spoofchk).
use Rattle.std.specs.Prelude.{ℕ, List, ◌++◌}
use Rattle.netlink_packet_core.specs.Attributes.{zeros}
use Rattle.netlink_packet_core.specs.Numbers.{le4}
use Rattle.netlink_packet_core.specs.Booleans.{boolean_byte}
use Rattle.link_message_records.specs.declared.vf_setting.VfInfoSetting.{VfInfoSetting}

-- The kind of a setting's attribute.
abbrev pub vf_info_setting_kind : {k : ℕ} → VfInfoSetting k → ℕ
vf_info_setting_kind {k} v = k

-- The bytes of a setting: a number of 4 bytes, and a boolean of 4 bytes.
abbrev pub vf_info_setting_bytes : {k : ℕ} → VfInfoSetting k → List ℕ
vf_info_setting_bytes v = le4 v.vf_id ++ (boolean_byte v.enabled ++ zeros 3)
