-- The data of macvlan and of macvtap: the kind and the payload of each value.
use Rattle.std.specs.Prelude.{◌≡◌, ◌++◌, ◌&&◌, ◌==◌, cond, ℕ, Bool, true, List, []}
use Rattle.std.specs.List.{All}
use Rattle.netlink_packet_core.specs.Attributes.{Attribute, proper_kind, attribute_text}
use Rattle.netlink_packet_core.specs.Fits.{attribute_fits}
use Rattle.netlink_packet_core.specs.Numbers.{le2, le4, signed_bits}
use Rattle.link_info_types.specs.MacVlanTypes.{mac_vlan_mode_number, mac_vlan_mode_of, mac_vlan_flags_bits}
use Rattle.link_info_types.specs.MacVlanTypes.{mac_vlan_mac_address_mode_number, mac_vlan_mac_address_mode_of}
use Rattle.link_info_grammar.specs.Families.{macvlan, macvlan_address}
use Rattle.attribute_tables_grammar.specs.Lists.{row_at}
use Rattle.attribute_tables_grammar.specs.LookUps.{HasNoRow}
use Rattle.attribute_tables_grammar.specs.Tables.{Table}
use Rattle.attribute_tables.specs.Beginnings.{begins_accepted}
use Rattle.netlink_packet_core.specs.AttributeViews.{viewed_attribute, viewed_kind, viewed_payload}
use Rattle.netlink_packet_core.specs.Families.{Gives, attribute, family_row, may_allocate}
use Rattle.link_info_devices.specs.declared.mac_vlan.InfoMacVlan.{InfoMacVlan, Row_of-InfoMacVlan, end_of-InfoMacVlan}
use Rattle.link_info_devices.specs.declared.mac_vlan.InfoMacVlan.{more_of-InfoMacVlan, items-the_row-InfoMacVlan, Mode}
use Rattle.link_info_devices.specs.declared.mac_vlan.InfoMacVlan.{Flags, MacAddrMode, MacAddr, MacAddrData'}
use Rattle.link_info_devices.specs.declared.mac_vlan.InfoMacVlan.{MacAddrCount, BcQueueLen, BcQueueLenUsed, BcCutoff}
use Rattle.link_info_devices.specs.declared.mac_vlan.InfoMacVlan.{Other}

-- The attribute of a value, and the encoding of a list of values.
abbrev mutual
  pub mac_vlan_entry : InfoMacVlan → Attribute
  mac_vlan_entry (Mode m) = attribute 1 (le4 (mac_vlan_mode_number m))
  mac_vlan_entry (Flags f) = attribute 2 (le2 (mac_vlan_flags_bits f))
  mac_vlan_entry (MacAddrMode m) = attribute 3 (le4 (mac_vlan_mac_address_mode_number m))
  mac_vlan_entry (MacAddr a) = attribute 4 a
  mac_vlan_entry (MacAddrData' shape row) = attribute 5 (mac_vlan_texts row)
  mac_vlan_entry (MacAddrCount m) = attribute 6 (le4 m)
  mac_vlan_entry (BcQueueLen m) = attribute 7 (le4 m)
  mac_vlan_entry (BcQueueLenUsed m) = attribute 8 (le4 m)
  mac_vlan_entry (BcCutoff z) = attribute 9 (le4 (signed_bits z))
  mac_vlan_entry (Other a) = a

  pub mac_vlan_texts : {m : _} → Row_of-InfoMacVlan m → List ℕ
  mac_vlan_texts end_of-InfoMacVlan = []
  mac_vlan_texts (more_of-InfoMacVlan v row) = attribute_text (mac_vlan_entry v) ++ mac_vlan_texts row

-- Each length inside a value fits the 2 bytes of its header, at all depths.
abbrev mutual
  pub mac_vlan_fits : InfoMacVlan → Bool
  mac_vlan_fits (MacAddrData' shape row) = mac_vlan_all_fit row
  mac_vlan_fits _ = true

  pub mac_vlan_all_fit : {m : _} → Row_of-InfoMacVlan m → Bool
  mac_vlan_all_fit end_of-InfoMacVlan = true
  mac_vlan_all_fit (more_of-InfoMacVlan v row) = (attribute_fits (mac_vlan_entry v) && mac_vlan_fits v) &&
      mac_vlan_all_fit row

-- The value is the variant of its row in this table: a listed number is no `Other`, and neither is an attribute whose
-- kind has a row.
abbrev pub mac_vlan_named_by : Table → (List InfoMacVlan → Type 0) → InfoMacVlan → Type 0
mac_vlan_named_by t inside (Mode m) = m ≡ mac_vlan_mode_of (mac_vlan_mode_number m)
mac_vlan_named_by t inside (MacAddrMode m) = m ≡ mac_vlan_mac_address_mode_of (mac_vlan_mac_address_mode_number m)
mac_vlan_named_by t inside (MacAddrData' shape row) = inside (items-the_row-InfoMacVlan _ row)
mac_vlan_named_by t inside (Other a) = HasNoRow t (proper_kind a.kind)
mac_vlan_named_by t inside _ = Unit {0}

-- The value is the variant of its row in the list of source addresses, in which no value is a list.
abbrev pub mac_vlan_address_is_row_variant : InfoMacVlan → Type 0
mac_vlan_address_is_row_variant = mac_vlan_named_by macvlan_address (λ _. ⊥)

-- The value is the variant of its row, and so is each value inside it.
abbrev pub mac_vlan_is_row_variant : InfoMacVlan → Type 0
mac_vlan_is_row_variant = mac_vlan_named_by macvlan (All mac_vlan_address_is_row_variant)

-- Reading an attribute may run out of memory: the list of source addresses if its first attribute is accepted, another
-- one if its row holds bytes and accepts it.
abbrev pub mac_vlan_may_allocate : List ℕ → Bool
mac_vlan_may_allocate b =
    cond (proper_kind (viewed_kind b) == 5) (begins_accepted (family_row macvlan_address) (viewed_payload b))
    (may_allocate macvlan b)

-- The value is that of the attribute at the start of the bytes.
pub record MacVlanGives (b : List ℕ) (v : InfoMacVlan) : Type 0 where
  pub entry : Gives macvlan b (mac_vlan_entry v)
  pub fits : mac_vlan_fits v ≡ (row_at (family_row macvlan) (viewed_attribute b)).rule.fits (viewed_payload b)
  pub is_row_variant : mac_vlan_is_row_variant v
