-- The data of macsec: the kind and the payload of each value.
use Rattle.std.specs.Prelude.{◌≡◌, ◌∷◌, []}
use Rattle.netlink_packet_core.specs.Attributes.{Attribute, proper_kind}
use Rattle.netlink_packet_core.specs.Numbers.{be2, le4, le8}
use Rattle.link_info_types.specs.MacSecTypes.{mac_sec_cipher_id_number, mac_sec_cipher_id_of, mac_sec_validate_number}
use Rattle.link_info_types.specs.MacSecTypes.{mac_sec_validate_of, mac_sec_offload_number, mac_sec_offload_of}
use Rattle.link_info_grammar.specs.Families.{macsec}
use Rattle.attribute_tables_grammar.specs.LookUps.{HasNoRow}
use Rattle.netlink_packet_core.specs.Families.{attribute}
use Rattle.link_info_devices.specs.declared.macsec.InfoMacSec.{InfoMacSec}
use Rattle.link_info_devices.specs.declared.macsec.InfoMacSec.TheVariants as MacSec

-- The attribute of a value.
abbrev pub macsec_entry : InfoMacSec → Attribute
macsec_entry (MacSec.Sci n) = attribute 1 (le8 n)
macsec_entry (MacSec.Port n) = attribute 2 (be2 n)
macsec_entry (MacSec.IcvLen n) = attribute 3 (n ∷ [])
macsec_entry (MacSec.CipherSuite m) = attribute 4 (le8 (mac_sec_cipher_id_number m))
macsec_entry (MacSec.Window n) = attribute 5 (le4 n)
macsec_entry (MacSec.EncodingSa n) = attribute 6 (n ∷ [])
macsec_entry (MacSec.Encrypt n) = attribute 7 (n ∷ [])
macsec_entry (MacSec.Protect n) = attribute 8 (n ∷ [])
macsec_entry (MacSec.IncSci n) = attribute 9 (n ∷ [])
macsec_entry (MacSec.Es n) = attribute 10 (n ∷ [])
macsec_entry (MacSec.Scb n) = attribute 11 (n ∷ [])
macsec_entry (MacSec.ReplayProtect n) = attribute 12 (n ∷ [])
macsec_entry (MacSec.Validation m) = attribute 13 (mac_sec_validate_number m ∷ [])
macsec_entry (MacSec.Offload m) = attribute 15 (mac_sec_offload_number m ∷ [])
macsec_entry (MacSec.Other a) = a

-- The value is the variant of its row: a listed number is no `Other`, and neither is an attribute whose kind has a row.
abbrev pub macsec_is_row_variant : InfoMacSec → Type 0
macsec_is_row_variant (MacSec.CipherSuite m) = m ≡ mac_sec_cipher_id_of (mac_sec_cipher_id_number m)
macsec_is_row_variant (MacSec.Validation m) = m ≡ mac_sec_validate_of (mac_sec_validate_number m)
macsec_is_row_variant (MacSec.Offload m) = m ≡ mac_sec_offload_of (mac_sec_offload_number m)
macsec_is_row_variant (MacSec.Other a) = HasNoRow macsec (proper_kind a.kind)
macsec_is_row_variant _ = Unit {0}
