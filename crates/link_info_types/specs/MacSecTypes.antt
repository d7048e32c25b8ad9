-- The numbers of MACsec.
use Rattle.std.specs.Prelude.{ℕ, List, [], ◌∷◌}
use Rattle.netlink_packet_core.specs.Named.{numbered_by}
use Rattle.link_info_types.specs.declared.macsec.MacSecCipherId.{MacSecCipherId}
use Rattle.link_info_types.specs.declared.macsec.MacSecValidate.{MacSecValidate}
use Rattle.link_info_types.specs.declared.macsec.MacSecOffload.{MacSecOffload}

-- The number of a MACsec cipher suite.
abbrev pub mac_sec_cipher_id_number : MacSecCipherId → ℕ
mac_sec_cipher_id_number MacSecCipherId.DefaultGcmAes128 = 0x0080020001000001
mac_sec_cipher_id_number MacSecCipherId.GcmAes128 = 0x0080C20001000001
mac_sec_cipher_id_number MacSecCipherId.GcmAes256 = 0x0080C20001000002
mac_sec_cipher_id_number MacSecCipherId.GcmAesXpn128 = 0x0080C20001000003
mac_sec_cipher_id_number MacSecCipherId.GcmAesXpn256 = 0x0080C20001000004
mac_sec_cipher_id_number (MacSecCipherId.Other n) = n

-- The variants of a MACsec cipher suite, except `Other`.
abbrev pub listed_mac_sec_cipher_ids : List MacSecCipherId
listed_mac_sec_cipher_ids =
    MacSecCipherId.DefaultGcmAes128 ∷ MacSecCipherId.GcmAes128 ∷ MacSecCipherId.GcmAes256 ∷
    MacSecCipherId.GcmAesXpn128 ∷ MacSecCipherId.GcmAesXpn256 ∷ []

-- The MACsec cipher suite with this number.
abbrev pub mac_sec_cipher_id_of : ℕ → MacSecCipherId
mac_sec_cipher_id_of n =
    numbered_by mac_sec_cipher_id_number listed_mac_sec_cipher_ids MacSecCipherId.Other n

-- The number of a MACsec validation mode.
abbrev pub mac_sec_validate_number : MacSecValidate → ℕ
mac_sec_validate_number MacSecValidate.Disabled = 0
mac_sec_validate_number MacSecValidate.Check = 1
mac_sec_validate_number MacSecValidate.Strict = 2
mac_sec_validate_number (MacSecValidate.Other n) = n

-- The variants of a MACsec validation mode, except `Other`, in the order of their numbers.
abbrev pub listed_mac_sec_validations : List MacSecValidate
listed_mac_sec_validations =
    MacSecValidate.Disabled ∷ MacSecValidate.Check ∷ MacSecValidate.Strict ∷ []

-- The MACsec validation mode with this number.
abbrev pub mac_sec_validate_of : ℕ → MacSecValidate
mac_sec_validate_of n =
    numbered_by mac_sec_validate_number listed_mac_sec_validations MacSecValidate.Other n

-- The number of a MACsec offload mode.
abbrev pub mac_sec_offload_number : MacSecOffload → ℕ
mac_sec_offload_number MacSecOffload.Off = 0
mac_sec_offload_number MacSecOffload.Phy = 1
mac_sec_offload_number MacSecOffload.Mac = 2
mac_sec_offload_number (MacSecOffload.Other n) = n

-- The variants of a MACsec offload mode, except `Other`, in the order of their numbers.
abbrev pub listed_mac_sec_offloads : List MacSecOffload
listed_mac_sec_offloads = MacSecOffload.Off ∷ MacSecOffload.Phy ∷ MacSecOffload.Mac ∷ []

-- The MACsec offload mode with this number.
abbrev pub mac_sec_offload_of : ℕ → MacSecOffload
mac_sec_offload_of n =
    numbered_by mac_sec_offload_number listed_mac_sec_offloads MacSecOffload.Other n
