-- Values of `InfoMacSec` with equal attributes are equal.
use Rattle.std.proofs.Common.{[], ◌∷◌, refl, Option}
use Rattle.netlink_packet_core.specs.Attributes.{Attribute}
use Rattle.attribute_tables_grammar.specs.LookUps.{line_at}
use Rattle.link_info_grammar.specs.Families.{macsec}
use Rattle.link_info_devices.specs.declared.macsec.InfoMacSec.{InfoMacSec}
use Rattle.link_info_devices.specs.declared.macsec.InfoMacSec.TheVariants as MacSec
use Rattle.link_info_types.specs.MacSecTypes.{mac_sec_cipher_id_of, mac_sec_offload_of, mac_sec_validate_of}
use Rattle.link_info_devices.specs.Macsec.{macsec_entry, macsec_is_row_variant}
use Rattle.link_info_devices.specs.contracts.macsec.InfoMacSecPartialEq.TheImpl as equality
use Rattle.link_info_devices.specs.contracts.macsec.InfoMacSecEq.TheImpl.Laws.{laws-law}
use Rattle.link_message.specs.Injective.{IsInjective}
use Rattle.link_message.proofs.Decoders.{RoundTrip, injective_by, value_of, round_trips, be2_of, byte_of, le4_of, le8_of}

-- The value that an attribute encodes.
abbrev value : Attribute → Option InfoMacSec
value = value_of (line_at macsec) MacSec.Other (
    (1, λ p. MacSec.Sci (le8_of p)) ∷
    (2, λ p. MacSec.Port (be2_of p)) ∷
    (3, λ p. MacSec.IcvLen (byte_of p)) ∷
    (4, λ p. MacSec.CipherSuite (mac_sec_cipher_id_of (le8_of p))) ∷
    (5, λ p. MacSec.Window (le4_of p)) ∷
    (6, λ p. MacSec.EncodingSa (byte_of p)) ∷
    (7, λ p. MacSec.Encrypt (byte_of p)) ∷
    (8, λ p. MacSec.Protect (byte_of p)) ∷
    (9, λ p. MacSec.IncSci (byte_of p)) ∷
    (10, λ p. MacSec.Es (byte_of p)) ∷
    (11, λ p. MacSec.Scb (byte_of p)) ∷
    (12, λ p. MacSec.ReplayProtect (byte_of p)) ∷
    (13, λ p. MacSec.Validation (mac_sec_validate_of (byte_of p))) ∷
    (15, λ p. MacSec.Offload (mac_sec_offload_of (byte_of p))) ∷ [])

round_trip : RoundTrip macsec_entry macsec_is_row_variant value
round_trip (MacSec.Other a) h = rw h refl
round_trip v h = simp round_trips cc

pub macsec_injective : IsInjective (equality.ghosts).eq macsec_entry macsec_is_row_variant
macsec_injective = injective_by _ laws-law.refl _ _ value round_trip
