-- Settings of address families with equal attributes are equal.
use Rattle.netlink_packet_core.specs.Attributes.{Attribute}
use Rattle.attribute_tables_grammar.specs.LookUps.{line_at}
use Rattle.link_message_grammar.specs.NestedTables.{inet, inet6, specific}
use Rattle.link_message_records.specs.declared.cache_info.Inet6CacheInfo.{Inet6CacheInfo}
use Rattle.link_message_types.specs.Inet6Types.{in_6_addr_gen_mode_of}
use Rattle.link_message_nested.specs.AddressFamilies.{af_spec_unspec_entry, af_spec_unspec_names_row}
use Rattle.link_message_nested.specs.InetSettings.{af_spec_inet_entry, af_spec_inet_names_row}
use Rattle.link_message_nested.specs.Inet6Settings.{af_spec_inet_6_entry, af_spec_inet_6_names_row}
use Rattle.link_message_nested.specs.declared.inet.AfSpecInet.{AfSpecInet}
use Rattle.link_message_nested.specs.declared.inet6.AfSpecInet6.{AfSpecInet6}
use Rattle.link_message_nested.specs.declared.unspec.AfSpecUnspec.{AfSpecUnspec}
use Rattle.link_message.specs.Injective.{IsInjective}
use Rattle.link_message.proofs.Mctp.{mctp_injective}
use Rattle.std.proofs.Common.{ℕ, List, [], ◌∷◌, Option, take, drop, refl, arith}
use Rattle.link_message_nested.specs.contracts.inet.AfSpecInetPartialEq.TheImpl as inet_equality
use Rattle.link_message_nested.specs.contracts.inet.AfSpecInetEq.TheImpl.Laws as inet_laws
use Rattle.link_message_nested.specs.contracts.inet6.AfSpecInet6PartialEq.TheImpl as inet6_equality
use Rattle.link_message_nested.specs.contracts.inet6.AfSpecInet6Eq.TheImpl.Laws as inet6_laws
use Rattle.link_message_nested.specs.contracts.unspec.AfSpecUnspecPartialEq.TheImpl as family_equality
use Rattle.link_message_nested.specs.contracts.unspec.AfSpecUnspecEq.TheImpl.Laws as family_laws
use Rattle.link_message.proofs.Decoders.{RoundTrip, RoundTripIfDecoded, Otherwise, injective_by, injective_or, value_of, round_trips, byte_of, i32_values_of, ipv6_of, le4_of, u64_values_of}
use Rattle.link_message.proofs.Lists.{lists_injective}

-- ---- IPv4

abbrev inet_value : Attribute → Option AfSpecInet
inet_value = value_of (line_at inet) AfSpecInet.Other ((1, λ p. AfSpecInet.DevConf (i32_values_of p)) ∷ [])

inet_round_trip : RoundTrip af_spec_inet_entry af_spec_inet_names_row inet_value
inet_round_trip (AfSpecInet.Other a) h = rw h refl
inet_round_trip (AfSpecInet.DevConf r) h = simp round_trips
inet_round_trip (AfSpecInet.DevConfRequest r) h = absurd h

inet_injective : IsInjective (inet_equality.ghosts).eq af_spec_inet_entry af_spec_inet_names_row
inet_injective = injective_by _ inet_laws.laws-law.refl _ _ inet_value inet_round_trip

-- ---- IPv6

abbrev timers_of : List ℕ → Inet6CacheInfo
timers_of p = record { max_reasm_len = le4_of (take 4 p); tstamp = le4_of (take 4 (drop 4 p)); reachable_time = le4_of (take 4 (drop 4 (drop 4 p))); retrans_time = le4_of (drop 4 (drop 4 (drop 4 p))) }

abbrev inet6_value : Attribute → Option AfSpecInet6
inet6_value = value_of (line_at inet6) AfSpecInet6.Other (
    (1, λ p. AfSpecInet6.Flags (record { 0 = le4_of p })) ∷
    (2, λ p. AfSpecInet6.DevConf (i32_values_of p)) ∷
    (3, λ p. AfSpecInet6.Stats (u64_values_of p)) ∷
    (5, λ p. AfSpecInet6.CacheInfo (timers_of p)) ∷
    (6, λ p. AfSpecInet6.Icmp6Stats (u64_values_of p)) ∷
    (7, λ p. AfSpecInet6.Token (ipv6_of p)) ∷
    (8, λ p. AfSpecInet6.AddrGenMode (in_6_addr_gen_mode_of (byte_of p))) ∷
    (9, λ p. AfSpecInet6.RaMtu (le4_of p)) ∷ [])

inet6_round_trip : RoundTrip af_spec_inet_6_entry af_spec_inet_6_names_row inet6_value
inet6_round_trip (AfSpecInet6.Other a) h = rw h refl
inet6_round_trip (AfSpecInet6.CacheInfo r) h = simp round_trips
inet6_round_trip v h = simp round_trips cc

inet6_injective : IsInjective (inet6_equality.ghosts).eq af_spec_inet_6_entry af_spec_inet_6_names_row
inet6_injective = injective_by _ inet6_laws.laws-law.refl _ _ inet6_value inet6_round_trip

-- ---- all of them

family_round_trip : RoundTripIfDecoded af_spec_unspec_entry af_spec_unspec_names_row (value_of (line_at specific) AfSpecUnspec.Other [])
family_round_trip (AfSpecUnspec.Other a) h = rw h refl
family_round_trip v h = simp round_trips

family_otherwise : Otherwise (family_equality.ghosts).eq af_spec_unspec_entry af_spec_unspec_names_row (line_at specific) []
family_otherwise (AfSpecUnspec.Inet x) (AfSpecUnspec.Inet y) l m i j d p q k e = lists_injective _ _ _ inet_injective _ _ p q e
family_otherwise (AfSpecUnspec.Inet6 x) (AfSpecUnspec.Inet6 y) l m i j d p q k e = lists_injective _ _ _ inet6_injective _ _ p q e
family_otherwise (AfSpecUnspec.Mctp x) (AfSpecUnspec.Mctp y) l m i j d p q k e = lists_injective _ _ _ mctp_injective _ _ p q e
family_otherwise v w l m i j d p q k e = absurd (first_of (omega arith, cc))

pub families_injective : IsInjective (family_equality.ghosts).eq af_spec_unspec_entry af_spec_unspec_names_row
families_injective = injective_or _ family_laws.laws-law.refl _ _ (line_at specific) AfSpecUnspec.Other [] family_round_trip family_otherwise
