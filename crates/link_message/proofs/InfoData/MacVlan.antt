-- Values of `InfoMacVlan`, which hold lists of themselves, with equal attributes are equal.
use Rattle.std.proofs.Common.{◌≡◌, [], ◌∷◌, ◌++◌, Bool, refl, sym, ap, ◌∙◌, arith}
use lib.Pointwise.{pointwise}
use Rattle.netlink_packet_core.specs.Attributes.{attribute_text, list_text}
use Rattle.netlink_packet_core.specs.Lists.{text_by}
use Rattle.attribute_tables_grammar.specs.LookUps.{line_at}
use Rattle.link_info_grammar.specs.Families.{macvlan, macvlan_address}
use Rattle.link_info_types.specs.MacVlanTypes.{mac_vlan_mode_of, mac_vlan_mac_address_mode_of}
use Rattle.link_info_devices.specs.declared.mac_vlan.InfoMacVlan.{InfoMacVlan, Row_of-InfoMacVlan, end_of-InfoMacVlan, more_of-InfoMacVlan, items-the_row-InfoMacVlan, out-InfoMacVlan, items_shown-the_row-InfoMacVlan-0, Mode, Flags, MacAddrMode, MacAddr, MacAddrData', MacAddrCount, BcQueueLen, BcQueueLenUsed, BcCutoff, Other}
use Rattle.link_info_devices.specs.MacVlan.{mac_vlan_entry, mac_vlan_texts, mac_vlan_is_row_variant, mac_vlan_address_is_row_variant}
use Rattle.link_info_devices.specs.contracts.mac_vlan.InfoMacVlanPartialEq.TheImpl as equality
use Rattle.link_info_devices.specs.contracts.mac_vlan.InfoMacVlanPartialEq.TheImpl.Laws as equality_laws
use Rattle.link_info_devices.specs.contracts.mac_vlan.InfoMacVlanEq.TheImpl.Laws.{laws-law}
use Rattle.link_message.specs.Injective.{IsInjective}
use Rattle.link_message.proofs.Decoders.{Decoders, Otherwise, RoundTrip, RoundTripIfDecoded, injective_by, injective_or, value_of, round_trips, le2_of, le4_of, signed_of}
use Rattle.link_message.proofs.Lists.{lists_injective}

abbrev equal : InfoMacVlan → InfoMacVlan → Bool
equal = (equality.ghosts).eq

-- The decoder of each kind whose value owns neither bytes nor text.
abbrev decoders : Decoders InfoMacVlan
decoders =
    (1, λ p. Mode (mac_vlan_mode_of (le4_of p))) ∷
    (2, λ p. Flags (record { 0 = le2_of p })) ∷
    (3, λ p. MacAddrMode (mac_vlan_mac_address_mode_of (le4_of p))) ∷
    (4, λ p. MacAddr p) ∷
    (6, λ p. MacAddrCount (le4_of p)) ∷
    (7, λ p. BcQueueLen (le4_of p)) ∷
    (8, λ p. BcQueueLenUsed (le4_of p)) ∷
    (9, λ p. BcCutoff (signed_of p)) ∷ []

-- ---- the list of addresses

address_round_trip : RoundTrip mac_vlan_entry mac_vlan_address_is_row_variant (value_of (line_at macvlan_address) Other decoders)
address_round_trip (MacAddr a) h = refl
address_round_trip (MacAddrData' s r) h = absurd h
address_round_trip (Other a) h = rw h refl
address_round_trip v h = simp round_trips cc

pub address_injective : IsInjective equal mac_vlan_entry mac_vlan_address_is_row_variant
address_injective = injective_by _ laws-law.refl _ _ (value_of (line_at macvlan_address) Other decoders) address_round_trip

-- ---- the whole

lists : (s : _) (r : _) (s' : _) (r' : _) → equal (MacAddrData' s r) (MacAddrData' s' r') ≡ pointwise equal (items-the_row-InfoMacVlan _ r) (items-the_row-InfoMacVlan _ r')
unfolding out-InfoMacVlan denote.Hole.Carrier.out
lists s r s' r' = equality_laws.is (MacAddrData' s r) (MacAddrData' s' r') ∙ (λ i. pointwise equal (items_shown-the_row-InfoMacVlan-0 s r i) (items_shown-the_row-InfoMacVlan-0 s' r' i))

texts-items : (n : _) (row : Row_of-InfoMacVlan n) → mac_vlan_texts row ≡ text_by mac_vlan_entry (items-the_row-InfoMacVlan n row)
unfolding list_text
texts-items _ end_of-InfoMacVlan = refl
texts-items _ (more_of-InfoMacVlan v rest) = ap (λ r. attribute_text (mac_vlan_entry v) ++ r) (texts-items _ rest)

round_trip : RoundTripIfDecoded mac_vlan_entry mac_vlan_is_row_variant (value_of (line_at macvlan) Other decoders)
round_trip (MacAddr a) h = refl
round_trip (Other a) h = rw h refl
round_trip v h = simp round_trips cc

otherwise : Otherwise equal mac_vlan_entry mac_vlan_is_row_variant (line_at macvlan) decoders
otherwise (MacAddrData' s r) (MacAddrData' s' r') l m i j d p q k e =
    lists s r s' r'
    ∙ lists_injective equal mac_vlan_entry mac_vlan_address_is_row_variant address_injective _ _ p q
    (sym (texts-items _ r) ∙ e ∙ texts-items _ r')
otherwise v w l m i j d p q k e = absurd (first_of (omega arith, cc))

pub mac_vlan_injective : IsInjective equal mac_vlan_entry mac_vlan_is_row_variant
mac_vlan_injective = injective_or _ laws-law.refl _ _ (line_at macvlan) Other decoders round_trip otherwise
