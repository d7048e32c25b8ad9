-- Lists of link info of equal text are equal.
use Rattle.std.proofs.Common.{◌≡◌, ℕ, List, [], ◌∷◌, map, Bool, true, false, cond, Option, Some, None, refl, sym, ap, ◌∙◌, subst, arith}
use Rattle.std.proofs.lemmas.Bool.{and_from}
use lib.Pointwise.{pointwise, bytes_decides}
use Rattle.netlink_packet_core.specs.Lists.{text_by}
use Rattle.netlink_packet_core.specs.Attributes.{proper_kind}
use Rattle.attribute_tables_grammar.specs.Lists.{Context, Row, Grammar, no_kind_in_force}
use Rattle.attribute_tables_grammar.specs.Readings.{AreRowVariants}
use Rattle.attribute_tables_grammar.specs.Rules.{Rule}
use Rattle.attribute_tables_grammar.specs.Tables.{row_in_force}
use Rattle.link_info_grammar.specs.LinkInfo.{info_grammar, link_info_row}
use Rattle.link_info_kinds.proofs.Named.{names_determine_kinds, names_determine_port_kinds}
use Rattle.link_info_data.specs.Data.{info_data_payload}
use Rattle.link_info_data.specs.PortData.{info_port_data_payload}
use Rattle.link_info_data.specs.declared.info_data.InfoData.{InfoData}
use Rattle.link_info_data.specs.declared.info_port.InfoPortData.{InfoPortData}
use Rattle.link_info_data.specs.declared.xstats.LinkXstats.TheVariants as Statistics
use Rattle.link_info_data.specs.contracts.info_data.InfoDataPartialEq.TheImpl as data_equality
use Rattle.link_info_data.specs.contracts.info_port.InfoPortDataPartialEq.TheImpl as port_data_equality
use Rattle.link_info.specs.LinkInfo.{link_info_entry, link_info_is_row_variant, data_is_row_variant, port_data_is_row_variant}
use Rattle.link_info.specs.declared.infos.LinkInfo.{LinkInfo}
use Rattle.link_info.specs.declared.infos.LinkInfo.TheVariants as Info
use Rattle.link_info.specs.contracts.infos.LinkInfoPartialEq.TheImpl as equality
use Rattle.link_info.specs.contracts.infos.LinkInfoEq.TheImpl.Laws.{laws-law}
use Rattle.link_message_grammar.specs.Body.{link_peer}
use Rattle.link_message.specs.Injective.{IsInjective}
use Rattle.attribute_tables_grammar.specs.Peers.{bytes_peer}
use Rattle.link_message.proofs.InfoData.{data_injective}
use Rattle.link_message.proofs.InfoKinds.{kinds_equal, port_kinds_equal}
use Rattle.link_message.proofs.InfoPortData.{port_data_injective}
use Rattle.link_message.proofs.Decoders.{Otherwise, RoundTripIfDecoded, injective_or, value_of, round_trips}
use Rattle.link_message.proofs.Lists.{first_equal, rest_equal, one_list}
use Rattle.link_message.proofs.Records.{without_last}

abbrev equal : LinkInfo → LinkInfo → Bool
equal = (equality.ghosts).eq

-- The row of a kind, if it has one.
abbrev row : Context → ℕ → Option Row
row c k = cond (link_info_row bytes_peer c k).is_typed (Some (link_info_row bytes_peer c k)) None

always_typed : (o : Option (List ℕ)) (f : List ℕ → Rule) → (row_in_force o f).is_typed ≡ true
always_typed None f = refl
always_typed (Some n) f = refl

round_trip : (c : Context) → RoundTripIfDecoded link_info_entry (link_info_is_row_variant c) (value_of (row c) Info.Other [])
round_trip c (Info.Other a) h = rw h refl
round_trip c (Info.Kind k) h = simp round_trips
round_trip c (Info.PortKind k) h = simp round_trips
round_trip c v h = simp (always_typed, round_trips)

-- ---- data under the names in force

data_equal : (o : Option (List ℕ)) (d e : InfoData) → data_is_row_variant o d → data_is_row_variant o e → info_data_payload d ≡ info_data_payload e → (data_equality.ghosts).eq d e ≡ true
data_equal None d e p q h = absurd p
data_equal (Some n) d e (k, a, p) (m, b, q) h = data_injective k m d e (names_determine_kinds k m a.1 b.1 (a.0 ∙ sym b.0)) p q h

port_data_equal : (o : Option (List ℕ)) (d e : InfoPortData) → port_data_is_row_variant o d → port_data_is_row_variant o e → info_port_data_payload d ≡ info_port_data_payload e → (port_data_equality.ghosts).eq d e ≡ true
port_data_equal None d e p q h = absurd p
port_data_equal (Some n) d e (k, a, p) (m, b, q) h = port_data_injective k m d e (names_determine_port_kinds k m a.1 b.1 (a.0 ∙ sym b.0)) p q h

-- a kind with a row has no raw value
not_raw : (c : Context) (k : ℕ) (l : Row) → (link_info_row bytes_peer c k).is_typed ≡ false → row c k ≡ Some l → ⊥
not_raw c k l untyped listed = let none : None ≡ Some l = sym (ap (λ b. cond b (Some (link_info_row bytes_peer c k)) None) untyped) ∙ listed in cc

otherwise : (c : Context) → Otherwise equal link_info_entry (link_info_is_row_variant c) (row c) []
otherwise c (Info.Xstats (Statistics.Other x)) (Info.Xstats (Statistics.Other y)) l m i j d p q k e = (bytes_decides x.items y.items).1 e
otherwise c (Info.Kind n) (Info.Kind o) l m i j d p q k e = kinds_equal n o p q (without_last _ _ e)
otherwise c (Info.Data v) (Info.Data w) l m i j d p q k e = data_equal c.kind v w p q e
otherwise c (Info.PortKind n) (Info.PortKind o) l m i j d p q k e = port_kinds_equal n o p q (without_last _ _ e)
otherwise c (Info.PortData v) (Info.PortData w) l m i j d p q k e = port_data_equal c.port_kind v w p q e
otherwise c (Info.Other a) w l m i j d p q k e = absurd (not_raw c (proper_kind a.kind) l p i)
otherwise c v (Info.Other a) l m i j d p q k e = absurd (not_raw c (proper_kind a.kind) m q j)
otherwise c v w l m i j d p q k e = absurd (first_of (omega arith, cc))

info_injective : (c : Context) → IsInjective equal link_info_entry (link_info_is_row_variant c)
info_injective c = injective_or _ laws-law.refl _ _ (row c) Info.Other [] (round_trip c) (otherwise c)

-- Each value is in the context after those before it, whatever the grammar.
entries_equal : (g : Grammar) (c : Context) (vs ws : List LinkInfo) → AreRowVariants g link_info_entry link_info_is_row_variant c vs → AreRowVariants g link_info_entry link_info_is_row_variant c ws → map link_info_entry vs ≡ map link_info_entry ws → pointwise equal vs ws ≡ true
entries_equal g c [] [] p q e = refl
entries_equal g c [] (w ∷ ws) p q e = absurd cc
entries_equal g c (v ∷ vs) [] p q e = absurd cc
entries_equal g c (v ∷ vs) (w ∷ ws) p q e =
    let first = first_equal _ _ _ _ e in
    let context = ap (g.next c) (sym first) in
    let after = subst (λ d. AreRowVariants g link_info_entry link_info_is_row_variant d ws) context q.1 in
    and_from _ _ (info_injective c v w p.0 q.0 first) (entries_equal g (g.next c (link_info_entry v)) vs ws p.1 after (rest_equal _ _ _ _ e))

pub infos_injective : (vs ws : List LinkInfo) → AreRowVariants (info_grammar link_peer) link_info_entry link_info_is_row_variant no_kind_in_force vs → AreRowVariants (info_grammar link_peer) link_info_entry link_info_is_row_variant no_kind_in_force ws → text_by link_info_entry vs ≡ text_by link_info_entry ws → pointwise equal vs ws ≡ true
infos_injective vs ws p q e = entries_equal (info_grammar link_peer) no_kind_in_force vs ws p q (one_list _ _ e)
