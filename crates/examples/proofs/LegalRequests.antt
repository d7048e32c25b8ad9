-- The body of a request to make a vxlan is legal and already canonical.
use Rattle.std.proofs.Common.{◌≡◌, ℕ, ◌+◌, ◌≤◌, List, [], ◌∷◌, ◌++◌, length, Ok, Some, refl, sym, ap, ◌∙◌, arith, length-append}
use Rattle.std.specs.Prelude.{true, false, ◌&&◌, ◌||◌, nat_le, codes}
use Rattle.std.specs.Str.{is_utf8, chars}
use lib.Utf8.{encode}
use Rattle.std.proofs.lemmas.Bool.{le-leb}
use Rattle.std.proofs.lemmas.List.{length-replicate}
use Rattle.std.specs.Option.{option_and_then, option_map_or}
use Rattle.netlink_packet_core.specs.Attributes.{Attribute, attribute_text, list_text, zeros}
use Rattle.netlink_packet_core.specs.Families.{attribute}
use Rattle.netlink_packet_core.specs.Laws.{EncodingsAreSplit}
use Rattle.netlink_packet_core.specs.Numbers.{be2, le4}
use Rattle.netlink_packet_core.specs.Texts.{without_nul}
use Rattle.netlink_packet_core.specs.TypedBodies.{TypedBody}
use Rattle.link_info.specs.Families.{kinds, port_kinds, vxlan}
use Rattle.link_info.specs.Lists.{no_kind_in_force, Grammar, all_accepted, all_fit, some_empty_ports, canonical_forms, any, non_empty, unless_empty, list_rule, without_context}
use Rattle.link_info.specs.Tables.{rule_of_name, names_grammar, row_in, rule}
use Rattle.link_message.specs.Body.{body_rule, has_layer_type_name, link_body, link_peer, attributes_rule}
use Rattle.link_message.specs.LinkTables.{info, link_table, unspec}
use Rattle.link_info.specs.Rules.{Rule}
use Rattle.link_capture.specs.Bodies.{body_text, ruled_text}
use Rattle.link_capture.specs.Routes.{reads_route, typed_text}
use Rattle.examples.specs.Requests.{vxlan_attributes, vxlan_body, vxlan_info, vxlan_info_text, vxlan_settings}

-- bytes that a rule accepts, that have no list of ports without an entry, that fit and are already canonical
pub record IsCanonicalBody (r : Rule) (b : List ℕ) : Type 0 where
  pub accepted : r.accepted b ≡ true
  pub fits : r.fits b ≡ true
  pub empty_ports : r.empty_ports b ≡ false
  pub canonical : r.canonical b ≡ b

-- ---- a list of attributes that are already canonical

record CanonicalAttributes (g : Grammar) (es : List Attribute) : Type 0 where
  accepted : all_accepted g no_kind_in_force es ≡ true
  fits : all_fit g no_kind_in_force es ≡ true
  empty_ports : some_empty_ports g no_kind_in_force es ≡ false
  written : canonical_forms g no_kind_in_force es ≡ es

canonical_list : EncodingsAreSplit → (g : Grammar) (es : List Attribute) → CanonicalAttributes g es → IsCanonicalBody (list_rule any g) (list_text es)
canonical_list cut g es o = record {
  accepted = ap (λ o. option_map_or (all_accepted g no_kind_in_force) o false) (cut es).0 ∙ o.accepted;
  fits = ap (λ o. option_map_or (all_fit g no_kind_in_force) o true) (cut es).0 ∙ o.fits;
  empty_ports = ap (λ o. option_map_or (some_empty_ports g no_kind_in_force) o false) (cut es).0 ∙ o.empty_ports;
  canonical = ap (λ o. option_map_or (λ fs. list_text (canonical_forms g no_kind_in_force fs)) o []) (cut es).0 ∙ ap list_text o.written;
}

canonical_some : EncodingsAreSplit → (g : Grammar) (e : Attribute) (es : List Attribute) → CanonicalAttributes g (e ∷ es) → IsCanonicalBody (list_rule non_empty g) (list_text (e ∷ es))
canonical_some cut g e es o = record {
  accepted = ap (λ r. option_map_or (all_accepted g no_kind_in_force) (option_and_then unless_empty r) false) (cut (e ∷ es)).0 ∙ o.accepted;
  fits = ap (λ r. option_map_or (all_fit g no_kind_in_force) (option_and_then unless_empty r) true) (cut (e ∷ es)).0 ∙ o.fits;
  empty_ports = ap (λ r. option_map_or (some_empty_ports g no_kind_in_force) (option_and_then unless_empty r) false) (cut (e ∷ es)).0 ∙ o.empty_ports;
  canonical = ap (λ r. option_map_or (λ fs. list_text (canonical_forms g no_kind_in_force fs)) (option_and_then unless_empty r) []) (cut (e ∷ es)).0 ∙ ap list_text o.written;
}

-- ---- the data

settings : (vni : ℕ) → CanonicalAttributes (without_context (row_in link_peer vxlan)) (vxlan_settings vni)
unfolding all_accepted all_fit some_empty_ports canonical_forms le4 be2
settings vni = record { accepted = refl; fits = refl; empty_ports = refl; written = refl }

canonical_data : EncodingsAreSplit → (vni : ℕ) → IsCanonicalBody (rule_of_name link_peer kinds (codes "vxlan")) (list_text (vxlan_settings vni))
canonical_data cut vni = canonical_list cut (without_context (row_in link_peer vxlan)) (vxlan_settings vni) (settings vni)

data_size : (vni : ℕ) → nat_le (4 + length (list_text (vxlan_settings vni))) 65535 ≡ true
unfolding list_text attribute_text le4 be2
data_size vni = refl

-- ---- the link info

infos : EncodingsAreSplit → (vni : ℕ) → CanonicalAttributes (names_grammar (rule_of_name link_peer kinds) (rule_of_name link_peer port_kinds)) (vxlan_info vni)
unfolding all_accepted all_fit some_empty_ports canonical_forms is_utf8 chars encode
infos cut vni =
    let r = rule_of_name link_peer kinds (codes "vxlan") in
    let d = list_text (vxlan_settings vni) in
    let canonical_proof = canonical_data cut vni in
    record {
      accepted = ap (λ a. a && true) canonical_proof.accepted;
      fits = ap (λ x. (nat_le (4 + length x) 65535 && r.fits d) && true) canonical_proof.canonical ∙ ap (λ f. (nat_le (4 + length d) 65535 && f) && true) canonical_proof.fits ∙ ap (λ s. (s && true) && true) (data_size vni);
      empty_ports = ap (λ a. a || false) canonical_proof.empty_ports;
      written = ap (λ p. attribute 1 (codes "vxlan" ++ 0 ∷ []) ∷ attribute 2 p ∷ []) canonical_proof.canonical;
    }

canonical_info : EncodingsAreSplit → (vni : ℕ) → IsCanonicalBody (rule link_peer info) (vxlan_info_text vni)
canonical_info cut vni = canonical_some cut (names_grammar (rule_of_name link_peer kinds) (rule_of_name link_peer port_kinds)) (attribute 1 (codes "vxlan" ++ 0 ∷ [])) (attribute 2 (list_text (vxlan_settings vni)) ∷ []) (infos cut vni)

info_size : (vni : ℕ) → nat_le (4 + length (vxlan_info_text vni)) 65535 ≡ true
unfolding list_text attribute_text le4 be2
info_size vni = refl

-- ---- the attributes of the link

without_last : (name : List ℕ) → without_nul (name ++ 0 ∷ []) ≡ name
without_last [] = refl
without_last (b ∷ []) = refl
without_last (b ∷ c ∷ name) = ap (λ x. b ∷ x) (without_last (c ∷ name))

attributes : EncodingsAreSplit → (name : List ℕ) (vni mtu : ℕ) → is_utf8 name ≡ true → length name ≤ 65530 → CanonicalAttributes (without_context (row_in link_peer (link_table unspec))) (vxlan_attributes name vni mtu)
unfolding all_accepted all_fit some_empty_ports canonical_forms le4
attributes cut name vni mtu utf8 short =
    let r = rule link_peer info in
    let t = vxlan_info_text vni in
    let canonical_proof = canonical_info cut vni in
    let same = without_last name in
    let fits : nat_le (4 + length (name ++ 0 ∷ [])) 65535 ≡ true = le-leb (4 + length (name ++ 0 ∷ [])) 65535 (omega (arith, length-append name (0 ∷ []))) in
    record {
      accepted = ap (λ n. is_utf8 n && (r.accepted t && true)) same ∙ ap (λ u. u && (r.accepted t && true)) utf8 ∙ ap (λ a. a && true) canonical_proof.accepted;
      fits =
          ap (λ n. (nat_le (4 + length (n ++ 0 ∷ [])) 65535 && true) && ((nat_le (4 + length (r.canonical t)) 65535 && r.fits t) && true)) same
          ∙ ap (λ s. (s && true) && ((nat_le (4 + length (r.canonical t)) 65535 && r.fits t) && true)) fits
          ∙ ap (λ x. (nat_le (4 + length x) 65535 && r.fits t) && true) canonical_proof.canonical
          ∙ ap (λ f. (nat_le (4 + length t) 65535 && f) && true) canonical_proof.fits
          ∙ ap (λ s. (s && true) && true) (info_size vni);
      empty_ports = ap (λ a. a || false) canonical_proof.empty_ports;
      written =
          ap (λ n. attribute 3 (n ++ 0 ∷ []) ∷ attribute 4 (le4 mtu) ∷ attribute 18 (r.canonical t) ∷ []) same
          ∙ ap (λ x. attribute 3 (name ++ 0 ∷ []) ∷ attribute 4 (le4 mtu) ∷ attribute 18 x ∷ []) canonical_proof.canonical;
    }

-- ---- the body

pub canonical_body : EncodingsAreSplit → (name : List ℕ) (vni mtu : ℕ) → is_utf8 name ≡ true → length name ≤ 65530 → IsCanonicalBody link_body (vxlan_body name vni mtu)
unfolding attributes_rule body_rule has_layer_type_name
canonical_body cut name vni mtu utf8 short =
    let t = list_text (vxlan_attributes name vni mtu) in
    let canonical_proof = canonical_list cut (without_context (row_in link_peer (link_table unspec))) (vxlan_attributes name vni mtu) (attributes cut name vni mtu utf8 short) in
    let long : nat_le 16 (length (zeros 16 ++ t)) ≡ true = le-leb 16 (length (zeros 16 ++ t)) (omega (arith, length-append (zeros 16) t, length-replicate {A = ℕ} 16 0)) in
    record {
      accepted = ap (λ a. a && (list_rule any (without_context (row_in link_peer (link_table unspec)))).accepted t) long ∙ canonical_proof.accepted;
      fits = canonical_proof.fits;
      empty_ports = canonical_proof.empty_ports;
      canonical = ap (λ x. zeros 16 ++ x) canonical_proof.canonical;
    }

-- so the body is already canonical
pub canonical_ruled : (r : Rule) (b : List ℕ) → IsCanonicalBody r b → ruled_text r b ≡ Ok b
canonical_ruled r b o = rw (o.accepted, o.empty_ports, o.fits) (ap Ok o.canonical)

-- ---- reading a body of RTM_NEWLINK that is already canonical

read_as : (b : List ℕ) (x : TypedBody) → ruled_text link_body b ≡ Ok b → reads_route 16 b ≡ Some x → x ≡ (16, b)
unfolding body_text
read_as b x canonical_proof h = let e = sym (ap (typed_text 16) canonical_proof) ∙ h in cc

pub read_back : (b bytes : List ℕ) (x : TypedBody) → bytes ≡ b → ruled_text link_body b ≡ Ok b → reads_route 16 bytes ≡ Some x → x ≡ (16, b)
read_back b bytes x e canonical_proof h = read_as b x canonical_proof (ap (reads_route 16) (sym e) ∙ h)
