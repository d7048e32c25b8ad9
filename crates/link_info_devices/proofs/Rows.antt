-- The properties of a list of source addresses, from those of its items.
use Rattle.std.proofs.Common.{◌≡◌, ◌≢◌, ◌+◌, ◌++◌, ℕ, true, cond, List, refl, sym, ap, ◌∙◌, subst, ne_eqb, Vec, Global}
use Rattle.std.specs.Prelude.{◌&&◌}
use Rattle.std.specs.List.{All}
use mathlib.Core.Former.{Count}
use Rattle.netlink_packet_core_grammar.specs.Attributes.{Attribute, proper_kind, attribute_text, list_text}
use Rattle.netlink_packet_core.specs.Fits.{attribute_fits}
use Rattle.netlink_packet_core.specs.Families.{attribute}
use Rattle.netlink_packet_core.specs.Lists.{text_by, all_fit_by}
use Rattle.netlink_packet_core.specs.Families.{family_row}
use Rattle.attribute_tables_grammar.specs.Laws.{RowsWithoutListsFit}
use Rattle.attribute_tables_grammar.specs.Lists.{any, row_at, canonical_form}
use Rattle.attribute_tables_grammar.specs.LookUps.{line_at, row_of_line, HasNoRow, table_list_rule}
use Rattle.attribute_tables_grammar.specs.Peers.{bytes_peer}
use Rattle.link_info_grammar.specs.Families.{macvlan, macvlan_address}
use Rattle.link_info_devices.specs.MacVlan.{mac_vlan_entry, mac_vlan_texts, mac_vlan_fits, mac_vlan_all_fit, mac_vlan_is_row_variant, mac_vlan_address_is_row_variant}
use Rattle.link_info_devices.specs.declared.mac_vlan.InfoMacVlan.{InfoMacVlan, MacAddrData, MacAddrData', Row_of-InfoMacVlan, end_of-InfoMacVlan, more_of-InfoMacVlan, items-the_row-InfoMacVlan, items_hidden-the_row-InfoMacVlan-0}

texts-items : (n : _) (row : Row_of-InfoMacVlan n) → mac_vlan_texts row ≡ text_by mac_vlan_entry (items-the_row-InfoMacVlan n row)
unfolding list_text
texts-items _ end_of-InfoMacVlan = refl
texts-items _ (more_of-InfoMacVlan v rest) = ap (λ r. attribute_text (mac_vlan_entry v) ++ r) (texts-items _ rest)

fit-items : (n : _) (row : Row_of-InfoMacVlan n) → mac_vlan_all_fit row ≡ all_fit_by mac_vlan_entry mac_vlan_fits (items-the_row-InfoMacVlan n row)
fit-items _ end_of-InfoMacVlan = refl
fit-items _ (more_of-InfoMacVlan v rest) = ap (λ b. (attribute_fits (mac_vlan_entry v) && mac_vlan_fits v) && b) (fit-items _ rest)

abbrev row_of : InfoMacVlan → (n : Count) × Row_of-InfoMacVlan n
row_of (MacAddrData' shape row) = (_, row)
row_of _ = (_, end_of-InfoMacVlan)

-- a list of source addresses is written as its values
pub entry-addresses : (inner : Vec InfoMacVlan Global) → mac_vlan_entry (MacAddrData inner) ≡ attribute 5 (text_by mac_vlan_entry inner.items)
entry-addresses inner =
    let row = row_of (MacAddrData inner) in
    ap (attribute 5) (texts-items row.0 row.1 ∙ ap (text_by mac_vlan_entry) (items_hidden-the_row-InfoMacVlan-0 inner))

-- a list of source addresses fits if its values do
pub fits-addresses : (inner : Vec InfoMacVlan Global) → mac_vlan_fits (MacAddrData inner) ≡ all_fit_by mac_vlan_entry mac_vlan_fits inner.items
fits-addresses inner =
    let row = row_of (MacAddrData inner) in
    fit-items row.0 row.1 ∙ ap (all_fit_by mac_vlan_entry mac_vlan_fits) (items_hidden-the_row-InfoMacVlan-0 inner)

-- the values are the variants of their rows, as those of the list
pub names-addresses : (inner : Vec InfoMacVlan Global) → All mac_vlan_address_is_row_variant inner.items → mac_vlan_is_row_variant (MacAddrData inner)
names-addresses inner h = subst (All mac_vlan_address_is_row_variant) (sym (items_hidden-the_row-InfoMacVlan-0 inner)) h

-- the properties of a list of source addresses, by its items
pub record Addresses (value : InfoMacVlan) (items : List InfoMacVlan) : Type 0 where
  pub payload : (mac_vlan_entry value).payload ≡ text_by mac_vlan_entry items
  pub fits : mac_vlan_fits value ≡ all_fit_by mac_vlan_entry mac_vlan_fits items

pub addresses : (value : InfoMacVlan) (inner : Vec InfoMacVlan Global) (items : List InfoMacVlan) → value ≡ MacAddrData inner → items ≡ inner.items → Addresses value items
addresses value inner items is them = record {
  payload = ap (λ v. (mac_vlan_entry v).payload) is ∙ ap (λ e. e.payload) (entry-addresses inner) ∙ ap (text_by mac_vlan_entry) (sym them);
  fits = ap mac_vlan_fits is ∙ fits-addresses inner ∙ ap (all_fit_by mac_vlan_entry mac_vlan_fits) (sym them);
}

pub ruleset rows_of_values = (entry-addresses, fits-addresses, names-addresses)

-- the two tables have the same rows except for kind 5
pub same-line : (k : ℕ) → k ≢ 5 → line_at macvlan k ≡ line_at macvlan_address k
same-line k h = rw (ne_eqb k 5 h) refl

pub same-row : (k : ℕ) → k ≢ 5 → family_row macvlan k ≡ family_row macvlan_address k
same-row k h = ap (row_of_line bytes_peer) (same-line k h)

pub no-row-outside : (k : ℕ) → k ≢ 5 → HasNoRow macvlan_address k → HasNoRow macvlan k
no-row-outside k h n = same-line k h ∙ n

-- the payload of an attribute in the list fits
pub address-fits : RowsWithoutListsFit → (k : ℕ) (bytes : List ℕ) → (family_row macvlan_address k).rule.fits bytes ≡ true
address-fits law k bytes = law bytes_peer macvlan_address refl k bytes

pub ruleset address_rows = (same-row, no-row-outside, address-fits)

-- the canonical form of an attribute under the row of the list
pub list-written : (e : Attribute) → proper_kind e.kind ≡ 5 → canonical_form (row_at (family_row macvlan) e) e ≡ attribute 5 ((table_list_rule bytes_peer any macvlan_address).canonical e.payload)
list-written e h = ap (λ k. record {
  kind = cond (family_row macvlan k).is_typed (k + cond (family_row macvlan k).is_nested 0x8000 0) e.kind;
  payload = (family_row macvlan k).rule.canonical e.payload;
}) h
