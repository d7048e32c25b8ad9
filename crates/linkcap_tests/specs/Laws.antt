-- The names that lines show for numbers and flags, compared with the typed displays and with the words of `--only`; and
-- the names by which JSON and `--without` know what lines hold, compared with the tables of attributes and headers.
use Rattle.std.specs.Prelude.{◌≡◌, ℕ, ◌||◌, not, Bool, true, false, List, ◌∷◌, Some, codes, map}
use Rattle.std.specs.List.{Contains}
use Rattle.link_lines_json.specs.Names.{bytes_names, number_list_names}
use Rattle.link_lines_parts.specs.Names.{header_names, is_among}
use Rattle.link_lines_raw.specs.declared.bodies.Header.{Header}
use Rattle.link_lines_raw.specs.declared.rows.RawBy.TheVariants as R
use Rattle.link_lines_raw.specs.Bodies.{header_line, is_same}
use Rattle.link_lines_raw.specs.Coverage.{is_value}
use Rattle.link_lines_raw.specs.Coverage as raw_tables
use Rattle.link_lines_raw.specs.Names.{Named, all_named_rows}
use Rattle.link_lines_raw.specs.Rows.{Raw}
use Rattle.link_lines_texts.specs.AttributeNames.{Name}
use Rattle.link_lines_texts.specs.Coverage as link_tables
use Rattle.link_lines_texts.specs.Format.{Inside.Value, Inside.Settings, Inside.Held}
use Rattle.link_lines_values.specs.declared.exact.ExactBy.TheVariants as X
use Rattle.link_lines_values.specs.declared.values.ShownBy.TheVariants as V
use Rattle.link_lines_values.specs.Values.{Shown}
use Rattle.link_lines_values.specs.Names.{Text}
use Rattle.link_lines_values.specs.NumberTexts.{number_texts}
use Rattle.link_lines_values.specs.declared.flag_names.TheConstants.{LINK_FLAGS}
use Rattle.link_lines_values.specs.declared.number_texts.TheConstants.{AMT_MODE, GENEVE_DF, VXLAN_DF, GTP_ROLE}
use Rattle.link_lines_values.specs.declared.number_texts.TheConstants.{TUNNEL_ENCAP_TYPE, GRE_ENCAP_TYPE, ER_SPAN_DIR}
use Rattle.link_lines_values.specs.declared.number_texts.TheConstants.{IP_VLAN_MODE, MAC_VLAN_MODE, NETKIT_MODE}
use Rattle.link_lines_values.specs.declared.number_texts.TheConstants.{NETKIT_POLICY, NETKIT_SCRUB, STATE, LINK_MODE}
use Rattle.link_lines_values.specs.declared.number_texts.TheConstants.{IN6_ADDR_GEN_MODE, MCTP_PHYS_BINDING}
use Rattle.link_lines_values.specs.declared.number_texts.TheConstants.{LINK_LAYER_TYPE, MESSAGE_TYPE}
use Rattle.link_lines.specs.Types.{is_word_of, named_type}
use Rattle.link_info_types.specs.AmtTypes.{amt_mode_number, amt_mode_text, listed_amt_modes}
use Rattle.link_info_types.specs.GeneveTypes.{geneve_df_number, geneve_df_text, listed_geneve_dfs}
use Rattle.link_info_types.specs.GreTypes.{er_span_dir_number, er_span_dir_text, gre_encap_type_number}
use Rattle.link_info_types.specs.GreTypes.{gre_encap_type_text, listed_er_span_dirs, listed_gre_encap_types}
use Rattle.link_info_types.specs.GtpTypes.{gtp_role_number, gtp_role_text, listed_gtp_roles}
use Rattle.link_info_types.specs.IpTunnelTypes.{listed_tunnel_encap_types, tunnel_encap_type_number}
use Rattle.link_info_types.specs.IpTunnelTypes.{tunnel_encap_type_text}
use Rattle.link_info_types.specs.VxlanTypes.{listed_vxlan_dfs, vxlan_df_number, vxlan_df_text}
use Rattle.link_info_types.specs.IpVlanTypes.{ip_vlan_mode_number, ip_vlan_mode_text, listed_ip_vlan_modes}
use Rattle.link_info_types.specs.MacVlanTypes.{listed_mac_vlan_modes, mac_vlan_mode_number, mac_vlan_mode_text}
use Rattle.link_info_types.specs.NetkitTypes.{listed_netkit_modes, listed_netkit_policies, listed_netkit_scrubs}
use Rattle.link_info_types.specs.NetkitTypes.{netkit_mode_number, netkit_mode_text, netkit_policy_number}
use Rattle.link_info_types.specs.NetkitTypes.{netkit_policy_text, netkit_scrub_number, netkit_scrub_text}
use Rattle.link_message_types.specs.Inet6Types.{in_6_addr_gen_mode_number, in_6_addr_gen_mode_text}
use Rattle.link_message_types.specs.Inet6Types.{listed_in_6_addr_gen_modes}
use Rattle.link_message_types.specs.LinkFlagTypes.{link_flags_table}
use Rattle.link_message_types.specs.LinkLayerTypes.{link_layer_type_number, link_layer_type_text}
use Rattle.link_message_types.specs.LinkLayerTypes.{listed_link_layer_types}
use Rattle.link_message_types.specs.LinkModes.{link_mode_number, link_mode_text, listed_link_modes}
use Rattle.link_message_types.specs.LinkStates.{listed_states, state_number, state_text}
use Rattle.link_message_types.specs.MctpTypes.{listed_mctp_phys_bindings, mctp_phys_binding_number}
use Rattle.link_message_types.specs.MctpTypes.{mctp_phys_binding_text}

-- The numbers of values, each with the value's display.
abbrev pub displayed : {V : Type 0} → (V → ℕ) → (V → List ℕ) → List V → List Text
displayed number text values = map (λ v. (number v, text v)) values

-- The numbers that have a name in lines are those of the values that have one, and the name is the value's display. The
-- same holds for the flags of links. Only the layer type 0 (NETROM), which requests have as well, has no name in lines.
pub record NumbersAreDisplayed : Type 0 where
  pub amt_modes : number_texts AMT_MODE ≡ displayed amt_mode_number amt_mode_text listed_amt_modes
  pub geneve_dfs : number_texts GENEVE_DF ≡
      displayed geneve_df_number geneve_df_text listed_geneve_dfs
  pub vxlan_dfs : number_texts VXLAN_DF ≡ displayed vxlan_df_number vxlan_df_text listed_vxlan_dfs
  pub gtp_roles : number_texts GTP_ROLE ≡ displayed gtp_role_number gtp_role_text listed_gtp_roles
  pub tunnel_encap_types : number_texts TUNNEL_ENCAP_TYPE ≡
      displayed tunnel_encap_type_number tunnel_encap_type_text listed_tunnel_encap_types
  pub gre_encap_types : number_texts GRE_ENCAP_TYPE ≡
      displayed gre_encap_type_number gre_encap_type_text listed_gre_encap_types
  pub er_span_dirs : number_texts ER_SPAN_DIR ≡
      displayed er_span_dir_number er_span_dir_text listed_er_span_dirs
  pub ip_vlan_modes : number_texts IP_VLAN_MODE ≡
      displayed ip_vlan_mode_number ip_vlan_mode_text listed_ip_vlan_modes
  pub mac_vlan_modes : number_texts MAC_VLAN_MODE ≡
      displayed mac_vlan_mode_number mac_vlan_mode_text listed_mac_vlan_modes
  pub netkit_modes : number_texts NETKIT_MODE ≡
      displayed netkit_mode_number netkit_mode_text listed_netkit_modes
  pub netkit_policies : number_texts NETKIT_POLICY ≡
      displayed netkit_policy_number netkit_policy_text listed_netkit_policies
  pub netkit_scrubs : number_texts NETKIT_SCRUB ≡
      displayed netkit_scrub_number netkit_scrub_text listed_netkit_scrubs
  pub states : number_texts STATE ≡ displayed state_number state_text listed_states
  pub link_modes : number_texts LINK_MODE ≡
      displayed link_mode_number link_mode_text listed_link_modes
  pub in_6_addr_gen_modes : number_texts IN6_ADDR_GEN_MODE ≡
      displayed in_6_addr_gen_mode_number in_6_addr_gen_mode_text listed_in_6_addr_gen_modes
  pub mctp_phys_bindings : number_texts MCTP_PHYS_BINDING ≡
      displayed mctp_phys_binding_number mctp_phys_binding_text listed_mctp_phys_bindings
  pub link_layer_types : (0, codes "netrom") ∷ number_texts LINK_LAYER_TYPE ≡
      displayed link_layer_type_number link_layer_type_text listed_link_layer_types
  pub link_flags : number_texts LINK_FLAGS ≡ map (λ row. (row.1, row.0)) link_flags_table

-- For each message type that has a name in lines, a word is read as that type if it is the name, or what follows the
-- name's first `_`; the case of ASCII letters doesn't count.
pub record TypesHaveNames : Type 0 where
  pub by_name : (r : Text) (word : List ℕ) → Contains (number_texts MESSAGE_TYPE) r →
      is_word_of r.1 word ≡ true → named_type word ≡ Some r.0

-- ---- names of attributes and headers

-- Whether a value is shown as bytes in hex.
abbrev pub is_shown_in_hex : Shown → Bool
is_shown_in_hex V.Bytes = true
is_shown_in_hex V.HardwareAddress = true
is_shown_in_hex shown = false

-- Whether the value of a raw attribute is shown as bytes in hex.
abbrev pub is_raw_in_hex : Raw → Bool
is_raw_in_hex (R.Value X.Bytes) = true
is_raw_in_hex (R.Value X.HardwareAddress) = true
is_raw_in_hex (R.Value X.BridgeId) = true
is_raw_in_hex (R.Value (X.Sized size shown)) = is_shown_in_hex shown
is_raw_in_hex raw = false

-- Whether the value of a raw attribute is any number of numbers.
abbrev pub is_raw_of_numbers : Raw → Bool
is_raw_of_numbers (R.Value (X.Numbers size)) = true
is_raw_of_numbers raw = false

-- Whether an attribute that has a value is known by its name to be as a test says.
abbrev pub is_known : List (List ℕ) → List ℕ → Raw → (Raw → Bool) → Bool
is_known names name raw test = not (is_value raw) || is_same (is_among names name) (test raw)

-- The same for the row of a raw attribute, whatever its kind.
abbrev pub is_row_known : List (List ℕ) → (Raw → Bool) → ℕ → Named Raw → Bool
is_row_known names test kind row = is_known names row.0 row.1 test

-- The same for the row of an attribute of links.
abbrev pub is_name_known : List (List ℕ) → (Shown → Bool) → (Raw → Bool) → ℕ → Name → Bool
is_name_known names test raw_test kind (name, Value shown) = is_same (is_among names name) (test shown)
is_name_known names test raw_test kind (name, Settings shown) = is_same (is_among names name) (test shown)
is_name_known names test raw_test kind (name, Held raw) = is_known names name raw raw_test
is_name_known names test raw_test kind (name, inside) = true

-- An attribute whose value is shown as bytes in hex, or is any number of numbers, is known by its name, and no other
-- attribute that has a value has such a name. The record at the start of each body has the name of a header.
pub record ValuesAreKnownByName : Type 0 where
  pub raw_bytes : raw_tables.in_each (all_named_rows (is_row_known bytes_names is_raw_in_hex)) ≡ true
  pub raw_numbers : raw_tables.in_each (all_named_rows (is_row_known number_list_names is_raw_of_numbers)) ≡ true
  pub link_bytes : link_tables.in_each (all_named_rows (is_name_known bytes_names is_shown_in_hex is_raw_in_hex)) ≡ true
  pub link_numbers :
      link_tables.in_each (all_named_rows (is_name_known number_list_names (λ shown. false) is_raw_of_numbers)) ≡ true
  pub headers : (header : Header) → is_among header_names (header_line header).0 ≡ true
