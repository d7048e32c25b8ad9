-- Both sides compute.
use Rattle.std.specs.Prelude.{refl}
use Rattle.link_lines_values.specs.NumberTexts.{number_texts}
use Rattle.linkcap_tests.proofs.lines.laws.numbers_are_displayed.Goals as goal

pub returns : goal.returns
unfolding number_texts
returns c = record {
  amt_modes = refl;
  geneve_dfs = refl;
  vxlan_dfs = refl;
  gtp_roles = refl;
  tunnel_encap_types = refl;
  gre_encap_types = refl;
  er_span_dirs = refl;
  ip_vlan_modes = refl;
  mac_vlan_modes = refl;
  netkit_modes = refl;
  netkit_policies = refl;
  netkit_scrubs = refl;
  states = refl;
  link_modes = refl;
  in_6_addr_gen_modes = refl;
  mctp_phys_bindings = refl;
  link_layer_types = refl;
  link_flags = refl;
}
