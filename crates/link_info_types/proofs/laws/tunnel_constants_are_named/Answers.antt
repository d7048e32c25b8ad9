use Rattle.std.specs.Prelude.{refl}
use Rattle.link_info_types.proofs.laws.tunnel_constants_are_named.Goals as goal

pub returns : goal.returns
returns c = record { flags_of_gre_headers = refl; flags_of_gre_encapsulation = refl; flags_of_encapsulation = refl; flags_of_ip6_tunnels = refl }
