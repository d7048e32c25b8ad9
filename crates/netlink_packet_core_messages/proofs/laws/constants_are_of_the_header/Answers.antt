use Rattle.std.specs.Prelude.{refl}
use Rattle.netlink_packet_core_messages.proofs.laws.constants_are_of_the_header.Goals as goal

pub returns : goal.returns
returns c = record { flags_of_any_message = (refl, refl, refl, refl, refl, refl); flags_of_requests_for_data = (refl, refl, refl, refl); flags_of_requests_for_something_new = (refl, refl, refl, refl); flags_of_requests_to_delete = refl; flags_of_acknowledgements = (refl, refl); types_of_control_messages = (refl, refl, refl, refl); alignment = refl }
