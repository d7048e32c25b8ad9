-- The laws of constants, as the functions of `laws` state them.
use Rattle.std.specs.Prelude.{◌≡◌}
use Rattle.netlink_packet_core_messages.specs.declared.constants.TheConstants.{NLM_F_REQUEST, NLM_F_MULTIPART}
use Rattle.netlink_packet_core_messages.specs.declared.constants.TheConstants.{NLM_F_ACK, NLM_F_ECHO, NLM_F_DUMP_INTR}
use Rattle.netlink_packet_core_messages.specs.declared.constants.TheConstants.{NLM_F_DUMP_FILTERED, NLM_F_ROOT}
use Rattle.netlink_packet_core_messages.specs.declared.constants.TheConstants.{NLM_F_MATCH, NLM_F_ATOMIC, NLM_F_DUMP}
use Rattle.netlink_packet_core_messages.specs.declared.constants.TheConstants.{NLM_F_REPLACE, NLM_F_EXCL, NLM_F_CREATE}
use Rattle.netlink_packet_core_messages.specs.declared.constants.TheConstants.{NLM_F_APPEND, NLM_F_NONREC, NLM_F_CAPPED}
use Rattle.netlink_packet_core_messages.specs.declared.constants.TheConstants.{NLM_F_ACK_TLVS}
use Rattle.netlink_packet_core_messages.specs.declared.payload.TheConstants.{NLMSG_NOOP, NLMSG_ERROR, NLMSG_DONE}
use Rattle.netlink_packet_core_messages.specs.declared.payload.TheConstants.{NLMSG_OVERRUN, NLMSG_ALIGNTO}

-- The constants have the numbers of linux/netlink.h, group by group.
pub record ConstantsAreOfTheHeader : Type 0 where
  pub flags_of_any_message : (NLM_F_REQUEST ≡ 0x1) × (NLM_F_MULTIPART ≡ 0x2) × (NLM_F_ACK ≡ 0x4) × (NLM_F_ECHO ≡ 0x8) ×
      (NLM_F_DUMP_INTR ≡ 0x10) × (NLM_F_DUMP_FILTERED ≡ 0x20)
  pub flags_of_requests_for_data : (NLM_F_ROOT ≡ 0x100) × (NLM_F_MATCH ≡ 0x200) × (NLM_F_ATOMIC ≡ 0x400) ×
      (NLM_F_DUMP ≡ 0x300)
  pub flags_of_requests_for_something_new : (NLM_F_REPLACE ≡ 0x100) × (NLM_F_EXCL ≡ 0x200) × (NLM_F_CREATE ≡ 0x400) ×
      (NLM_F_APPEND ≡ 0x800)
  pub flags_of_requests_to_delete : NLM_F_NONREC ≡ 0x100
  pub flags_of_acknowledgements : (NLM_F_CAPPED ≡ 0x100) × (NLM_F_ACK_TLVS ≡ 0x200)
  pub types_of_control_messages : (NLMSG_NOOP ≡ 1) × (NLMSG_ERROR ≡ 2) × (NLMSG_DONE ≡ 3) × (NLMSG_OVERRUN ≡ 4)
  pub alignment : NLMSG_ALIGNTO ≡ 4
