-- The indexes of records.
use Rattle.std.specs.Prelude.{◌≡◌}
use Rattle.std.specs.List.{range_with_len}
use Rattle.link_message_records.specs.declared.indexes.TheConstants.{INET_DEV_CONF, INET6_DEV_CONF}
use Rattle.link_message_records.specs.declared.indexes.TheConstants.{INET6_STATS, ICMP6_STATS}

-- The index of each setting and of each number is its position among the kernel's names, from 0 on.
pub record IndexesAreInOrder : Type 0 where
  pub settings_of_ipv4 : INET_DEV_CONF ≡ range_with_len 0 33
  pub settings_of_ipv6 : INET6_DEV_CONF ≡ range_with_len 0 59
  pub statistics_of_ipv6 : INET6_STATS ≡ range_with_len 0 38
  pub statistics_of_icmpv6 : ICMP6_STATS ≡ range_with_len 0 7
