-- The IPv6 timers of a link (if_link.h, struct ifla_cacheinfo).
use Rattle.std.specs.Prelude.{ℕ, List, ◌++◌}
use Rattle.netlink_packet_core.specs.Numbers.{le4}
use Rattle.link_message_records.specs.declared.cache_info.Inet6CacheInfo.{Inet6CacheInfo}

-- The bytes of the timers: four numbers of 4 bytes.
abbrev pub inet_6_cache_info_bytes : Inet6CacheInfo → List ℕ
inet_6_cache_info_bytes v = le4 v.max_reasm_len ++ (le4 v.tstamp ++ (le4 v.reachable_time ++ le4 v.retrans_time))
