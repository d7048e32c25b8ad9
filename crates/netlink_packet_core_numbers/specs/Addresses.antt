-- Internet protocol addresses as bytes.
use Rattle.std.specs.Prelude.{◌≡◌, ℕ, List, length}
use Rattle.std.specs.Net.Addr.{ipv4_octets, ipv6_octets}
use Rattle.std.specs.declared.net.ip_addr.IpAddr.{IpAddr}
use Rattle.std.specs.declared.net.ip_addr.IpAddr.TheVariants.{V4, V6}

-- The 4 or 16 bytes of an address.
abbrev pub ip_octets : IpAddr → List ℕ
ip_octets (V4 a) = ipv4_octets a
ip_octets (V6 a) = ipv6_octets a

-- An address has 4 or 16 bytes. Every value does, but an address in a law may hold an array of any length.
abbrev pub HasAddressLength : IpAddr → Type 0
HasAddressLength (V4 a) = length (ipv4_octets a) ≡ 4
HasAddressLength (V6 a) = length (ipv6_octets a) ≡ 16
