-- No address of 4 bytes has the text of one of 16.
use Rattle.std.proofs.Common.{◌≡◌, ℕ, List, length, drop, sym, ap, subst}
use Rattle.std.specs.Net.Addr.{segments_of}
use Rattle.std.specs.Net.Text.{ipv4_text, ipv6_text}
use Rattle.std.specs.Net.Grammar.{IsColonHex}
use Rattle.std.proofs.NetLemmas.Texts.{IsDotted-ipv4_text, IsColonHex-ipv6_text}
use Rattle.std.proofs.NetLemmas.Ipv6.{IsDotted-not_colon_hex}
use Rattle.netlink_packet_core_grammar.specs.Bytes.{AreBytes}
use Rattle.link_lines_values.specs.Laws.{AddressSizesAreDetermined}
use Rattle.link_lines_values.proofs.ValuesDetermined.{bytes_at, segments_at, segments_size}

-- No IPv4 address has the text of an IPv6 address.
texts_apart : (p q : List ℕ) → AreBytes p → AreBytes q → length p ≡ 4 → length q ≡ 16 → ipv4_text p ≡ ipv6_text (segments_of q) → ⊥
texts_apart p q a b l k e =
    let hex : IsColonHex (ipv6_text (segments_of q)) (segments_of q) = IsColonHex-ipv6_text (segments_of q) (segments_size 8 q k) (segments_at q b) in
    IsDotted-not_colon_hex (ipv4_text p) p (segments_of q) (IsDotted-ipv4_text p l (bytes_at p a)) (subst (λ t. IsColonHex t (segments_of q)) (sym e) hex)

pub sizes_determined : AddressSizesAreDetermined
sizes_determined p q a b l k e = texts_apart p q a b l k (ap (drop 1) (rw (l, k) at e))
