-- How long bytes, texts in quotes and addresses are.
use Rattle.std.proofs.Common.{ℕ, zero, suc, ◌+◌, ◌*◌, ◌/◌, ◌%◌, ◌<◌, ◌≤◌, Bool, true, false, cond, List, [], ◌∷◌, ◌++◌, length, take, drop, max, arith}
use Rattle.std.specs.Prelude.{◌==◌, ◌&&◌, ◌||◌, bytes_eq, codes, flat_map, if◌then◌else◌, nat_le, nat_lt, slice_index}
use Rattle.std.specs.Fmt.{decimal}
use Rattle.std.specs.Net.Addr.{octets_of, segments_of}
use Rattle.std.specs.Net.Text.{groups_text, hex, hex_groups_text, ipv4_text, ipv6_text, leading_zero_digits, longest_zero_run}
use Rattle.std.specs.Char.{digit_char}
use Rattle.std.specs.List.{AllByRecursion}
use Rattle.std.proofs.lemmas.Bool.{cond_both}
use Rattle.std.proofs.lemmas.Fmt.{length-decimal-le}
use Rattle.std.proofs.lemmas.List.{length-append, length-drop, length-take}
use Rattle.netlink_packet_core_grammar.specs.Bytes.{AreBytes}
use Rattle.netlink_packet_core_grammar.specs.Texts.{without_nul}
use Rattle.link_lines_values.specs.Bytes.{boolean_text, bytes_text, colon_byte, colons, count_without_zeros, escaped, hardware_text, hex_text, is_zero, padded_address, padded_text, quoted}
use Rattle.link_lines_values.specs.Digits.{hex_byte}

pub hex_text_short : (p : List ℕ) → length (hex_text p) ≤ 2 * length p
hex_text_short [] = omega arith
hex_text_short (b ∷ p) = omega (arith, hex_text_short p, length-append (hex_byte b) (hex_text p))

pub bytes_text_short : (p : List ℕ) → length (bytes_text p) ≤ 1 + 2 * length p
bytes_text_short [] = omega arith
bytes_text_short (b ∷ p) = omega (arith, hex_text_short (b ∷ p))

colon_bytes_short : (p : List ℕ) → length (flat_map colon_byte p) ≤ 3 * length p
colon_bytes_short [] = omega arith
colon_bytes_short (b ∷ p) = omega (arith, colon_bytes_short p, length-append (colon_byte b) (flat_map colon_byte p))

pub colons_short : (p : List ℕ) → length (colons p) ≤ 3 * length p
colons_short [] = omega arith
colons_short (b ∷ p) = omega (arith, colon_bytes_short p, length-append (hex_byte b) (flat_map colon_byte p))

pub hardware_text_short : (p : List ℕ) → length (hardware_text p) ≤ 1 + 3 * length p
hardware_text_short [] = omega arith
hardware_text_short (b ∷ p) = omega (arith, colons_short (b ∷ p))

pub padded_address_short : (p : List ℕ) → length (padded_address p) ≤ 3 * length p
padded_address_short p =
    let n = max 6 (count_without_zeros p) in
    omega (arith, colons_short (take n p), length-take n p)

escaped_short : (b : ℕ) → length (escaped b) ≤ 4
escaped_short b =
    cond_both ((b == 34) || (b == 92)) (92 ∷ b ∷ []) (cond (nat_le 32 b && nat_lt b 127) (b ∷ []) (92 ∷ 120 ∷ hex_byte b)) (λ s. length s ≤ 4) (λ e. omega arith)
    (λ e. cond_both (nat_le 32 b && nat_lt b 127) (b ∷ []) (92 ∷ 120 ∷ hex_byte b) (λ s. length s ≤ 4) (λ f. omega arith) (λ f. omega arith))

escapes_short : (p : List ℕ) → length (flat_map escaped p) ≤ 4 * length p
escapes_short [] = omega arith
escapes_short (b ∷ p) = omega (arith, escapes_short p, escaped_short b, length-append (escaped b) (flat_map escaped p))

in_quotes_short : (p : List ℕ) → length (34 ∷ (flat_map escaped p ++ 34 ∷ [])) ≤ 2 + 4 * length p
in_quotes_short p = omega (arith, escapes_short p, length-append (flat_map escaped p) (34 ∷ []))

without_nul_short : (p : List ℕ) → length (without_nul p) ≤ length p
without_nul_short [] = omega arith
without_nul_short (zero ∷ []) = omega arith
without_nul_short (suc b ∷ []) = omega arith
without_nul_short (b ∷ c ∷ p) = omega (arith, without_nul_short (c ∷ p))

pub quoted_short : (p : List ℕ) → length (quoted p) ≤ 2 + 4 * length p
quoted_short p = omega (arith, in_quotes_short (without_nul p), without_nul_short p)

pub padded_text_short : (p : List ℕ) → length (padded_text p) ≤ 2 + 4 * length p
padded_text_short p = let n = count_without_zeros p in omega (arith, in_quotes_short (take n p), length-take n p)

pub boolean_text_short : (p : List ℕ) → length (boolean_text p) ≤ 3
boolean_text_short p = cond_both (is_zero p) (codes "off") (codes "on") (λ s. length s ≤ 3) (λ e. omega arith) (λ e. omega arith)

-- ---- addresses

byte_short : (p : List ℕ) (i : ℕ) → AreBytes p → slice_index p i < 256
byte_short [] i a = omega arith
byte_short (b ∷ p) zero a = a.0
byte_short (b ∷ p) (suc i) a = byte_short p i a.1

octet_short : (p : List ℕ) (i : ℕ) → AreBytes p → length (decimal (slice_index p i)) ≤ 3
octet_short p i a = length-decimal-le 3 (slice_index p i) (omega arith) (omega (arith, byte_short p i a)) (omega (arith, byte_short p i a))

pub ipv4_text_short : (p : List ℕ) → AreBytes p → length (ipv4_text p) ≤ 15
ipv4_text_short p a =
    let b = decimal (slice_index p 0) in
    let c = decimal (slice_index p 1) in
    let d = decimal (slice_index p 2) in
    let e = decimal (slice_index p 3) in
    omega (arith, octet_short p 0 a, octet_short p 1 a, octet_short p 2 a, octet_short p 3 a, length-append (b ++ codes "." ++ c ++ codes "." ++ d ++ codes ".") e, length-append (b ++ codes "." ++ c ++ codes "." ++ d) (codes "."), length-append (b ++ codes "." ++ c ++ codes ".") d, length-append (b ++ codes "." ++ c) (codes "."), length-append (b ++ codes ".") c, length-append b (codes "."))

hex_short : (n : ℕ) → length (hex n) ≤ 4
unfolding hex
hex_short n =
    let k = leading_zero_digits n in
    omega (arith, length-drop k (digit_char (n / 0x1000) ∷ digit_char (n / 0x100 % 16) ∷ digit_char (n / 0x10 % 16) ∷ digit_char (n % 16) ∷ []))

rest_groups_short : (s : List ℕ) → length (flat_map (λ t. codes ":" ++ hex t) s) ≤ 5 * length s
rest_groups_short [] = omega arith
rest_groups_short (n ∷ s) = omega (arith, hex_short n, rest_groups_short s, length-append (codes ":" ++ hex n) (flat_map (λ t. codes ":" ++ hex t) s))

groups_text_short : (s : List ℕ) → length (groups_text s) ≤ 5 * length s
groups_text_short [] = omega arith
groups_text_short (n ∷ s) = omega (arith, hex_short n, rest_groups_short s, length-append (hex n) (flat_map (λ t. codes ":" ++ hex t) s))

compressed_by : (b : Bool) (s : List ℕ) (i j : ℕ) → length s ≤ 8 →
    length (if b then groups_text (take i s) ++ codes "::" ++ groups_text (drop (i + j) s) else groups_text s) ≤ 42
compressed_by true s i j h =
    let x = groups_text (take i s) in
    let y = groups_text (drop (i + j) s) in
    omega (arith, groups_text_short (take i s), groups_text_short (drop (i + j) s), length-take i s, length-drop (i + j) s, h, length-append (x ++ codes "::") y, length-append x (codes "::"))
compressed_by false s i j h = omega (arith, groups_text_short s, h)

groups_short : (s : List ℕ) → length s ≤ 8 → length (hex_groups_text s) ≤ 42
unfolding hex_groups_text
groups_short s h = compressed_by (nat_lt 1 (longest_zero_run s).1) s (longest_zero_run s).0 (longest_zero_run s).1 h

segments_short : (p : List ℕ) → 2 * length (segments_of p) ≤ length p
segments_short [] = omega arith
segments_short (a ∷ []) = omega arith
segments_short (a ∷ b ∷ p) = omega (arith, segments_short p)

-- Segments of 16 bits.
abbrev AreSegments : List ℕ → Type 0
AreSegments s = AllByRecursion (λ n. n < 65536) s

segments_are : (p : List ℕ) → AreBytes p → AreSegments (segments_of p)
segments_are [] a = record {}
segments_are (b ∷ []) a = record {}
segments_are (b ∷ c ∷ p) a = (omega (arith, a.0, a.1.0), segments_are p a.1.1)

dropped_are : (k : ℕ) (s : List ℕ) → AreSegments s → AreSegments (drop k s)
dropped_are zero s h = h
dropped_are (suc k) [] h = record {}
dropped_are (suc k) (n ∷ s) h = dropped_are k s h.1

octets_are : (s : List ℕ) → AreSegments s → AreBytes (octets_of s)
octets_are [] h = record {}
octets_are (n ∷ s) h = (omega (arith, h.0), (omega arith, octets_are s h.1))

ipv6_by : (b : Bool) (s : List ℕ) → AreSegments s → length s ≤ 8 → length (if b then codes "::ffff:" ++ ipv4_text (octets_of (drop 6 s)) else hex_groups_text s) ≤ 42
ipv6_by true s a h = omega (arith, ipv4_text_short (octets_of (drop 6 s)) (octets_are (drop 6 s) (dropped_are 6 s a)))
ipv6_by false s a h = groups_short s h

pub ipv6_text_short : (p : List ℕ) → AreBytes p → length p ≤ 16 → length (ipv6_text (segments_of p)) ≤ 42
unfolding ipv6_text
ipv6_text_short p a h =
    let s = segments_of p in
    ipv6_by (bytes_eq (take 6 s) (0 ∷ 0 ∷ 0 ∷ 0 ∷ 0 ∷ 0xffff ∷ [])) s (segments_are p a) (omega (arith, segments_short p, h))
