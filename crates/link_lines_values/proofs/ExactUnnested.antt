-- No value of a raw attribute's payload begins as the word for the nested bit and a value do.
use Rattle.std.proofs.Common.{◌≡◌, ℕ, ◌+◌, ◌/◌, ◌<◌, ◌≤◌, ◌⊎◌, inl, inr, Bool, true, false, List, [], ◌∷◌, ◌++◌, length, take, drop, get_or, refl, sym, ap, subst, ◌∙◌, arith}
use Rattle.std.specs.Prelude.{◌==◌, ◌||◌, codes, cond, decimal, nat_lt}
use Rattle.std.specs.List.{All}
use Rattle.std.specs.Net.Addr.{segments_of}
use Rattle.std.specs.Net.Text.{hex_groups_text, ipv4_text, ipv6_text}
use Rattle.std.proofs.lemmas.Bool.{and_parts, eqb-true}
use Rattle.std.proofs.lemmas.List.{length-take}
use Rattle.std.proofs.NetLemmas.Alphabet.{IsHexOrColon, All-ipv4_text, All-hex_groups_text}
use Rattle.std.proofs.NetLemmas.Texts.{AllSegments}
use Rattle.netlink_packet_core_grammar.specs.Bytes.{AreBytes}
use Rattle.netlink_packet_core_grammar.proofs.Bytes.{AreBytes-take}
use Rattle.attribute_tables_grammar.specs.Shapes.{number}
use Rattle.link_lines_values.specs.declared.exact.ExactBy.TheVariants as E
use Rattle.link_lines_values.specs.declared.values.ShownBy.TheVariants as V
use Rattle.link_lines_values.specs.Bytes.{address_text, bytes_text, hardware_text, quoted}
use Rattle.link_lines_values.specs.Digits.{big_endian, is_number, is_signed_size}
use Rattle.link_lines_values.specs.Exact.{Exact, bridge_id_text, determines_exact, exact_text, labels_text, numbers_text, raw_value, takes, via_text}
use Rattle.link_lines_values.specs.Flags.{big_endian_flags, flags_text}
use Rattle.link_lines_values.specs.Laws.{BeginsWithSpace}
use Rattle.link_lines_values.specs.Names.{Text, named_number, named_signed}
use Rattle.link_lines_values.specs.Records.{Field, counters_text, is_counters, is_size}
use Rattle.link_lines_values.specs.Values.{Shown, determines_sized, is_shown_on_a_line, named_flags_value, number_value, value_text}
use Rattle.link_lines_values.proofs.ExactApart.{counters_second, labels_low, numbers_low, record_apart}
use Rattle.link_lines_values.proofs.ExactTaken.{UintSize, ViaSize, bridge_id_shown, counters_parts, either_size, record_parts, sizes_of_numbers, uint_size, via_16_shown, via_4_shown, via_size}
use Rattle.link_lines_values.proofs.NumbersDetermined.{highest_first, lowest_first, sized}
use Rattle.link_lines_values.proofs.SizedDetermined.{chosen_low, digits_low, first_low, flags_low, glyph_by, signed_low, up_to_f}
use Rattle.link_lines_values.proofs.ValuesDetermined.{bytes_at, segments_at}

-- ---- the second byte of the word is over the hex digits

-- Where the byte after the space is under `n`.
abbrev IsUnder : List ℕ → Type 0
IsUnder t = get_or t 1 0 < 110

other_second : (t s : List ℕ) → IsUnder t → t ≡ codes " nested" ++ s → ⊥
other_second t s h e = let z : get_or t 1 0 ≡ 110 = ap (λ l. get_or l 1 0) e in omega (arith, h, z)

low : (t : List ℕ) → get_or t 1 0 < 98 → IsUnder t
low t h = omega (arith, h)

-- ---- bytes in hex

glyph_under : (b : ℕ) → b < 256 → cond (nat_lt (b / 16) 10) (48 + b / 16) (87 + b / 16) < 110
glyph_under b h = omega (arith, glyph_by (nat_lt (b / 16) 10) (b / 16) (omega (arith, h)))

bytes_under : (p : List ℕ) → AreBytes p → IsUnder (bytes_text p)
bytes_under [] a = omega arith
bytes_under (b ∷ p) a = glyph_under b a.0

hardware_under : (p : List ℕ) → AreBytes p → IsUnder (hardware_text p)
hardware_under [] a = omega arith
hardware_under (b ∷ p) a = glyph_under b a.0

bridge_id_under : (p : List ℕ) → takes E.BridgeId p ≡ true → AreBytes p → IsUnder (bridge_id_text p)
bridge_id_under [] h a = omega arith
bridge_id_under (b ∷ p) h a = subst IsUnder (sym (bridge_id_shown (b ∷ p) h)) (glyph_under b a.0)

-- ---- addresses

first_hex : (t : List ℕ) → All IsHexOrColon t → get_or t 0 0 ≤ 102
first_hex [] h = omega arith
first_hex (c ∷ t) h = up_to_f c (h 0 0 (omega arith))

mapped_hex : (t : Bool) (x y : List ℕ) → get_or y 0 0 ≤ 102 → get_or (cond t (58 ∷ x) y) 0 0 ≤ 102
mapped_hex true x y h = omega arith
mapped_hex false x y h = h

ipv6_hex : (s : List ℕ) → AllSegments s → get_or (ipv6_text s) 0 0 ≤ 102
unfolding ipv6_text
ipv6_hex s h = mapped_hex _ _ (hex_groups_text s) (first_hex (hex_groups_text s) (All-hex_groups_text s h))

ipv4_under : (p : List ℕ) → AreBytes p → IsUnder (32 ∷ ipv4_text p)
ipv4_under p a = low (32 ∷ ipv4_text p) (first_low (ipv4_text p) (All-ipv4_text p (bytes_at p a)))

ipv6_under : (p : List ℕ) → AreBytes p → IsUnder (32 ∷ ipv6_text (segments_of p))
ipv6_under p a = omega (arith, ipv6_hex (segments_of p) (segments_at p a))

abbrev address_of : ℕ → List ℕ → List ℕ
address_of n p = cond (n == 4) (32 ∷ ipv4_text p) (cond (n == 16) (32 ∷ ipv6_text (segments_of p)) (bytes_text p))

address_under : (p : List ℕ) → (length p ≡ 4) ⊎ (length p ≡ 16) → AreBytes p → IsUnder (address_text p)
address_under p (inl l) a = subst (λ n. IsUnder (address_of n p)) (sym l) (ipv4_under p a)
address_under p (inr l) a = subst (λ n. IsUnder (address_of n p)) (sym l) (ipv6_under p a)

-- ---- values of known sizes

flags_under : (names : List Text) (p : List ℕ) → is_number p ≡ true → IsUnder (named_flags_value names p)
flags_under names p h = low (named_flags_value names p) (chosen_low (is_number p) (32 ∷ flags_text names p) (bytes_text p) 1 h (flags_low (length p == 4) (number p) _ _))

sized_under : (n : ℕ) (v : Shown) (p : List ℕ) → determines_sized n v ≡ true → AreBytes p → length p ≡ n → IsUnder (value_text v p)
sized_under n (V.Number texts) p h a k =
    let size = ap is_size k ∙ h in
    low (value_text (V.Number texts) p) (chosen_low (is_number p) (32 ∷ named_number texts (number p)) (bytes_text p) 1 size (digits_low (number p) _ (lowest_first.small p a (sized (length p) size))))
sized_under n (V.BigEndian texts) p h a k =
    let size = ap is_size k ∙ h in
    low (value_text (V.BigEndian texts) p) (chosen_low (is_number p) (32 ∷ named_number texts (big_endian p)) (bytes_text p) 1 size (digits_low (big_endian p) _ (highest_first.small p a (sized (length p) size))))
sized_under n (V.Signed texts) p h a k = low (value_text (V.Signed texts) p) (chosen_low (is_signed_size (length p)) (32 ∷ named_signed texts (length p) (number p)) (bytes_text p) 1 (ap is_signed_size k ∙ h) (signed_low (length p) (number p) _))
sized_under n V.Flags p h a k = flags_under [] p (ap is_size k ∙ h)
sized_under n (V.NamedFlags names) p h a k = flags_under names p (ap is_size k ∙ h)
sized_under n V.BigEndianFlags p h a k = low (value_text V.BigEndianFlags p) (chosen_low (is_number p) (32 ∷ big_endian_flags p) (bytes_text p) 1 (ap is_size k ∙ h) (omega arith))
sized_under n V.Presence p h a k = omega arith
sized_under n V.HardwareAddress p h a k = hardware_under p a
sized_under n V.Address p h a k = address_under p (either_size (length p) 4 16 (ap (λ m. (m == 4) || (m == 16)) k ∙ h)) a
sized_under n V.PortRange p h a k =
    low (value_text V.PortRange p) (chosen_low (length p == 4) (32 ∷ (decimal (big_endian (take 2 p)) ++ 32 ∷ decimal (big_endian (drop 2 p)))) (bytes_text p) 1 (ap (λ m. m == 4) k ∙ h)
    (digits_low (big_endian (take 2 p)) _ (highest_first.small (take 2 p) (AreBytes-take 2 p a) (omega (arith, length-take 2 p)))))
sized_under n (V.FlagsAndMask names) p h a k = low (value_text (V.FlagsAndMask names) p) (chosen_low (length p == 8) (32 ∷ _) (bytes_text p) 1 (ap (λ m. m == 8) k ∙ h) (omega arith))
sized_under n v p h a k = absurd cc

-- ---- other values

uint_under : (p : List ℕ) → UintSize p → AreBytes p → IsUnder (number_value [] p)
uint_under p (inl l) a = sized_under 4 (V.Number []) p refl a l
uint_under p (inr l) a = sized_under 8 (V.Number []) p refl a l.0

via_under : (p : List ℕ) → ViaSize p → IsUnder (via_text p)
via_under p (inl l) = subst IsUnder (sym (via_4_shown p l.0)) (omega arith)
via_under p (inr l) = subst IsUnder (sym (via_16_shown p l.0)) (omega arith)

quoted_under : (p : List ℕ) → IsUnder (32 ∷ quoted p)
quoted_under p = omega arith

counters_under : (fs : List Field) (p : List ℕ) → is_counters fs p ≡ true → IsUnder (counters_text fs p)
counters_under fs p h = omega (arith, counters_second fs p h)

text_unnested : (x : Exact) (p s : List ℕ) → determines_exact x ≡ true → takes x p ≡ true → AreBytes p → BeginsWithSpace s → exact_text x p ≡ codes " nested" ++ s → ⊥
text_unnested (E.Number n) p s h k a b e = other_second _ s (sized_under n (V.Number []) p h a (eqb-true (length p) n k)) e
text_unnested (E.Sized n v) p s h k a b e = other_second _ s (sized_under n v p (and_parts (determines_sized n v) (is_shown_on_a_line v) h).0 a (eqb-true (length p) n k)) e
text_unnested E.Bytes p s h k a b e = other_second _ s (bytes_under p a) e
text_unnested E.HardwareAddress p s h k a b e = other_second _ s (hardware_under p a) e
text_unnested E.Address p s h k a b e = other_second _ s (address_under p (either_size (length p) 4 16 k) a) e
text_unnested E.Text p s h k a b e = other_second _ s (quoted_under p) e
text_unnested E.Uint p s h k a b e = other_second _ s (uint_under p (uint_size p k) a) e
text_unnested (E.Numbers n) p s h k a b e = other_second _ s (low (numbers_text n p) (numbers_low n p (sizes_of_numbers n h) k a)) e
text_unnested E.BridgeId p s h k a b e = other_second _ s (bridge_id_under p k a) e
text_unnested E.Labels p s h k a b e = other_second _ s (low (labels_text p) (labels_low p k a)) e
text_unnested E.Via p s h k a b e = other_second _ s (via_under p (via_size p k)) e
text_unnested (E.Record fs) p s h k a b e = record_apart fs p (codes "nested") s (record_parts fs h).1.1.0 refl b e
text_unnested (E.Counters fs) p s h k a b e = other_second _ s (counters_under fs p (counters_parts fs p k).0) e

unnested_by : (x : Exact) (p s : List ℕ) (t : Bool) → takes x p ≡ t → determines_exact x ≡ true → AreBytes p → BeginsWithSpace s →
    cond t (exact_text x p) (codes " bytes" ++ bytes_text p) ≡ codes " nested" ++ s → ⊥
unnested_by x p s true k h a b e = text_unnested x p s h k a b e
unnested_by x p s false k h a b e = other_second (codes " bytes" ++ bytes_text p) s (omega arith) e

pub raw_value_unnested : (x : Exact) (p s : List ℕ) → determines_exact x ≡ true → AreBytes p → BeginsWithSpace s → raw_value x p ≡ codes " nested" ++ s → ⊥
raw_value_unnested x p s h a b e = unnested_by x p s (takes x p) refl h a b e
