-- The text of a group determines its address and its protocol.
use Rattle.std.proofs.Common.{◌≡◌, ℕ, ◌+◌, ◌*◌, ◌/◌, ◌%◌, ◌<◌, ◌≤◌, Bool, true, false, List, [], ◌∷◌, ◌++◌, length, take, drop, refl, sym, ap, ◌∙◌, append_assoc, arith}
use Rattle.std.specs.Prelude.{◌==◌, ◌&&◌, codes, cond, flat_map, slice_index}
use Rattle.std.specs.Fmt.{decimal}
use Rattle.std.specs.Net.Addr.{segments_of}
use Rattle.std.specs.Net.Text.{dotted_text, ipv4_text, ipv6_text}
use Rattle.std.proofs.lemmas.Bool.{eqb-true}
use Rattle.std.proofs.lemmas.Fmt.{length-decimal-le}
use Rattle.std.proofs.lemmas.List.{length-append, length-take, length-drop}
use Rattle.netlink_packet_core_grammar.specs.Bytes.{AreBytes}
use Rattle.link_lines_values.specs.Bytes.{colon_byte, colons, hex_text, is_zero}
use Rattle.link_lines_values.specs.Digits.{big_endian}
use Rattle.link_lines_values.specs.Laws.{BeginsWithSpace, Ends}
use Rattle.link_lines_values.specs.Names.{Text, named_number}
use Rattle.link_lines_values.specs.Records.{group_address, group_text}
use Rattle.link_lines_values.proofs.BytesDetermined.{colons_are_determined, hex_determined}
use Rattle.link_lines_values.proofs.NumbersDetermined.{Digits, cut, high_glyph, highest_first, named_determined, number_and_rest, number_determined}
use Rattle.link_lines_values.proofs.Solid.{Solid, digits_solid, either_solid, ipv4_solid, ipv6_solid}
use Rattle.link_lines_values.proofs.ValuesDetermined.{both_parts, bytes_at, ipv4_determined, ipv6_determined}
use Rattle.link_lines_values.proofs.Zeros.{zero_number}
use Rattle.netlink_packet_core_grammar.proofs.Bytes.{AreBytes-drop, AreBytes-take}

-- ---- texts without a space

hex_high : (p : List ℕ) → Digits (hex_text p)
hex_high [] = record {}
hex_high (x ∷ p) = (high_glyph (x / 16), (high_glyph (x % 16), hex_high p))

colons_high : (p : List ℕ) → Digits (flat_map colon_byte p)
colons_high [] = record {}
colons_high (x ∷ p) = (omega arith, (high_glyph (x / 16), (high_glyph (x % 16), colons_high p)))

address_high : (p : List ℕ) → Digits (colons p)
address_high [] = record {}
address_high (x ∷ p) = (high_glyph (x / 16), (high_glyph (x % 16), colons_high p))

group_solid : (n : ℕ) (p : List ℕ) → Solid (group_address n p)
group_solid n p =
    either_solid ((n == 2048) && is_zero (drop 4 p)) (ipv4_text (take 4 p)) _ (ipv4_solid (take 4 p))
    (either_solid (n == 34525) (ipv6_text (segments_of p)) _ (ipv6_solid (segments_of p))
    (either_solid ((n == 0) && is_zero (drop 6 p)) (colons (take 6 p)) (hex_text p) (digits_solid _ (address_high (take 6 p))) (digits_solid _ (hex_high p))))

cut_solid : (a b s t : List ℕ) → Solid a → Solid b → BeginsWithSpace s → BeginsWithSpace t → a ++ s ≡ b ++ t → (a ≡ b) × (s ≡ t)
cut_solid [] [] s t h k m n e = (refl, e)
cut_solid [] (y ∷ b) [] t h k m n e = absurd cc
cut_solid [] (y ∷ b) (c ∷ s) t h k m n e = let first : c ≡ y = cc in absurd (omega (arith, first, k.0, m))
cut_solid (x ∷ a) [] s [] h k m n e = absurd cc
cut_solid (x ∷ a) [] s (c ∷ t) h k m n e = let first : x ≡ c = cc in absurd (omega (arith, first, h.0, n))
cut_solid (x ∷ a) (y ∷ b) s t h k m n e =
    let rest = cut_solid a b s t h.1 k.1 m n (ap (drop 1) e) in
    (cc, rest.1)

-- The text of bytes in hex determines them, and what follows it.
pub hex_and_rest : (p q s t : List ℕ) → AreBytes p → AreBytes q → Ends s → Ends t → hex_text p ++ s ≡ hex_text q ++ t → (p ≡ q) × (s ≡ t)
hex_and_rest p q s t a b m n e =
    let r = cut (hex_text p) (hex_text q) s t (hex_high p) (hex_high q) m n e in
    (hex_determined p q a b r.0, r.1)

-- So does that of an IPv6 address.
pub ipv6_and_rest : (p q s t : List ℕ) → AreBytes p → AreBytes q → length p ≡ 16 → length q ≡ 16 → BeginsWithSpace s → BeginsWithSpace t →
    ipv6_text (segments_of p) ++ s ≡ ipv6_text (segments_of q) ++ t → (p ≡ q) × (s ≡ t)
ipv6_and_rest p q s t a b l o m n e =
    let r = cut_solid (ipv6_text (segments_of p)) (ipv6_text (segments_of q)) s t (ipv6_solid (segments_of p)) (ipv6_solid (segments_of q)) m n e in
    (ipv6_determined p q a b l o r.0, r.1)

-- ---- lengths

hex_length : (p : List ℕ) → length (hex_text p) ≡ 2 * length p
hex_length [] = refl
hex_length (x ∷ p) = omega (arith, hex_length p)

pairs_length : (p : List ℕ) → length (flat_map colon_byte p) ≡ 3 * length p
pairs_length [] = refl
pairs_length (x ∷ p) = omega (arith, pairs_length p)

colons_length : (p : List ℕ) → AreBytes p → length p ≡ 6 → length (colons p) < 32
colons_length [] a l = omega arith
colons_length (x ∷ p) a l = omega (arith, pairs_length p)

decimal_length : (n : ℕ) → n < 256 → length (decimal n) ≤ 3
decimal_length n h = length-decimal-le 3 n (omega arith) (omega arith) (omega arith)

dotted_length : (a b c d : ℕ) → a < 256 → b < 256 → c < 256 → d < 256 → length (dotted_text a b c d) < 32
dotted_length a b c d h i j k =
    let dot = codes "." in
    let x = decimal a ++ dot in
    let y = x ++ decimal b in
    let z = y ++ dot in
    let u = z ++ decimal c in
    let v = u ++ dot in
    let whole : length (dotted_text a b c d) ≡ length v + length (decimal d) = length-append v (decimal d) in
    omega (arith, whole, length-append u dot, length-append z (decimal c), length-append y dot, length-append x (decimal b), length-append (decimal a) dot, decimal_length a h, decimal_length b i, decimal_length c j, decimal_length d k)

ipv4_length : (p : List ℕ) → AreBytes p → length p ≡ 4 → length (ipv4_text p) < 32
ipv4_length p a l = dotted_length (slice_index p 0) (slice_index p 1) (slice_index p 2) (slice_index p 3) (bytes_at p a 0) (bytes_at p a 1) (bytes_at p a 2) (bytes_at p a 3)

-- ---- addresses

-- An address of n bytes that zeros follow, or all bytes in hex.
padded_same : (n : ℕ) (text : List ℕ → List ℕ) → n ≤ 16 → ((x : List ℕ) → AreBytes x → length x ≡ n → length (text x) < 32) →
    ((x y : List ℕ) → AreBytes x → AreBytes y → length x ≡ n → length y ≡ n → text x ≡ text y → x ≡ y) → (p q : List ℕ) (t u : Bool) → is_zero (drop n p) ≡ t → is_zero (drop n q) ≡ u →
    AreBytes p → AreBytes q → length p ≡ 16 → length q ≡ 16 → cond t (text (take n p)) (hex_text p) ≡ cond u (text (take n q)) (hex_text q) → p ≡ q
padded_same n text m short determined p q true true h k a b l o e =
    let back = number_determined (drop n p) (drop n q) (AreBytes-drop n p a) (AreBytes-drop n q b) (omega (arith, length-drop n p, length-drop n q)) (zero_number _ h ∙ sym (zero_number _ k)) in
    both_parts n p q (determined (take n p) (take n q) (AreBytes-take n p a) (AreBytes-take n q b) (omega (arith, length-take n p)) (omega (arith, length-take n q)) e) back
padded_same n text m short determined p q true false h k a b l o e =
    absurd (omega (arith, short (take n p) (AreBytes-take n p a) (omega (arith, length-take n p)), hex_length q, ap length e))
padded_same n text m short determined p q false true h k a b l o e =
    absurd (omega (arith, short (take n q) (AreBytes-take n q b) (omega (arith, length-take n q)), hex_length p, ap length e))
padded_same n text m short determined p q false false h k a b l o e = hex_determined p q a b e

abbrev address_by : Bool → Bool → Bool → List ℕ → List ℕ
address_by x y z p = cond (x && is_zero (drop 4 p)) (ipv4_text (take 4 p)) (cond y (ipv6_text (segments_of p)) (cond (z && is_zero (drop 6 p)) (colons (take 6 p)) (hex_text p)))

same_by : (n : ℕ) (p q : List ℕ) (x y z : Bool) → (n == 2048) ≡ x → (n == 34525) ≡ y → (n == 0) ≡ z → AreBytes p → AreBytes q → length p ≡ 16 → length q ≡ 16 → address_by x y z p ≡ address_by x y z q → p ≡ q
same_by n p q true true z h i j a b l o e = absurd (omega (arith, eqb-true n 2048 h, eqb-true n 34525 i))
same_by n p q true false true h i j a b l o e = absurd (omega (arith, eqb-true n 2048 h, eqb-true n 0 j))
same_by n p q true false false h i j a b l o e = padded_same 4 ipv4_text (omega arith) ipv4_length ipv4_determined p q _ _ refl refl a b l o e
same_by n p q false true z h i j a b l o e = ipv6_determined p q a b l o e
same_by n p q false false true h i j a b l o e = padded_same 6 colons (omega arith) colons_length (λ x y c d f g. colons_are_determined x y c d) p q _ _ refl refl a b l o e
same_by n p q false false false h i j a b l o e = hex_determined p q a b e

pub group_determined : (texts : List Text) (p q s t : List ℕ) → AreBytes p → AreBytes q → length p ≡ 18 → length q ≡ 18 → Ends s → Ends t → group_text texts p ++ s ≡ group_text texts q ++ t → (p ≡ q) × (s ≡ t)
group_determined texts p q s t a b l o m n e =
    let x = drop 16 p in
    let y = drop 16 q in
    let first = group_address (big_endian x) (take 16 p) in
    let other = group_address (big_endian y) (take 16 q) in
    let cut = cut_solid first other _ _ (group_solid (big_endian x) (take 16 p)) (group_solid (big_endian y) (take 16 q)) refl refl
    (sym (append_assoc first (codes " proto " ++ named_number texts (big_endian x)) s) ∙ e ∙ append_assoc other (codes " proto " ++ named_number texts (big_endian y)) t) in
    let r = number_and_rest big_endian highest_first (named_number texts) (named_determined texts) x y s t (AreBytes-drop 16 p a) (AreBytes-drop 16 q b) (omega (arith, length-drop 16 p)) (omega (arith, length-drop 16 p, length-drop 16 q)) m n (ap (drop 7) cut.1) in
    let address : take 16 p ≡ take 16 q =
    same_by (big_endian x) (take 16 p) (take 16 q) _ _ _ refl refl refl (AreBytes-take 16 p a) (AreBytes-take 16 q b) (omega (arith, length-take 16 p)) (omega (arith, length-take 16 q))
    (cut.0 ∙ ap (λ d. group_address (big_endian d) (take 16 q)) (sym r.0)) in
    (both_parts 16 p q address r.0, r.1)
