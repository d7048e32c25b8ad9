-- The text of bytes determines them.
use Rattle.std.proofs.Common.{◌≡◌, ℕ, ◌/◌, ◌%◌, ◌<◌, Bool, true, false, List, [], ◌∷◌, ◌++◌, drop, refl, sym, ap, ◌∙◌, arith, append_assoc, cond}
use Rattle.std.specs.Prelude.{◌==◌, ◌&&◌, ◌||◌, get_or, flat_map, nat_le, nat_lt}
use Rattle.std.specs.Fmt.{digit_glyph}
use Rattle.std.proofs.lemmas.Bool.Decides.{nat_tests}
use Rattle.netlink_packet_core_grammar.specs.Bytes.{AreBytes}
use Rattle.netlink_packet_core_grammar.specs.Texts.{without_nul}
use Rattle.link_lines_values.specs.Bytes.{bytes_text, colon_byte, colons, escaped, hardware_text, hex_text, quoted}
use Rattle.link_lines_values.specs.Digits.{hex_byte}
use Rattle.link_lines_values.specs.Laws.{BytesAreDetermined}
use Rattle.netlink_packet_core_grammar.proofs.Texts.{without_nul-bytes}

glyph_by : (d e : ℕ) (s t : Bool) → nat_lt d 10 ≡ s → nat_lt e 10 ≡ t → d < 16 → e < 16 → digit_glyph false d ≡ digit_glyph false e → d ≡ e
glyph_by d e s t h k p q same = grind (arith, nat_tests)

glyph_determined : (d e : ℕ) → d < 16 → e < 16 → digit_glyph false d ≡ digit_glyph false e → d ≡ e
glyph_determined d e p q same = glyph_by d e _ _ refl refl p q same

pub byte_determined : (a b : ℕ) → a < 256 → b < 256 → digit_glyph false (a / 16) ≡ digit_glyph false (b / 16) → digit_glyph false (a % 16) ≡ digit_glyph false (b % 16) → a ≡ b
byte_determined a b p q h l =
    let high = glyph_determined (a / 16) (b / 16) (omega arith) (omega arith) h in
    let low = glyph_determined (a % 16) (b % 16) (omega arith) (omega arith) l in
    omega arith

pub hex_determined : (p q : List ℕ) → AreBytes p → AreBytes q → hex_text p ≡ hex_text q → p ≡ q
hex_determined [] [] a b e = refl
hex_determined (x ∷ p) (y ∷ q) a b e =
    let first : x ≡ y = byte_determined x y a.0 b.0 (ap (λ l. get_or l 0 0) e) (ap (λ l. get_or l 1 0) e) in
    let rest : p ≡ q = hex_determined p q a.1 b.1 (ap (drop 2) e) in
    cc
hex_determined p q a b e = absurd cc

bytes : (p q : List ℕ) → AreBytes p → AreBytes q → bytes_text p ≡ bytes_text q → p ≡ q
bytes [] [] a b e = refl
bytes (x ∷ p) (y ∷ q) a b e = hex_determined (x ∷ p) (y ∷ q) a b (ap (drop 1) e)
bytes p q a b e = absurd cc

colons_determined : (p q : List ℕ) → AreBytes p → AreBytes q → flat_map colon_byte p ≡ flat_map colon_byte q → p ≡ q
colons_determined [] [] a b e = refl
colons_determined (x ∷ p) (y ∷ q) a b e =
    let first : x ≡ y = byte_determined x y a.0 b.0 (ap (λ l. get_or l 1 0) e) (ap (λ l. get_or l 2 0) e) in
    let rest : p ≡ q = colons_determined p q a.1 b.1 (ap (drop 3) e) in
    cc
colons_determined p q a b e = absurd cc

pub colons_are_determined : (p q : List ℕ) → AreBytes p → AreBytes q → colons p ≡ colons q → p ≡ q
colons_are_determined [] [] a b e = refl
colons_are_determined (x ∷ p) (y ∷ q) a b e =
    let first : x ≡ y = byte_determined x y a.0 b.0 (ap (λ l. get_or l 0 0) e) (ap (λ l. get_or l 1 0) e) in
    let rest : p ≡ q = colons_determined p q a.1 b.1 (ap (drop 2) e) in
    cc
colons_are_determined p q a b e = absurd cc

hardware : (p q : List ℕ) → AreBytes p → AreBytes q → hardware_text p ≡ hardware_text q → p ≡ q
hardware [] [] a b e = refl
hardware (x ∷ p) (y ∷ q) a b e = colons_are_determined (x ∷ p) (y ∷ q) a b (ap (drop 1) e)
hardware p q a b e = absurd cc

-- ---- bytes in quotes

abbrev is_quote : ℕ → Bool
is_quote b = (b == 34) || (b == 92)

abbrev is_plain : ℕ → Bool
is_plain b = nat_le 32 b && nat_lt b 127

abbrev escaped_by : Bool → Bool → ℕ → List ℕ
escaped_by q p b = cond q (92 ∷ b ∷ []) (cond p (b ∷ []) (92 ∷ 120 ∷ hex_byte b))

-- The text of a byte determines the byte, and what follows it.
step_by : (x y : ℕ) (a b c d : Bool) → is_quote x ≡ a → is_plain x ≡ b → is_quote y ≡ c → is_plain y ≡ d → x < 256 → y < 256 → (s t : List ℕ) → escaped_by a b x ++ s ≡ escaped_by c d y ++ t → (x ≡ y) × (s ≡ t)
step_by x y true b true d h k l m i j s t e = (ap (λ l. get_or l 1 0) e, ap (drop 2) e)
step_by x y true b false true h k l m i j s t e = let z : 92 ≡ y = ap (λ l. get_or l 0 0) e in absurd (grind (arith, nat_tests))
step_by x y true b false false h k l m i j s t e = let z : x ≡ 120 = ap (λ l. get_or l 1 0) e in absurd (grind (arith, nat_tests))
step_by x y false true true d h k l m i j s t e = let z : x ≡ 92 = ap (λ l. get_or l 0 0) e in absurd (grind (arith, nat_tests))
step_by x y false true false true h k l m i j s t e = (ap (λ l. get_or l 0 0) e, ap (drop 1) e)
step_by x y false true false false h k l m i j s t e = let z : x ≡ 92 = ap (λ l. get_or l 0 0) e in absurd (grind (arith, nat_tests))
step_by x y false false true d h k l m i j s t e = let z : 120 ≡ y = ap (λ l. get_or l 1 0) e in absurd (grind (arith, nat_tests))
step_by x y false false false true h k l m i j s t e = let z : 92 ≡ y = ap (λ l. get_or l 0 0) e in absurd (grind (arith, nat_tests))
step_by x y false false false false h k l m i j s t e = (byte_determined x y i j (ap (λ l. get_or l 2 0) e) (ap (λ l. get_or l 3 0) e), ap (drop 4) e)

-- No byte's text begins with a quote.
no_quote : (n y : ℕ) → n ≡ 34 → n ≡ y → is_quote y ≡ false → ⊥
no_quote n y is same l = grind (arith, nat_tests)

open_by : (n y : ℕ) → n ≡ 34 → (c d : Bool) → is_quote y ≡ c → is_plain y ≡ d → (s t : List ℕ) → n ∷ s ≡ escaped_by c d y ++ t → ⊥
open_by n y is true d l m s t e = let first : n ≡ 92 = ap (λ l. get_or l 0 0) e in omega arith
open_by n y is false true l m s t e = no_quote n y is (ap (λ l. get_or l 0 0) e) l
open_by n y is false false l m s t e = let first : n ≡ 92 = ap (λ l. get_or l 0 0) e in omega arith

pub escaped_determined : (p q s t : List ℕ) → AreBytes p → AreBytes q → flat_map escaped p ++ 34 ∷ s ≡ flat_map escaped q ++ 34 ∷ t → (p ≡ q) × (s ≡ t)
escaped_determined [] [] s t a b e = (refl, ap (drop 1) e)
escaped_determined [] (y ∷ q) s t a b e = absurd (open_by 34 y refl _ _ refl refl s (flat_map escaped q ++ 34 ∷ t) (e ∙ append_assoc (escaped y) (flat_map escaped q) (34 ∷ t)))
escaped_determined (x ∷ p) [] s t a b e = absurd (open_by 34 x refl _ _ refl refl t (flat_map escaped p ++ 34 ∷ s) (sym e ∙ append_assoc (escaped x) (flat_map escaped p) (34 ∷ s)))
escaped_determined (x ∷ p) (y ∷ q) s t a b e =
    let first = step_by x y _ _ _ _ refl refl refl refl a.0 b.0 (flat_map escaped p ++ 34 ∷ s) (flat_map escaped q ++ 34 ∷ t)
    (sym (append_assoc (escaped x) (flat_map escaped p) (34 ∷ s)) ∙ e ∙ append_assoc (escaped y) (flat_map escaped q) (34 ∷ t)) in
    let rest = escaped_determined p q s t a.1 b.1 first.1 in
    (λ i. first.0 i ∷ rest.0 i, rest.1)

text : (p q : List ℕ) → AreBytes p → AreBytes q → quoted p ≡ quoted q → without_nul p ≡ without_nul q
text p q a b e = (escaped_determined (without_nul p) (without_nul q) [] [] (without_nul-bytes p a) (without_nul-bytes q b) (ap (drop 1) e)).0

pub bytes_determined : BytesAreDetermined
bytes_determined = record { bytes = bytes; hardware = hardware; text = text }
