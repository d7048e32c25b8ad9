-- Texts without a space: each byte is over 32.
use Rattle.std.proofs.Common.{◌≡◌, ℕ, zero, suc, ◌+◌, ◌/◌, ◌%◌, ◌≤◌, Bool, true, false, List, [], ◌∷◌, ◌++◌, drop, arith}
use Rattle.std.specs.Prelude.{codes, cond, flat_map, nat_le, nat_lt, slice_index}
use Rattle.std.specs.Char.{digit_char}
use Rattle.std.specs.Fmt.{decimal}
use Rattle.std.specs.List.{AllByRecursion, list_all}
use Rattle.std.specs.Net.Text.{compressed_text, dotted_text, groups_text, hex, hex_groups_text, ipv4_text, ipv6_text, leading_zero_digits, longest_zero_run}
use Rattle.std.proofs.lemmas.Bool.{and_parts, leb-true}
use Rattle.link_lines_values.proofs.NumbersDetermined.{Digits, high, high_glyph}

-- A text has no byte under 33.
abbrev pub Solid : List ℕ → Type 0
Solid s = AllByRecursion (λ c. 33 ≤ c) s

solid_joined : (s t : List ℕ) → Solid s → Solid t → Solid (s ++ t)
solid_joined [] t h k = k
solid_joined (c ∷ s) t h k = (h.0, solid_joined s t h.1 k)

pub either_solid : (test : Bool) (s t : List ℕ) → Solid s → Solid t → Solid (cond test s t)
either_solid true s t h k = h
either_solid false s t h k = k

more_solid : (c : ℕ) (s : List ℕ) → nat_le 33 c ≡ true → Solid s → Solid (c ∷ s)
more_solid c s l h = (leb-true 33 c l, h)

-- Texts made of parts.
ruleset joins = (either_solid, more_solid, solid_joined)

solid_dropped : (n : ℕ) (s : List ℕ) → Solid s → Solid (drop n s)
solid_dropped zero s h = h
solid_dropped (suc n) [] h = h
solid_dropped (suc n) (c ∷ s) h = solid_dropped n s h.1

solid_mapped : (f : ℕ → List ℕ) → ((n : ℕ) → Solid (f n)) → (p : List ℕ) → Solid (flat_map f p)
solid_mapped f each [] = record {}
solid_mapped f each (n ∷ p) = solid_joined (f n) (flat_map f p) (each n) (solid_mapped f each p)

-- The test of a text that is written out.
is_solid_checked : (s : List ℕ) → list_all (nat_le 33) s ≡ true → Solid s
is_solid_checked [] h = record {}
is_solid_checked (c ∷ s) h =
    let parts = and_parts (nat_le 33 c) (list_all (nat_le 33) s) h in
    (leb-true 33 c parts.0, is_solid_checked s parts.1)

over_space : (c : ℕ) → 48 ≤ c → 33 ≤ c
over_space c h = omega arith

pub digits_solid : (s : List ℕ) → Digits s → Solid s
digits_solid [] h = record {}
digits_solid (c ∷ s) h = (over_space c h.0, digits_solid s h.1)

decimal_solid : (n : ℕ) → Solid (decimal n)
decimal_solid n = digits_solid (decimal n) (high 10 n)

glyph_solid : (d : ℕ) → 33 ≤ cond (nat_lt d 10) (48 + d) (87 + d)
glyph_solid d = over_space _ (high_glyph d)

dotted_solid : (a b c d : ℕ) → Solid (dotted_text a b c d)
dotted_solid a b c d = search (joins, decimal_solid, is_solid_checked) depth 12

pub ipv4_solid : (o : List ℕ) → Solid (ipv4_text o)
ipv4_solid o = dotted_solid (slice_index o 0) (slice_index o 1) (slice_index o 2) (slice_index o 3)

segment_solid : (n : ℕ) → Solid (hex n)
unfolding hex
segment_solid n =
    solid_dropped (leading_zero_digits n) (digit_char (n / 0x1000) ∷ digit_char (n / 0x100 % 16) ∷ digit_char (n / 0x10 % 16) ∷ digit_char (n % 16) ∷ [])
    (glyph_solid (n / 0x1000), (glyph_solid (n / 0x100 % 16), (glyph_solid (n / 0x10 % 16), (glyph_solid (n % 16), record {}))))

colon_segment_solid : (n : ℕ) → Solid (codes ":" ++ hex n)
colon_segment_solid n = (omega arith, segment_solid n)

groups_solid : (s : List ℕ) → Solid (groups_text s)
groups_solid [] = record {}
groups_solid (n ∷ s) = let more = solid_mapped (λ t. codes ":" ++ hex t) colon_segment_solid s in search (joins, segment_solid)

compressed_solid : (s : List ℕ) (run : ℕ × ℕ) → Solid (compressed_text s run)
compressed_solid s run = search (joins, groups_solid, is_solid_checked) depth 7

hex_groups_solid : (s : List ℕ) → Solid (hex_groups_text s)
unfolding hex_groups_text
hex_groups_solid s = compressed_solid s (longest_zero_run s)

pub ipv6_solid : (s : List ℕ) → Solid (ipv6_text s)
unfolding ipv6_text
ipv6_solid s = search (joins, hex_groups_solid, ipv4_solid) depth 12
