-- Addresses of the Internet protocol, as std's definitions have them.
use Rattle.std.proofs.Common.{◌≡◌, ◌<◌, lt-ltb, Bool, ◌+◌, ◌∷◌, [], ◌++◌, ℕ, List, cond, true, false, nat_lt, ◌-◌, length, bytes_eq, take, drop, codes, refl, ap, sym, ◌∙◌, append_assoc, arith}
use Rattle.std.proofs.lemmas.Bool.{le-ltb}
use Rattle.std.proofs.lemmas.List.{take_rest}
use Rattle.std.proofs.lemmas.Slice.Eq.{bytes_eq-Decides}
use Rattle.std.specs.Net.Text.{compressed_text, groups_text, hex_groups_text, ipv4_text, ipv6_text, longest_zero_run}
use Rattle.std.specs.Net.Addr.{octets_of}
use Rattle.link_lines_values.specs.Internet.{segments_text}

-- Octets with dots between them.
pub dotted : (a b c d : List ℕ) → a ++ (46 ∷ (b ++ (46 ∷ (c ++ (46 ∷ d))))) ≡ a ++ codes "." ++ b ++ codes "." ++ c ++ codes "." ++ d
dotted a b c d = simp append_assoc refl

grouped : (ss : List ℕ) → segments_text ss ≡ groups_text ss
grouped [] = refl
grouped (s ∷ rest) = refl

either : (b : Bool) (x y : List ℕ) → b ≡ true → cond b x y ≡ x
either true x y e = refl
either false x y e = absurd cc

neither : (b : Bool) (x y : List ℕ) → b ≡ false → cond b x y ≡ y
neither false x y e = refl
neither true x y e = absurd cc

-- Segments around a run of zeros.
pub compressed : (ss : List ℕ) (start size : ℕ) → (start, size) ≡ longest_zero_run ss → 1 < size → segments_text (take start ss) ++ (codes "::" ++ segments_text (take (length ss - (start + size)) (drop (start + size) ss))) ≡ hex_groups_text ss
unfolding hex_groups_text
compressed ss start size e h =
    let end : take (length ss - (start + size)) (drop (start + size) ss) ≡ drop (start + size) ss = take_rest ss (start + size) in
    (λ t. grouped (take start ss) t ++ (codes "::" ++ segments_text (end t)))
    ∙ ap (λ z. groups_text (take start ss) ++ (codes "::" ++ z)) (grouped (drop (start + size) ss))
    ∙ sym (append_assoc (groups_text (take start ss)) (codes "::") (groups_text (drop (start + size) ss)))
    ∙ sym (either (nat_lt 1 size) (groups_text (take start ss) ++ codes "::" ++ groups_text (drop (start + size) ss)) (groups_text ss) (lt-ltb 1 size h))
    ∙ ap (λ run. compressed_text ss run) e

-- Segments without such a run.
pub uncompressed : (ss : List ℕ) (start size : ℕ) → (start, size) ≡ longest_zero_run ss → size < 2 → segments_text ss ≡ hex_groups_text ss
unfolding hex_groups_text
uncompressed ss start size e h =
    grouped ss ∙ sym (neither (nat_lt 1 size) _ _ (le-ltb 1 size (omega arith))) ∙ ap (λ run. compressed_text ss run) e

-- An address that is mapped from IPv4.
pub mapped : (ss : List ℕ) → take 6 ss ≡ 0 ∷ 0 ∷ 0 ∷ 0 ∷ 0 ∷ 0xffff ∷ [] → codes "::ffff:" ++ ipv4_text (octets_of (drop 6 ss)) ≡ ipv6_text ss
unfolding ipv6_text
mapped ss e = rw e refl

-- Any other.
pub unmapped : (ss : List ℕ) → (take 6 ss ≡ 0 ∷ 0 ∷ 0 ∷ 0 ∷ 0 ∷ 0xffff ∷ [] → ⊥) → hex_groups_text ss ≡ ipv6_text ss
unfolding ipv6_text
unmapped ss h =
    let other : bytes_eq (take 6 ss) (0 ∷ 0 ∷ 0 ∷ 0 ∷ 0 ∷ 0xffff ∷ []) ≡ false =
    grind (arith, bytes_eq-Decides (take 6 ss) (0 ∷ 0 ∷ 0 ∷ 0 ∷ 0 ∷ 0xffff ∷ []), h) in
    rw other refl
