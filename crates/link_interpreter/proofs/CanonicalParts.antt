-- Padding, names and the kinds in force, as the code determines them.
use Rattle.std.proofs.Common.{◌≡◌, ℕ, zero, suc, ◌-◌, ◌<◌, ◌++◌, List, [], ◌∷◌, length, take, drop, Option, Some, refl, sym, ap, ◌∙◌, arith}
use Rattle.std.proofs.lemmas.List.{take-replicate}
use Rattle.netlink_packet_core_grammar.specs.Attributes.{nla_align, zeros, Attribute}
use Rattle.netlink_packet_core_grammar.specs.AttributeViews.{viewed_length, viewed_attribute, after_first}
use Rattle.netlink_packet_core_grammar.specs.Texts.{without_nul}
use Rattle.netlink_packet_core_grammar.proofs.FirstAttribute.{length_at, kind_at, length_sum, kind_sum}

-- the attribute that is viewed is the one that the code cuts
pub viewed_at : (bytes rest : List ℕ) → rest ≡ drop (nla_align (length_at bytes)) bytes → (o : Option (Attribute × List ℕ)) → o ≡ Some (viewed_attribute bytes, after_first bytes) → o ≡ Some (record { kind = kind_at bytes; payload = take (length_at bytes - 4) (drop 4 bytes) }, rest)
viewed_at bytes rest r o h =
    h ∙ ap (λ n. Some (record { kind = n; payload = take (viewed_length bytes - 4) (drop 4 bytes) }, after_first bytes)) (kind_sum bytes)
    ∙ ap (λ n. Some (record { kind = kind_at bytes; payload = take (n - 4) (drop 4 bytes) }, drop (nla_align n) bytes)) (length_sum bytes)
    ∙ ap (λ x. Some (record { kind = kind_at bytes; payload = take (length_at bytes - 4) (drop 4 bytes) }, x)) (sym r)

pub padded : (xs : List ℕ) (p q n : ℕ) → p ≡ n → q ≡ n → n < 4 → take p xs ≡ take q (0 ∷ 0 ∷ 0 ∷ []) → take n xs ≡ zeros n
padded xs p q n e f l h = ap (λ k. take k xs) (sym e) ∙ h ∙ ap (λ k. take k (0 ∷ 0 ∷ 0 ∷ [])) f ∙ take-replicate n 3 0 (omega arith)

-- a name followed by a NUL is already canonical
pub canonical_name : (p : List ℕ) → length (without_nul p) < length p → without_nul p ++ 0 ∷ [] ≡ p
canonical_name [] l = absurd (omega arith)
canonical_name (zero ∷ []) l = refl
canonical_name (suc b ∷ []) l = absurd (omega arith)
canonical_name (b ∷ c ∷ p) l = ap (λ x. b ∷ x) (canonical_name (c ∷ p) (omega arith))
