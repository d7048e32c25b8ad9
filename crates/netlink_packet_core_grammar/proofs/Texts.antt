-- Texts with and without a last NUL.
use Rattle.std.proofs.Common.{◌≡◌, ℕ, zero, suc, ◌≤◌, Bool, true, false, List, [], ◌∷◌, ◌++◌, length, get_or, take, refl, ap, arith}
use Rattle.std.specs.Str.{IsAscii, IsUtf8, is_utf8}
use Rattle.std.proofs.lemmas.Str.{IsUtf8-from_ascii, IsUtf8-from_is_utf8, is_utf8-from_IsUtf8}
use Rattle.netlink_packet_core_grammar.specs.Bytes.{AreBytes}
use Rattle.netlink_packet_core_grammar.specs.Texts.{without_nul}

pub without_nul-end : (t : List ℕ) → without_nul (t ++ 0 ∷ []) ≡ t
without_nul-end [] = refl
without_nul-end (b ∷ []) = refl
without_nul-end (b ∷ c ∷ t) = ap (λ x. b ∷ x) (without_nul-end (c ∷ t))

pub without_nul-length : (p : List ℕ) → length (without_nul p) ≤ length p
without_nul-length [] = omega arith
without_nul-length (zero ∷ []) = omega arith
without_nul-length (suc b ∷ []) = omega arith
without_nul-length (b ∷ c ∷ p) = omega (arith, without_nul-length (c ∷ p))

pub without_nul-bytes : (p : List ℕ) → AreBytes p → AreBytes (without_nul p)
without_nul-bytes [] h = tt
without_nul-bytes (zero ∷ []) h = tt
without_nul-bytes (suc b ∷ []) h = h
without_nul-bytes (b ∷ c ∷ p) h = (h.0, without_nul-bytes (c ∷ p) h.1)

-- ---- by the byte at an offset: the last byte is a NUL, is another, or is missing

pub without_nul-at : (p : List ℕ) (n : ℕ) → length p ≡ suc n → get_or p n 0 ≡ 0 → take n p ≡ without_nul p
without_nul-at (zero ∷ []) zero l h = refl
without_nul-at (suc b ∷ []) zero l h = absurd (omega arith)
without_nul-at (b ∷ c ∷ p) (suc n) l h = ap (λ x. b ∷ x) (without_nul-at (c ∷ p) n (omega arith) h)
without_nul-at p n l h = absurd (omega arith)

pub without_nul-same : (p : List ℕ) (n : ℕ) → length p ≡ suc n → (get_or p n 0 ≡ 0 → ⊥) → p ≡ without_nul p
without_nul-same (zero ∷ []) zero l h = absurd (h refl)
without_nul-same (suc b ∷ []) zero l h = refl
without_nul-same (b ∷ c ∷ p) (suc n) l h = ap (λ x. b ∷ x) (without_nul-same (c ∷ p) n (omega arith) h)
without_nul-same p n l h = absurd (omega arith)

pub without_nul-short : (p : List ℕ) → length p ≡ 0 → p ≡ without_nul p
without_nul-short [] h = refl
without_nul-short (b ∷ p) h = absurd (omega arith)

-- ---- the test of UTF-8

not_true : (b : Bool) → (b ≡ true → ⊥) → b ≡ false
not_true true h = absurd (h refl)
not_true false h = refl

pub is_utf8-false : (bs : List ℕ) → (IsUtf8 bs → ⊥) → is_utf8 bs ≡ false
is_utf8-false bs h = not_true (is_utf8 bs) (λ e. h (IsUtf8-from_is_utf8 bs e))

pub ascii_is_utf8 : (bs : List ℕ) → IsAscii bs → is_utf8 bs ≡ true
ascii_is_utf8 bs h = is_utf8-from_IsUtf8 bs (IsUtf8-from_ascii bs h)

pub ruleset utf8 = (is_utf8-from_IsUtf8, ascii_is_utf8, is_utf8-false)
