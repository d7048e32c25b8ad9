-- Whether a line has a byte, by a search for the first one.
use Rattle.std.proofs.Common.{◌≡◌, ◌==◌, ◌+◌, ℕ, suc, true, false, not, cond, refl, List, [], ◌∷◌, Option, Some, None, length, sym, arith}
use Rattle.std.specs.Prelude.{◌||◌, is_some, slice_index}
use Rattle.std.specs.List.{prefix_len}
use Rattle.std.proofs.lemmas.List.Folds.{list_any_at}
use Rattle.std.proofs.lemmas.List.Sums.{prefix_len_is}
use Rattle.memchr.specs.Find.{IsFirstByte, is_byte}
use Rattle.link_lines_parts.specs.Remaining.{has_byte}
use Rattle.link_lines_parts.proofs.FirstParts.{isnt}

byte_found : (byte : ℕ) (line : List ℕ) (k : ℕ) → IsFirstByte (is_byte byte) line (Some k) → has_byte byte line ≡ true
byte_found byte line k h = list_any_at (λ c. c == byte) line k 0 (omega (arith, h.0.high)) h.1

-- A line all of which is before a byte doesn't have it.
all_before : (byte : ℕ) (line : List ℕ) → prefix_len (λ c. not (c == byte)) line ≡ length line → has_byte byte line ≡ false
all_before byte [] h = refl
all_before byte (c ∷ line) h =
    let before = prefix_len (λ c. not (c == byte)) line in
    elim (c == byte) as (λ b. cond (not b) (1 + before) 0 ≡ suc (length line) → (b || has_byte byte line) ≡ false) [
      | true ↦ (λ e. absurd (omega (arith, e)))
      | false ↦ (λ e. all_before byte line (omega (arith, e)))
    ] h

byte_nowhere : (byte : ℕ) (line : List ℕ) → IsFirstByte (is_byte byte) line None → has_byte byte line ≡ false
byte_nowhere byte line h = all_before byte line (prefix_len_is (λ c. not (c == byte)) line (length line) 0 (omega arith) (λ k l. isnt (slice_index line k == byte) (h k (omega arith) l)) (λ l. absurd (omega (arith, l))))

-- The result of a search for the first one.
pub byte_sought : (byte : ℕ) (line : List ℕ) (r : Option ℕ) → IsFirstByte (is_byte byte) line r → is_some r ≡ has_byte byte line
byte_sought byte line None h = sym (byte_nowhere byte line h)
byte_sought byte line (Some k) h = sym (byte_found byte line k h)
