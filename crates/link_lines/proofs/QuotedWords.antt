-- Bytes of a word as they are shown in quotes, compared with a text.
use Rattle.std.proofs.Common.{◌≡◌, ◌<◌, ◌+◌, ◌&&◌, ℕ, zero, suc, true, false, refl, ap}
use Rattle.std.proofs.Common.{◌∙◌, List, [], ◌∷◌, ◌++◌, append_assoc, bytes_eq, drop, get_or, length, flat_map, arith}
use Rattle.std.specs.Fmt.{digit_glyph}
use Rattle.std.proofs.lemmas.Bool.Decides.{Decides-eqb}
use Rattle.std.proofs.lemmas.List.{drop_more}
use Rattle.std.proofs.lemmas.Slice.Eq.{bytes_eq-Decides}
use Rattle.link_lines.specs.declared.about.TheConstants.{HEX_DIGITS}

pub digits_shown : (d : ℕ) → d < 16 → get_or HEX_DIGITS d 0 ≡ digit_glyph false d
digits_shown zero h = refl
digits_shown (suc zero) h = refl
digits_shown (suc (suc zero)) h = refl
digits_shown (suc (suc (suc zero))) h = refl
digits_shown (suc (suc (suc (suc zero)))) h = refl
digits_shown (suc (suc (suc (suc (suc zero))))) h = refl
digits_shown (suc (suc (suc (suc (suc (suc zero)))))) h = refl
digits_shown (suc (suc (suc (suc (suc (suc (suc zero))))))) h = refl
digits_shown (suc (suc (suc (suc (suc (suc (suc (suc zero)))))))) h = refl
digits_shown (suc (suc (suc (suc (suc (suc (suc (suc (suc zero))))))))) h = refl
digits_shown (suc (suc (suc (suc (suc (suc (suc (suc (suc (suc zero)))))))))) h = refl
digits_shown (suc (suc (suc (suc (suc (suc (suc (suc (suc (suc (suc zero))))))))))) h = refl
digits_shown (suc (suc (suc (suc (suc (suc (suc (suc (suc (suc (suc (suc zero)))))))))))) h = refl
digits_shown (suc (suc (suc (suc (suc (suc (suc (suc (suc (suc (suc (suc (suc zero))))))))))))) h = refl
digits_shown (suc (suc (suc (suc (suc (suc (suc (suc (suc (suc (suc (suc (suc (suc zero)))))))))))))) h = refl
digits_shown (suc (suc (suc (suc (suc (suc (suc (suc (suc (suc (suc (suc (suc (suc (suc zero))))))))))))))) h = refl
digits_shown (suc (suc (suc (suc (suc (suc (suc (suc (suc (suc (suc (suc (suc (suc (suc (suc d)))))))))))))))) h = absurd (omega arith)

-- Two texts with the same start are equal if the rests are.
pub same_start : (start s t : List ℕ) → bytes_eq (start ++ s) (start ++ t) ≡ bytes_eq s t
same_start [] s t = refl
same_start (c ∷ start) s t = ap (λ b. b && bytes_eq (start ++ s) (start ++ t)) ((Decides-eqb c c).1 refl) ∙ same_start start s t

-- A text that doesn't begin with this start isn't one that does.
pub other_start : (text start t : List ℕ) → ((rest : List ℕ) → text ≡ start ++ rest → ⊥) → false ≡ bytes_eq text (start ++ t)
other_start text start t apart =
    elim (bytes_eq text (start ++ t)) as (λ b. (b ≡ true → text ≡ start ++ t) → false ≡ b) [
      | true ↦ λ is. absurd (apart t (is refl))
      | false ↦ λ is. refl
    ] (bytes_eq-Decides text (start ++ t)).0

-- The bytes of a word from one on as they are shown, with a text after them.
pub shown_next : (shown : ℕ → List ℕ) (t word : List ℕ) (i : ℕ) → i < length word
    → flat_map shown (drop i word) ++ t ≡ shown (get_or word i 0) ++ (flat_map shown (drop (i + 1) word) ++ t)
shown_next shown t word i h =
    ap (λ xs. flat_map shown xs ++ t) (drop_more word i 0 h)
    ∙ append_assoc (shown (get_or word i 0)) (flat_map shown (drop (i + 1) word)) t
