-- The ends of lines and of words.
use Rattle.std.proofs.Common.{◌≡◌, ℕ, ◌<◌, ◌≤◌, true, List, [], ◌∷◌, ◌++◌, drop, refl, ap, ◌∙◌, append_assoc, arith}
use Rattle.std.specs.Prelude.{get_or, nat_le}
use Rattle.std.proofs.lemmas.Bool.{and_parts, leb-true}
use Rattle.link_lines_values.specs.Laws.{IsLine}
pub use Rattle.link_lines_values.proofs.NumbersDetermined.{Digits as IsWord, following, cut as cut_word, space_ends}
pub use Rattle.link_lines_values.proofs.OneLine.{digits_line as word_line, lines_joined}
use Rattle.link_lines_raw.specs.Names.{is_word}

-- A line ends at its newline.
pub cut_line : (a b s t : List ℕ) → IsLine a → IsLine b → a ++ 10 ∷ s ≡ b ++ 10 ∷ t → (a ≡ b) × (s ≡ t)
cut_line [] [] s t h k e = (refl, ap (drop 1) e)
cut_line [] (y ∷ b) s t h k e = let first : 10 ≡ y = cc in absurd (omega (arith, k.0))
cut_line (x ∷ a) [] s t h k e = let first : x ≡ 10 = cc in absurd (omega (arith, h.0))
cut_line (x ∷ a) (y ∷ b) s t h k e =
    let rest = cut_line a b s t h.1 k.1 (ap (drop 1) e) in
    (cc, rest.1)

-- The bytes of names and numbers, none below the digits.
pub message_label : (a : List ℕ) → is_word a ≡ true → IsWord a
message_label [] h = record {}
message_label (c ∷ a) h = let p = and_parts (nat_le 48 c) (is_word a) h in (leb-true 48 c p.0, message_label a p.1)

-- A text begins with an upper-case letter, or with a lower-case one.
abbrev pub Starts : List ℕ → Type 0
Starts [] = ⊥
Starts (c ∷ s) = 65 ≤ c

pub starts_joined : (a b : List ℕ) → Starts a → Starts (a ++ b)
starts_joined [] b h = absurd h
starts_joined (c ∷ a) b h = h

-- No name of a table begins with a lower-case letter, as the words `kind` and `padding` do.
pub not_lower : (letter : ℕ) (name inside rest : List ℕ) → 97 ≤ letter → Starts name → get_or name 0 0 < 97 → name ++ inside ≡ letter ∷ rest → ⊥
not_lower letter [] inside rest low h l e = h
not_lower letter (c ∷ name) inside rest low h l e = let first : c ≡ letter = cc in omega arith

-- Bytes that were appended in three steps.
pub three_parts : (o a b d x y z : List ℕ) → x ≡ o ++ a → y ≡ x ++ b → z ≡ y ++ d → z ≡ o ++ (a ++ (b ++ d))
three_parts o a b d x y z e f g = g ∙ ap (λ v. v ++ d) (f ∙ ap (λ v. v ++ b) e) ∙ append_assoc (o ++ a) b d ∙ append_assoc o a (b ++ d)
