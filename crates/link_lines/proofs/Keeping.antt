-- All lines remain if nothing is left out.
use Rattle.std.proofs.Common.{◌≡◌, ◌&&◌, ℕ, Bool, true, false, cond, refl, ap, ◌∙◌, List, [], ◌∷◌, ◌++◌, nat_lt, Option, Some, None}
use Rattle.link_lines.specs.MessageLaws.{NothingOmittedKeepsAll}
use Rattle.link_lines_parts.specs.Lines.{level, is_in_line, lines_of, with_byte}
use Rattle.link_lines_parts.specs.Remaining.{line_text, numbers_omitted, remaining_after}

-- The text of some lines.
abbrev joined : List (List ℕ) → List ℕ
joined [] = []
joined (line ∷ lines) = line ++ joined lines

joined_with_byte : (c : ℕ) (lines : List (List ℕ)) → joined (with_byte c lines) ≡ c ∷ joined lines
joined_with_byte c [] = refl
joined_with_byte c (line ∷ lines) = refl

joined_lines : (text : List ℕ) → joined (lines_of text) ≡ text
joined_lines [] = refl
joined_lines (c ∷ text) =
    let ih = joined_lines text in
    elim (is_in_line c) as (λ b. joined (cond b (with_byte c (lines_of text)) ((c ∷ []) ∷ lines_of text)) ≡ c ∷ text) [
      | true ↦ joined_with_byte c (lines_of text) ∙ ap (λ t. c ∷ t) ih
      | false ↦ ap (λ t. c ∷ t) ih
    ]

none_omitted : (b : Bool) → (b && false) ≡ false
none_omitted true = refl
none_omitted false = refl

remains : (numbers : Bool) (lines : List (List ℕ)) → remaining_after (numbers_omitted numbers) None lines ≡ joined lines
remains numbers [] = refl
remains numbers (line ∷ lines) =
    let text = λ (begun : Option ℕ). line_text (numbers_omitted numbers) begun line ++ remaining_after (numbers_omitted numbers) begun lines in
    ap (λ b. text (cond b (Some (level line)) None)) (none_omitted (nat_lt 0 (level line))) ∙ ap (λ t. line ++ t) (remains numbers lines)

pub all_kept : NothingOmittedKeepsAll
all_kept numbers text = remains numbers (lines_of text) ∙ joined_lines text
