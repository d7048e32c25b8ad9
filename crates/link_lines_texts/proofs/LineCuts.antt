-- The position at which deeper lines end.
use Rattle.std.proofs.Common.{◌≡◌, ℕ, ◌+◌, List, [], ◌∷◌, ◌++◌, sym, ap, ◌∙◌, append_assoc, arith}
use Rattle.std.proofs.lemmas.List.{append_cancel_left}
use Rattle.link_lines_values.specs.Indents.{indent}
use Rattle.link_lines_values.proofs.Deeper.{one_deeper}
pub use Rattle.link_lines_raw.proofs.Words.{IsWord, Starts, following, cut_line, cut_word, lines_joined, not_lower, space_ends, starts_joined, three_parts, word_line, message_label}
use Rattle.link_lines_raw.specs.Lines.{IsShallow}

no_space : (a r : List ℕ) → Starts a → a ≡ 32 ∷ r → ⊥
no_space [] r h e = absurd h
no_space (c ∷ a) r h e = let first : c ≡ 32 = cc in omega arith

-- A text that is shallow for a level is so for the next.
pub shallower : (level : ℕ) (s : List ℕ) → IsShallow level s → IsShallow (level + 1) s
shallower level s h r e = h (32 ∷ 32 ∷ r) (e ∙ ap (λ z. z ++ r) (sym (one_deeper level)) ∙ append_assoc (indent level) (32 ∷ 32 ∷ []) r)

-- A line of a level is shallow for the next.
pub line_shallow : (level : ℕ) (a : List ℕ) → Starts a → IsShallow (level + 1) (indent level ++ a)
line_shallow level a h r e =
    no_space a (32 ∷ r) h (append_cancel_left (indent level) a (32 ∷ 32 ∷ r)
    (e ∙ ap (λ z. z ++ r) (sym (one_deeper level)) ∙ append_assoc (indent level) (32 ∷ 32 ∷ []) r))
