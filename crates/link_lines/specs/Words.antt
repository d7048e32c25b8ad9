-- Lists of words with commas between them.
use Rattle.std.specs.Prelude.{◌≡◌, ◌==◌, ℕ, List, [], ◌∷◌, cond, Result, Ok, Err}
use Rattle.link_lines.specs.declared.words.WordError.{WordError}
use Rattle.link_lines.specs.declared.words.WordError.TheVariants as Errors

-- The parts of a word that has one more byte at its start.
abbrev pub with_leading_byte : ℕ → List (List ℕ) → List (List ℕ)
with_leading_byte c [] = (c ∷ []) ∷ []
with_leading_byte c (p ∷ ps) = (c ∷ p) ∷ ps

-- The parts of a word between its commas.
abbrev pub parts : List ℕ → List (List ℕ)
parts [] = [] ∷ []
parts (c ∷ w) = cond (c == 44) ([] ∷ parts w) (with_leading_byte c (parts w))

-- Why words aren't read: one has no meaning, or there are too many.
pub data WordFault : Type 0 where
  Unknown : List ℕ → WordFault
  TooMany : WordFault

-- The fault that an error in code represents.
abbrev pub word_fault : WordError → WordFault
word_fault (Errors.Unknown word) = WordFault.Unknown word.now
word_fault Errors.TooMany = WordFault.TooMany

-- What one word is read as, after others that were read as `a`: one more step, or a fault.
abbrev pub WordStep : Type 0 → Type 1
WordStep A = A → List ℕ → Result A WordFault → Type 0

-- Words are read one after the other, after others that were read as `a`, up to the first fault.
abbrev pub Reads : {A : Type 0} → WordStep A → A → List (List ℕ) → Result A WordFault → Type 0
Reads Takes a [] r = r ≡ Ok a
Reads {A} Takes a (w ∷ ws) r = (next : Result A WordFault) × Takes a w next × elim next [
  | Ok b ↦ Reads Takes b ws r
  | Err e ↦ r ≡ Err e
]
