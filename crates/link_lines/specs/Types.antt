-- Message types by their names and numbers.
use Rattle.std.specs.Prelude.{◌≡◌, ◌==◌, ◌<◌, ◌≤◌, ◌⊎◌, ◌^◌, ◌||◌, Bool, ℕ, List, [], ◌∷◌, cond, length, Option}
use Rattle.std.specs.Prelude.{None, Some, Ok, Err, ◌++◌}
use Rattle.std.specs.List.{after_first}
use Rattle.std.specs.Str.{str_eq_ignore_ascii_case}
use Rattle.std.specs.Str.Parse.{IsNumeral, digits_value}
use Rattle.link_lines_values.specs.Names.{Text}
use Rattle.link_lines_values.specs.NumberTexts.{number_texts}
use Rattle.link_lines_values.specs.declared.number_texts.TheConstants.{MESSAGE_TYPE}
use Rattle.link_lines.specs.Words.{WordStep, WordFault}

-- Whether a byte is `_`.
abbrev pub is_underscore : ℕ → Bool
is_underscore c = c == 95

-- Whether a word is the name, or what follows the name's first `_`; the case of ASCII letters doesn't count.
abbrev pub is_word_of : List ℕ → List ℕ → Bool
is_word_of name w =
    str_eq_ignore_ascii_case name w || str_eq_ignore_ascii_case (after_first is_underscore name) w

-- The number of the first row whose name the word is.
abbrev pub named_in : List Text → List ℕ → Option ℕ
named_in [] w = None
named_in (r ∷ rows) w = cond (is_word_of r.1 w) (Some r.0) (named_in rows w)

-- The type with this name.
unfoldable pub named_type : List ℕ → Option ℕ
named_type w = named_in (number_texts MESSAGE_TYPE) w

-- One to five decimal digits of the number of a type.
pub record IsTypeNumber (w : List ℕ) : Type 0 where
  pub numeral : IsNumeral 10 w
  pub short : length w ≤ 5
  pub high : digits_value 10 w < 2 ^ 16

-- A type by its name, or by its number.
abbrev pub IsTypeWord : List ℕ → ℕ → Type 0
IsTypeWord w t = (named_type w ≡ Some t) ⊎ ((named_type w ≡ None) × IsTypeNumber w × (t ≡ digits_value 10 w))

-- What one more word adds to a list of at most 32 types.
abbrev pub TakesType : WordStep (List ℕ)
TakesType ts w (Ok us) = (length ts < 32) × ((t : ℕ) × IsTypeWord w t × (us ≡ ts ++ t ∷ []))
TakesType ts w (Err (WordFault.Unknown v)) = (v ≡ w) × ((t : ℕ) → IsTypeWord w t → ⊥)
TakesType ts w (Err WordFault.TooMany) = (length ts ≡ 32) × ((t : ℕ) × IsTypeWord w t)
