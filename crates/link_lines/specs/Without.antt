-- What is left out of lines, by names.
use Rattle.std.specs.Prelude.{◌≡◌, ◌+◌, ◌++◌, ℕ, true, List, [], ◌∷◌, codes, cond, length, nat_le}
use Rattle.std.specs.Prelude.{Option, Some, None, Result, Ok, Err}
use Rattle.std.specs.Str.{str_eq_ignore_ascii_case}
use Rattle.link_lines_parts.specs.Remaining.{Omitted}
use Rattle.link_lines_raw.specs.NameSearch.{first_name, raw_name}
use Rattle.link_lines_texts.specs.NameSearch.{text_name}
use Rattle.link_lines.specs.Words.{WordStep, WordFault}

-- The attributes with tables of rates and sizes.
abbrev pub table_names : List (List ℕ)
table_names =
    codes "TCA_HTB_CTAB" ∷ codes "TCA_HTB_RTAB" ∷ codes "TCA_STAB_DATA" ∷ codes "TCA_TBF_PTAB" ∷ codes "TCA_TBF_RTAB" ∷ []

-- x with these names too, if that makes at most 32.
abbrev pub with_names : Omitted → List (List ℕ) → Option Omitted
with_names x names =
    cond (nat_le (length x.names + length names) 32) (Some (record x { names = x.names ++ names })) None

-- The name of an attribute, of any table, that the word is.
abbrev pub attribute_name : List ℕ → Option (List ℕ)
attribute_name w = first_name (raw_name w) (text_name w)

-- `padding`, or the name of an attribute, that the word is.
abbrev pub line_name : List ℕ → Option (List ℕ)
line_name w = cond (str_eq_ignore_ascii_case w (codes "padding")) (Some (codes "padding")) (attribute_name w)

-- The result, or `TooMany`.
abbrev pub or_too_many : Option Omitted → Result Omitted WordFault
or_too_many None = Err WordFault.TooMany
or_too_many (Some x) = Ok x

-- x with the name that was found for the word w, or `Unknown`.
abbrev pub with_found : Omitted → List ℕ → Option (List ℕ) → Result Omitted WordFault
with_found x w None = Err (WordFault.Unknown w)
with_found x w (Some name) = or_too_many (with_names x (name ∷ []))

-- What one more word leaves out: a group, padding, or an attribute; the case of ASCII letters doesn't count.
abbrev pub with_word : Omitted → List ℕ → Result Omitted WordFault
with_word x w =
    cond (str_eq_ignore_ascii_case w (codes "numbers")) (Ok (record x { numbers = true }))
    (cond (str_eq_ignore_ascii_case w (codes "counters")) (Ok (record x { counters = true }))
    (cond (str_eq_ignore_ascii_case w (codes "indexes")) (Ok (record x { indexes = true }))
    (cond (str_eq_ignore_ascii_case w (codes "tables")) (or_too_many (with_names x table_names))
    (with_found x w (line_name w)))))

-- `with_word`, as a step of `Reads`.
abbrev pub TakesWord : WordStep Omitted
TakesWord x w r = r ≡ with_word x w
