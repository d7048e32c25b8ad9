-- The words of a line, where a text in quotes or in brackets is one word, and the brackets after a word.
use Rattle.std.specs.Prelude.{ℕ, ◌+◌, ◌-◌, ◌==◌, ◌&&◌, Bool, true, false, not, cond, List, [], ◌∷◌, length, take, drop, map}
use Rattle.std.specs.Prelude.{Option, Some, None, option_map}
use Rattle.link_lines_parts.specs.Lines.{is_in_word, with_byte}
use Rattle.link_lines_json.specs.declared.tokens.Region.{Region}
use Rattle.link_lines_json.specs.declared.tokens.Region.TheVariants.{Word, Quotes, Escape, Brackets}
use Rattle.link_lines_json.specs.declared.tokens.Term.{Term}

-- The region of the byte after this one.
abbrev pub next_region : Region → ℕ → Region
next_region Word c = cond (c == 34) Quotes (cond (c == 40) Brackets Word)
next_region Quotes c = cond (c == 34) Word (cond (c == 92) Escape Quotes)
next_region Escape c = Quotes
next_region Brackets c = cond (c == 41) Word Brackets

-- Whether a byte ends the word before it.
abbrev pub ends_word : Region → ℕ → Bool
ends_word Word c = not (is_in_word c)
ends_word region c = false

-- The number of bytes up to the end of a word.
abbrev pub word_size : Region → List ℕ → ℕ
word_size region [] = 0
word_size region (c ∷ text) = cond (ends_word region c) 0 (1 + word_size (next_region region c) text)

-- Whether the word before a text continues in it.
abbrev pub continues : Region → List ℕ → Bool
continues region [] = false
continues region (c ∷ text) = not (ends_word region c)

-- The words of a text, each with the space before it. A text in quotes or in brackets is part of the word.
abbrev pub words_in : Region → List ℕ → List (List ℕ)
words_in region [] = []
words_in region (c ∷ text) =
    cond (continues (next_region region c) text) (with_byte c (words_in (next_region region c) text))
    ((c ∷ []) ∷ words_in Word text)

-- A word without the space before it.
abbrev pub without_space : List ℕ → List ℕ
without_space word = drop 1 word

-- The words of a text that begins with the space before the first one.
abbrev pub tokens : List ℕ → List (List ℕ)
tokens text = map without_space (words_in Word text)

-- ---- terms

-- A word, and the text of the brackets after it, if it has any, with the opening bracket.
abbrev pub TermText : Type 0
TermText = List ℕ × Option (List ℕ)

-- The term that a value in code represents.
abbrev pub term_text : Term → TermText
term_text t = (t.word.now, option_map (λ names. names.now) t.names)

-- Whether a word is in brackets.
abbrev pub is_in_brackets : List ℕ → Bool
is_in_brackets [] = false
is_in_brackets (c ∷ word) = c == 40

-- Whether the first word of a text that begins with the space before it is in brackets.
abbrev pub begins_in_brackets : List ℕ → Bool
begins_in_brackets [] = false
begins_in_brackets (c ∷ text) = is_in_brackets text

-- Whether a term without brackets ends before a text.
abbrev pub ends_term : List ℕ → Bool
ends_term [] = true
ends_term (c ∷ text) = (c == 32) && not (is_in_brackets text)

-- A word without its last byte, the closing bracket.
abbrev pub without_last : List ℕ → List ℕ
without_last word = take (length word - 1) word

-- The terms of words.
abbrev pub terms_of : List (List ℕ) → List TermText
terms_of [] = []
terms_of (word ∷ []) = (word, None) ∷ []
terms_of (word ∷ names ∷ words) =
    cond (is_in_brackets names) ((word, Some (without_last names)) ∷ terms_of words)
    ((word, None) ∷ terms_of (names ∷ words))

-- The terms of a text that begins with the space before the first one.
unfoldable pub terms : List ℕ → List TermText
terms text = terms_of (tokens text)
