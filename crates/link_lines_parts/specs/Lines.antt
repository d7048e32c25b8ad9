-- The lines of a text, their levels and words.
use Rattle.std.specs.Prelude.{ℕ, ◌/◌, ◌==◌, ◌||◌, Bool, false, not, cond, List, [], ◌∷◌, take, drop}
use Rattle.std.specs.List.{prefix_len}

-- Whether a byte is a space.
abbrev pub is_space : ℕ → Bool
is_space c = c == 32

-- Whether a byte is before the newline of a line.
abbrev pub is_in_line : ℕ → Bool
is_in_line c = not (c == 10)

-- Whether a byte is neither a space nor a newline.
abbrev pub is_in_word : ℕ → Bool
is_in_word c = not (c == 32 || c == 10)

-- Parts of a text, with a byte more at the start of the first one.
abbrev pub with_byte : ℕ → List (List ℕ) → List (List ℕ)
with_byte c [] = (c ∷ []) ∷ []
with_byte c (part ∷ parts) = (c ∷ part) ∷ parts

-- The lines of a text, each with its newline; the last one may have none.
abbrev pub lines_of : List ℕ → List (List ℕ)
lines_of [] = []
lines_of (c ∷ text) = cond (is_in_line c) (with_byte c (lines_of text)) ((c ∷ []) ∷ lines_of text)

-- Whether a text begins with a byte of a word.
abbrev pub continues_word : List ℕ → Bool
continues_word [] = false
continues_word (c ∷ text) = is_in_word c

-- The words of a line, each with the space before it; the newline is the last one.
abbrev pub words_of : List ℕ → List (List ℕ)
words_of [] = []
words_of (c ∷ line) = cond (continues_word line) (with_byte c (words_of line)) ((c ∷ []) ∷ words_of line)

-- The level of a line: half the number of its leading spaces.
abbrev pub level : List ℕ → ℕ
level line = prefix_len is_space line / 2

-- A line without its leading spaces.
abbrev pub without_indent : List ℕ → List ℕ
without_indent line = drop (prefix_len is_space line) line

-- The first word of a line.
abbrev pub first_word : List ℕ → List ℕ
first_word line = take (prefix_len is_in_word (without_indent line)) (without_indent line)

-- What follows the first word of a line.
abbrev pub after_first_word : List ℕ → List ℕ
after_first_word line = drop (prefix_len is_in_word (without_indent line)) (without_indent line)

-- A line without the newline at its end, if it has one.
abbrev pub without_newline : List ℕ → List ℕ
without_newline [] = []
without_newline (c ∷ []) = cond (is_in_line c) (c ∷ []) []
without_newline (c ∷ d ∷ line) = c ∷ without_newline (d ∷ line)
