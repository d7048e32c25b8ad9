-- The first line of a text, and the first word of a line, as loops cut them off.
use Rattle.std.proofs.Common.{◌≡◌, ◌≢◌, ◌+◌, ◌≤◌, ◌==◌, Bool, ℕ, suc, true, false, not, cond, refl, sym, ap, ◌∙◌, List, [], ◌∷◌, ◌++◌, Some, None, take, drop, length, min, arith}
use Rattle.std.specs.Prelude.{slice_index}
use Rattle.std.specs.List.{prefix_len}
use Rattle.std.proofs.lemmas.Bool.{eqb-true}
use Rattle.std.proofs.lemmas.List.Sums.{prefix_len-le-length, prefix_len_is}
use Rattle.memchr.specs.Find.{IsFirstByte, is_byte}
use Rattle.link_lines_parts.specs.Lines.{is_in_line, is_in_word, lines_of, with_byte, without_newline, words_of}

-- What a prefix has is no more than there is.
pub prefix_within : (p : ℕ → Bool) (t : List ℕ) → prefix_len p t ≤ length t
prefix_within p t = prefix_len-le-length p t

-- ---- newlines

pub isnt : (b : Bool) → (b ≡ true → ⊥) → not b ≡ true
isnt true h = absurd (h refl)
isnt false h = refl

-- If there is no newline, the whole text is before it.
pub newline_nowhere : (t : List ℕ) → IsFirstByte (is_byte 10) t None → prefix_len is_in_line t ≡ length t
newline_nowhere t h = prefix_len_is is_in_line t (length t) 0 (omega arith) (λ k l. isnt (slice_index t k == 10) (h k (omega arith) l)) (λ l. absurd (omega (arith, l)))

-- The bytes before the first newline.
pub newline_first : (t : List ℕ) (k : ℕ) → IsFirstByte (is_byte 10) t (Some k) → prefix_len is_in_line t ≡ k
newline_first t k h = prefix_len_is is_in_line t k 0 (omega (arith, h.0.high)) (λ i l. isnt (slice_index t i == 10) (h.0.before i (omega arith) l)) (λ l. ap not h.1)

without_last : (start : List ℕ) (last : ℕ) → without_newline (start ++ last ∷ []) ≡ cond (is_in_line last) (start ++ last ∷ []) start
without_last [] last = refl
without_last (c ∷ []) last = elim (is_in_line last) as (λ b. c ∷ cond b (last ∷ []) [] ≡ cond b (c ∷ last ∷ []) (c ∷ [])) [ true ↦ refl | false ↦ refl ]
without_last (c ∷ d ∷ start) last = ap (λ l. c ∷ l) (without_last (d ∷ start) last) ∙ elim (is_in_line last) as (λ b. c ∷ cond b (d ∷ start ++ last ∷ []) (d ∷ start) ≡ cond b (c ∷ d ∷ start ++ last ∷ []) (c ∷ d ∷ start)) [ true ↦ refl | false ↦ refl ]

-- A line that ends with a newline, without it.
pub newline_dropped : (line start : List ℕ) (last : ℕ) → line ≡ start ++ last ∷ [] → last ≡ 10 → without_newline line ≡ start
newline_dropped line start last e h = ap without_newline e ∙ without_last start last ∙ ap (λ c. cond (is_in_line c) (start ++ last ∷ []) start) h

-- A line that ends with another byte.
pub line_kept : (line start : List ℕ) (last : ℕ) → line ≡ start ++ last ∷ [] → last ≢ 10 → without_newline line ≡ line
line_kept line start last e h = ap without_newline e ∙ without_last start last ∙ ap (λ b. cond b (start ++ last ∷ []) start) (isnt (last == 10) (λ t. h (eqb-true last 10 t))) ∙ sym e

-- ---- lines

-- The length of the first line with its newline.
abbrev line_size : List ℕ → ℕ
line_size [] = 0
line_size (c ∷ t) = cond (is_in_line c) (suc (line_size t)) 1

-- A first line of this length, and the lines that follow it.
abbrev lines_at : List ℕ → ℕ → List (List ℕ)
lines_at t size = take size t ∷ lines_of (drop size t)

lines_at_size : (t : List ℕ) (c : ℕ) → lines_of (c ∷ t) ≡ lines_at (c ∷ t) (line_size (c ∷ t))
lines_at_size [] c =
    let lines = λ (b : Bool). cond b (with_byte c []) ((c ∷ []) ∷ []) in
    elim (is_in_line c) as (λ b. lines b ≡ lines_at (c ∷ []) (cond b 1 1)) [ true ↦ refl | false ↦ refl ]
lines_at_size (d ∷ t) c =
    let lines = λ (b : Bool). cond b (with_byte c (lines_of (d ∷ t))) ((c ∷ []) ∷ lines_of (d ∷ t)) in
    elim (is_in_line c) as (λ b. lines b ≡ lines_at (c ∷ d ∷ t) (cond b (suc (line_size (d ∷ t))) 1)) [
      | true ↦ ap (with_byte c) (lines_at_size t d)
      | false ↦ refl
    ]

size_is : (t : List ℕ) → line_size t ≡ min (prefix_len is_in_line t + 1) (length t)
size_is [] = refl
size_is (c ∷ t) =
    let ih = size_is t in
    let before = prefix_len is_in_line t in
    elim (is_in_line c) as (λ b. cond b (suc (line_size t)) 1 ≡ min (cond b (1 + before) 0 + 1) (suc (length t))) [
      | true ↦ omega (arith, ih)
      | false ↦ omega arith
    ]

-- The first line ends after the newline, or with the text.
pub lines_next : (t : List ℕ) (end : ℕ) → 1 ≤ length t → end ≡ min (prefix_len is_in_line t + 1) (length t)
    → lines_of t ≡ take end t ∷ lines_of (drop end t)
lines_next [] end h e = absurd (omega arith)
lines_next (c ∷ t) end h e = lines_at_size t c ∙ ap (lines_at (c ∷ t)) (size_is (c ∷ t) ∙ sym e)

-- ---- words

-- A first word of this length, and the words that follow it.
abbrev words_at : List ℕ → ℕ → List (List ℕ)
words_at t size = take size t ∷ words_of (drop size t)

words_at_size : (t : List ℕ) (c : ℕ) → words_of (c ∷ t) ≡ words_at (c ∷ t) (suc (prefix_len is_in_word t))
words_at_size [] c = refl
words_at_size (d ∷ t) c =
    let n = prefix_len is_in_word t in
    let one_more : suc (suc n) ≡ suc (1 + n) = omega arith in
    let words = λ (b : Bool). cond b (with_byte c (words_of (d ∷ t))) ((c ∷ []) ∷ words_of (d ∷ t)) in
    elim (is_in_word d) as (λ b. words b ≡ words_at (c ∷ d ∷ t) (suc (cond b (1 + n) 0))) [
      | true ↦ ap (with_byte c) (words_at_size t d) ∙ ap (words_at (c ∷ d ∷ t)) one_more
      | false ↦ refl
    ]

-- The first word has at least one byte, and ends before the next space or newline, or with the line.
pub words_next : (t : List ℕ) (end : ℕ) → 1 ≤ length t → end ≡ 1 + prefix_len is_in_word (drop 1 t)
    → words_of t ≡ take end t ∷ words_of (drop end t)
words_next [] end h e = absurd (omega arith)
words_next (c ∷ t) end h e =
    let size : suc (prefix_len is_in_word t) ≡ end = omega (arith, e) in
    words_at_size t c ∙ ap (words_at (c ∷ t)) size
