-- The first word of a text, as a loop cuts it off.
use Rattle.std.proofs.Common.{◌≡◌, ◌+◌, ◌≤◌, Bool, ℕ, zero, suc, true, false, not, cond, refl, sym, ap, ◌∙◌, List, [], ◌∷◌, Some, None, take, drop, length, map, arith}
use Rattle.std.specs.List.{prefix_len}
use Rattle.link_lines_parts.proofs.FirstParts.{prefix_within}
use Rattle.link_lines_parts.specs.Lines.{with_byte}
use Rattle.link_lines_json.specs.Tokens.{begins_in_brackets, ends_word, is_in_brackets, next_region, terms_of, tokens, without_last, without_space, word_size, words_in}
use Rattle.link_lines_json.specs.Runs.{is_simple}
use Rattle.link_lines_json.specs.declared.tokens.Region.{Region}
use Rattle.link_lines_json.specs.declared.tokens.Region.TheVariants.{Word}

-- A first word of this length, and the words that follow it.
abbrev words_at : List ℕ → ℕ → List (List ℕ)
words_at t size = take size t ∷ words_in Word (drop size t)

words_by : (c d n : ℕ) (t : List ℕ) (rest here : List (List ℕ)) (b : Bool) → rest ≡ words_at (d ∷ t) (suc n) → here ≡ words_in Word (d ∷ t)
    → cond (not b) (with_byte c rest) ((c ∷ []) ∷ here) ≡ words_at (c ∷ d ∷ t) (suc (cond b 0 (1 + n)))
words_by c d n t rest here true e h = ap (λ w. (c ∷ []) ∷ w) h
words_by c d n t rest here false e h = ap (with_byte c) e ∙ ap (words_at (c ∷ d ∷ t)) {x = suc (suc n)} {y = suc (1 + n)} (omega arith)

words_at_size : (t : List ℕ) (p : Region) (c : ℕ) → words_in p (c ∷ t) ≡ words_at (c ∷ t) (suc (word_size (next_region p c) t))
words_at_size [] p c = refl
words_at_size (d ∷ t) p c =
    let q = next_region p c in
    words_by c d (word_size (next_region q d) t) t (words_in q (d ∷ t)) (words_in Word (d ∷ t)) (ends_word q d) (words_at_size t q d) refl

-- The first word of a text after its space, and the words after it.
pub tokens_next : (c : ℕ) (t : List ℕ) → tokens (c ∷ t) ≡ take (word_size (next_region Word c) t) t ∷ tokens (drop (word_size (next_region Word c) t) t)
tokens_next c t = ap (map without_space) (words_at_size t Word c)

within_by : (n m : ℕ) (b : Bool) → n ≤ m → cond b 0 (1 + n) ≤ suc m
within_by n m true h = omega arith
within_by n m false h = omega (arith, h)

-- A word ends no later than the text.
pub word_within : (p : Region) (t : List ℕ) → word_size p t ≤ length t
word_within p [] = omega arith
word_within p (c ∷ t) = within_by (word_size (next_region p c) t) (length t) (ends_word p c) (word_within (next_region p c) t)

-- ---- words of simple bytes

simple_goes_on : (c : ℕ) → is_simple c ≡ true → (ends_word Word c ≡ false) × (next_region Word c ≡ Word)
simple_goes_on c h = grind arith

simple_step : (c n : ℕ) (t : List ℕ) → ends_word Word c ≡ false → next_region Word c ≡ Word → word_size Word t ≡ n + word_size Word (drop n t) → word_size Word (c ∷ t) ≡ (1 + n) + word_size Word (drop (1 + n) (c ∷ t))
simple_step c n t e r h =
    let here : word_size Word (c ∷ t) ≡ 1 + word_size Word t = ap (λ b. cond b 0 (1 + word_size (next_region Word c) t)) e ∙ ap (λ p. 1 + word_size p t) r in
    let rest : word_size Word (drop n t) ≡ word_size Word (drop (1 + n) (c ∷ t)) = ap (λ m. word_size Word (drop m (c ∷ t))) {x = suc n} {y = 1 + n} (omega arith) in
    omega (arith, here, h, rest)

-- The simple bytes at the start of a word belong to it.
pub simple_part : (t : List ℕ) → word_size Word t ≡ prefix_len is_simple t + word_size Word (drop (prefix_len is_simple t) t)
simple_part [] = refl
simple_part (c ∷ t) =
    let n = prefix_len is_simple t in
    elim (is_simple c) as (λ b. is_simple c ≡ b → word_size Word (c ∷ t) ≡ cond b (1 + n) 0 + word_size Word (drop (cond b (1 + n) 0) (c ∷ t))) [
      | true ↦ (λ e. let p = simple_goes_on c e in simple_step c n t p.0 p.1 (simple_part t))
      | false ↦ (λ e. omega arith)
    ] refl

-- What shows where the first word of a text ends.
pub ruleset first_word = (prefix_within, word_within, simple_part)

-- ---- words that aren't in brackets

no_brackets : (n : ℕ) (t : List ℕ) → is_in_brackets t ≡ false → is_in_brackets (take n t) ≡ false
no_brackets zero t h = refl
no_brackets (suc n) [] h = refl
no_brackets (suc n) (d ∷ t) h = h

alone_by : (word names : List ℕ) (words : List (List ℕ)) → is_in_brackets names ≡ false → terms_of (word ∷ names ∷ words) ≡ (word, None) ∷ terms_of (names ∷ words)
alone_by word names words h = ap (λ b. cond b ((word, Some (without_last names)) ∷ terms_of words) ((word, None) ∷ terms_of (names ∷ words))) h

-- A word that isn't followed by brackets is a term.
pub alone : (word t : List ℕ) → begins_in_brackets t ≡ false → terms_of (word ∷ tokens t) ≡ (word, None) ∷ terms_of (tokens t)
alone word [] h = refl
alone word (c ∷ t) h =
    let n = word_size (next_region Word c) t in
    ap (λ w. terms_of (word ∷ w)) (tokens_next c t) ∙ alone_by word (take n t) (tokens (drop n t)) (no_brackets n t h) ∙ sym (ap (λ w. (word, None) ∷ terms_of w) (tokens_next c t))
