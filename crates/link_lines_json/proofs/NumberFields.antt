-- The fields of records whose values are numbers.
use Rattle.std.proofs.Common.{◌≡◌, ◌+◌, ◌++◌, Bool, ℕ, true, false, cond, refl, sym, suc, ap, ap₂, append_assoc, ◌∙◌, List, [], ◌∷◌, None, take, drop, length, flat_map, arith}
use Rattle.std.specs.Prelude.{◌&&◌, codes}
use Rattle.std.specs.List.{list_all, prefix_len}
use Rattle.std.proofs.Math.Seq.{drop-append_seam, take-add, take-append_seam}
use Rattle.std.proofs.lemmas.Bool.{eqb-true}
use Rattle.std.proofs.lemmas.List.{drop-drop}
use Rattle.link_lines_json.specs.Runs.{is_simple}
use Rattle.link_lines_json.specs.Strings.{escaped}
use Rattle.link_lines_json.specs.Tokens.{begins_in_brackets, ends_term, terms, terms_of, tokens, word_size}
use Rattle.link_lines_json.specs.Values.{assignment_json, begins_with_equals_sign, is_in_key, is_number, is_text_field, key, key_size, number_field, number_field_json, value_json, word_json}
use Rattle.link_lines_json.specs.declared.tokens.Region.TheVariants.{Word}
use Rattle.link_lines_json.proofs.FirstTokens.{alone, simple_part, tokens_next}
use Rattle.link_lines_json.proofs.PlainText.{simple_alone}

-- ---- as words

ended : (t : List ℕ) → ends_term t ≡ true → (word_size Word t ≡ 0) × (begins_in_brackets t ≡ false)
ended [] h = (refl, refl)
ended (c ∷ t) h = grind arith

pub equals_sign_first : (t : List ℕ) → begins_with_equals_sign t ≡ true → t ≡ 61 ∷ drop 1 t
equals_sign_first [] h = absurd cc
equals_sign_first (c ∷ t) h = ap (λ d. d ∷ t) (eqb-true c 61 h)

-- A simple name, `=` and a simple value are a word.
pub field_term : (words value : List ℕ) → drop (prefix_len is_simple words) words ≡ 61 ∷ value → ends_term (drop (prefix_len is_simple value) value) ≡ true
    → terms (32 ∷ words) ≡ number_field (take (prefix_len is_simple words) words) (take (prefix_len is_simple value) value) ∷ terms (drop (prefix_len is_simple value) value)
unfolding terms
field_term words value e h =
    let n = prefix_len is_simple words in
    let m = prefix_len is_simple value in
    let rest = drop m value in
    let end = ended rest h in
    let size : word_size Word words ≡ n + suc m = omega (arith, simple_part words, ap (word_size Word) e, simple_part value, end.0) in
    let word : take (word_size Word words) words ≡ take n words ++ 61 ∷ take m value =
    ap (λ k. take k words) size ∙ take-add n (suc m) words ∙ ap (λ t. take n words ++ take (suc m) t) e in
    let left : drop (word_size Word words) words ≡ rest = ap (λ k. drop k words) size ∙ sym (drop-drop (suc m) n words) ∙ ap (drop (suc m)) e in
    ap terms_of (tokens_next 32 words ∙ ap₂ (λ w t. w ∷ tokens t) word left) ∙ alone (take n words ++ 61 ∷ take m value) rest end.1

-- ---- as JSON

and_parts : (a b : Bool) → (a && b) ≡ true → (a ≡ true) × (b ≡ true)
and_parts true b h = (refl, h)
and_parts false b h = absurd cc

pub run_is_simple : (t : List ℕ) → list_all is_simple (take (prefix_len is_simple t) t) ≡ true
run_is_simple [] = refl
run_is_simple (c ∷ t) =
    let n = prefix_len is_simple t in
    elim (is_simple c) as (λ b. is_simple c ≡ b → list_all is_simple (take (cond b (1 + n) 0) (c ∷ t)) ≡ true) [
      | true ↦ (λ e. ap (λ k. list_all is_simple (take k (c ∷ t))) {x = 1 + n} {y = suc n} (omega arith) ∙ ap₂ (λ a b. a && b) e (run_is_simple t))
      | false ↦ (λ e. refl)
    ] refl

simple_in_key : (c : ℕ) → is_simple c ≡ true → is_in_key c ≡ true
simple_in_key c h = grind arith

key_size_of : (name number : List ℕ) → list_all is_simple name ≡ true → key_size (name ++ 61 ∷ number) ≡ length name
key_size_of [] number h = refl
key_size_of (c ∷ name) number h =
    let both = and_parts (is_simple c) (list_all is_simple name) h in
    ap₂ (λ b n. cond b (1 + n) 0) (simple_in_key c both.0) (key_size_of name number both.1) ∙ omega arith

escaped_alone : (name : List ℕ) → list_all is_simple name ≡ true → flat_map escaped name ≡ name
escaped_alone [] h = refl
escaped_alone (c ∷ name) h =
    let both = and_parts (is_simple c) (list_all is_simple name) h in
    ap₂ (λ a b. a ++ b) (simple_alone c both.0) (escaped_alone name both.1)

number_alone : (number : List ℕ) → is_number number ≡ true → value_json false (number, None) ≡ number
unfolding value_json word_json
number_alone number h = grind arith

pub field_json : (name number : List ℕ) → list_all is_simple name ≡ true → is_text_field name ≡ false → is_number number ≡ true → assignment_json (number_field name number) ≡ number_field_json name number
unfolding assignment_json key
field_json name number simple plain h =
    let word = name ++ 61 ∷ number in
    let front : take (key_size word) word ≡ name = ap (λ k. take k word) (key_size_of name number simple) ∙ take-append_seam name (61 ∷ number) in
    let back : drop (key_size word) word ≡ 61 ∷ number = ap (λ k. drop k word) (key_size_of name number simple) ∙ drop-append_seam name (61 ∷ number) in
    ap₂ (λ n v. key n ++ value_json (is_text_field n) (drop 1 v, None)) front back
    ∙ ap (λ b. key name ++ value_json b (number, None)) plain
    ∙ ap₂ (λ n v. ((34 ∷ (n ++ 34 ∷ [])) ++ codes ": ") ++ v) (escaped_alone name simple) (number_alone number h)
    ∙ ap (λ t. 34 ∷ (t ++ number)) (append_assoc name (34 ∷ []) (codes ": "))
    ∙ ap (λ t. 34 ∷ t) (append_assoc name (codes "\": ") number)
