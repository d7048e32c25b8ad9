-- Words with commas between them, read one after the other.
use Rattle.std.proofs.Common.{◌≡◌, ℕ, suc, ◌+◌, ◌<◌, Bool, true, false, cond, not, List, [], ◌∷◌, length, take, drop, Result, Ok, Err, refl, sym, ap, subst, arith, ◌∙◌}
use Rattle.std.specs.Prelude.{◌==◌}
use Rattle.std.specs.List.{position_or_len}
use Rattle.link_lines.specs.Words.{Reads, WordStep, WordFault, with_leading_byte, parts}

abbrev pub comma : ℕ → Bool
comma b = b == 44

-- ---- the parts between commas

none_by : (c : ℕ) (w : List ℕ) (b : Bool) → cond (not b) (1 + position_or_len comma w) 0 ≡ suc (length w) → (position_or_len comma w ≡ length w → parts w ≡ w ∷ []) →
    cond b ([] ∷ parts w) (with_leading_byte c (parts w)) ≡ (c ∷ w) ∷ []
none_by c w true e h = absurd (omega (arith, e))
none_by c w false e h = ap (with_leading_byte c) (h (omega (arith, e)))

-- A word without a comma.
pub one_part : (w : List ℕ) → position_or_len comma w ≡ length w → parts w ≡ w ∷ []
one_part [] e = refl
one_part (c ∷ w) e = none_by c w (c == 44) e (one_part w)

further : (n : ℕ) (c : ℕ) (w : List ℕ) → drop (1 + n + 1) (c ∷ w) ≡ drop (n + 1) w
further n c w = ap (λ m. drop m (c ∷ w)) {x = 1 + n + 1} {y = suc (n + 1)} (omega arith)

name_taken : (n : ℕ) (c : ℕ) (w : List ℕ) → take (1 + n) (c ∷ w) ≡ c ∷ take n w
name_taken n c w = ap (λ m. take m (c ∷ w)) {x = 1 + n} {y = suc n} (omega arith)

some_by : (c : ℕ) (w : List ℕ) (b : Bool) → cond (not b) (1 + position_or_len comma w) 0 < suc (length w) →
    (position_or_len comma w < length w → parts w ≡ take (position_or_len comma w) w ∷ parts (drop (position_or_len comma w + 1) w)) →
    cond b ([] ∷ parts w) (with_leading_byte c (parts w)) ≡ take (cond (not b) (1 + position_or_len comma w) 0) (c ∷ w) ∷ parts (drop (cond (not b) (1 + position_or_len comma w) 0 + 1) (c ∷ w))
some_by c w true l h = refl
some_by c w false l h =
    let n = position_or_len comma w in
    ap (with_leading_byte c) (h (omega (arith, l))) ∙ ap (λ z. (c ∷ take n w) ∷ parts z) (sym (further n c w)) ∙ ap (λ z. z ∷ parts (drop (1 + n + 1) (c ∷ w))) (sym (name_taken n c w))

-- A word with a comma.
pub more_parts : (w : List ℕ) → position_or_len comma w < length w → parts w ≡ take (position_or_len comma w) w ∷ parts (drop (position_or_len comma w + 1) w)
more_parts [] l = absurd (omega arith)
more_parts (c ∷ w) l = some_by c w (c == 44) l (more_parts w)

-- ---- words that were read so far

-- What the remaining words are read as, all words are.
pub record ReadSoFar {A : Type 0} (Takes : WordStep A) (start so_far : A) (word left : List ℕ) : Type 0 where
  pub reads : (r : Result A WordFault) → Reads Takes so_far (parts left) r → Reads Takes start (parts word) r

pub begun : {A : Type 0} (Takes : WordStep A) (start : A) (word : List ℕ) → ReadSoFar Takes start start word word
begun Takes start word = record { reads = λ r h. h }

-- One more word was read.
pub gone_on : {A : Type 0} (Takes : WordStep A) (start so_far next : A) (word left part rest : List ℕ) → ReadSoFar Takes start so_far word left → parts left ≡ part ∷ parts rest → Takes so_far part (Ok next) → ReadSoFar Takes start next word rest
gone_on Takes start so_far next word left part rest g e t = record { reads = λ r h. g.reads r (subst (λ ps. Reads Takes so_far ps r) (sym e) (Ok next, t, h)) }

-- A word has a fault.
pub failed : {A : Type 0} (Takes : WordStep A) (start so_far : A) (word left part : List ℕ) (ps : List (List ℕ)) (e : WordFault) → ReadSoFar Takes start so_far word left → parts left ≡ part ∷ ps → Takes so_far part (Err e) → Reads Takes start (parts word) (Err e)
failed Takes start so_far word left part ps e g c t = g.reads (Err e) (subst (λ ps. Reads Takes so_far ps (Err e)) (sym c) (Err e, t, refl))

last_read : {A : Type 0} (Takes : WordStep A) (so_far : A) (word : List ℕ) (r : Result A WordFault) → Takes so_far word r → Reads Takes so_far (word ∷ []) r
last_read Takes so_far word (Ok next) t = (Ok next, t, refl)
last_read Takes so_far word (Err e) t = (Err e, t, refl)

-- The last word.
pub ended : {A : Type 0} (Takes : WordStep A) (start so_far : A) (word left : List ℕ) (r : Result A WordFault) → ReadSoFar Takes start so_far word left → parts left ≡ left ∷ [] → Takes so_far left r → Reads Takes start (parts word) r
ended Takes start so_far word left r g c t = g.reads r (subst (λ ps. Reads Takes so_far ps r) (sym c) (last_read Takes so_far left r t))
