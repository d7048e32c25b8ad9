-- The first line of a text, with an offset at its end.
use Rattle.std.proofs.Common.{◌≡◌, ℕ, ◌+◌, Bool, true, false, cond, not, List, [], ◌∷◌, ◌++◌, length, drop, refl, sym, ap, subst, ◌∙◌, append_assoc, drop_at, take_at, ne_eqb, arith}
use Rattle.std.specs.Prelude.{◌==◌, codes, decimal}
use Rattle.std.specs.List.{AllByRecursion, prefix_len}
use Rattle.std.proofs.lemmas.Bool.{eqb-true, true≢false}
use Rattle.std.proofs.lemmas.List.{append_cancel_right}
use Rattle.link_lines_values.proofs.NumbersDetermined.{Digits, high}
use Rattle.link_lines_texts.specs.Determination.{StartsFrame}
use Rattle.link_lines_parts.specs.Lines.{is_in_line}
use Rattle.link_lines.specs.MessageLines.{lines_with_offset}
use Rattle.link_lines.specs.Offsets.{with_offset}

-- ---- texts without a newline

-- No byte of a text is a newline.
abbrev pub HasNoNewline : List ℕ → Type 0
HasNoNewline s = AllByRecursion (λ c. is_in_line c ≡ true) s

none_joined : (a b : List ℕ) → HasNoNewline a → HasNoNewline b → HasNoNewline (a ++ b)
none_joined [] b h k = k
none_joined (c ∷ a) b h k = (h.0, none_joined a b h.1 k)

none_in_digits : (d : List ℕ) → Digits d → HasNoNewline d
none_in_digits [] h = record {}
none_in_digits (c ∷ d) h = (ap (λ b. not b) (ne_eqb c 10 (omega (arith, h.0))), none_in_digits d h.1)

none_in_label : HasNoNewline (codes " offset")
none_in_label = (refl, (refl, (refl, (refl, (refl, (refl, (refl, record {})))))))

is_newline : (b : Bool) → not b ≡ false → b ≡ true
is_newline true h = refl
is_newline false h = sym h

not_newline : (c : ℕ) → is_in_line c ≡ true → c ≡ 10 → ⊥
not_newline c h e = true≢false (sym h ∙ ap (λ b. is_in_line b) e)

-- A line ends at its newline.
cut_newline : (a b s t : List ℕ) → HasNoNewline a → HasNoNewline b → a ++ 10 ∷ s ≡ b ++ 10 ∷ t → (a ≡ b) × (s ≡ t)
cut_newline [] [] s t h k e = (refl, ap (drop 1) e)
cut_newline [] (y ∷ b) s t h k e = let first : y ≡ 10 = cc in absurd (not_newline y k.0 first)
cut_newline (x ∷ a) [] s t h k e = let first : x ≡ 10 = cc in absurd (not_newline x h.0 first)
cut_newline (x ∷ a) (y ∷ b) s t h k e =
    let rest = cut_newline a b s t h.1 k.1 (ap (drop 1) e) in
    (cc, rest.1)

-- ---- the first line

-- The first line of a text, and what follows its newline.
pub record HasFirstLine (text : List ℕ) : Type 0 where
  pub first : List ℕ
  pub rest : List ℕ
  pub on_a_line : HasNoNewline first
  pub is : text ≡ first ++ 10 ∷ rest

one_more : (c : ℕ) (text : List ℕ) (b : Bool) → is_in_line c ≡ b → HasFirstLine text → HasFirstLine (c ∷ text)
one_more c text true h more = record { first = c ∷ more.first; rest = more.rest; on_a_line = (h, more.on_a_line); is = ap (λ z. c ∷ z) more.is }
one_more c text false h more = record { first = []; rest = text; on_a_line = record {}; is = ap (λ z. z ∷ text) (eqb-true c 10 (is_newline (c == 10) h)) }

pub first_line : (a r : List ℕ) → HasFirstLine (a ++ 10 ∷ r)
first_line [] r = record { first = []; rest = r; on_a_line = record {}; is = refl }
first_line (c ∷ a) r = one_more c (a ++ 10 ∷ r) (is_in_line c) refl (first_line a r)

first_size : (first rest : List ℕ) → HasNoNewline first → length first ≡ prefix_len is_in_line (first ++ 10 ∷ rest)
first_size [] rest h = refl
first_size (c ∷ first) rest h =
    let n = prefix_len is_in_line (first ++ 10 ∷ rest) in
    let one : length (c ∷ first) ≡ 1 + n = omega (arith, first_size first rest h.1) in
    one ∙ ap (λ b. cond b (1 + n) 0) (sym h.0)

-- ---- its offset

-- A first line with an offset, and what follows its newline.
abbrev pub offset_line : ℕ → List ℕ → List ℕ → List ℕ
offset_line x first rest = first ++ (codes " offset " ++ (decimal x ++ 10 ∷ rest))

offset_first : (x : ℕ) (first rest : List ℕ) → HasNoNewline first → with_offset x (first ++ 10 ∷ rest) ≡ offset_line x first rest
offset_first x first rest h =
    let text = first ++ 10 ∷ rest in
    let n = prefix_len is_in_line text in
    let size = first_size first rest h in
    ap (λ z. z ++ (codes " offset " ++ (decimal x ++ drop n text))) (take_at first (10 ∷ rest) n size)
    ∙ ap (λ z. first ++ (codes " offset " ++ (decimal x ++ z))) (drop_at first (10 ∷ rest) n size)

-- Lines have their offset in the first line.
pub located_first : (x : ℕ) (first rest : List ℕ) → HasNoNewline first → lines_with_offset true x (first ++ 10 ∷ rest) ≡ offset_line x first rest
located_first x [] rest h = offset_first x [] rest h
located_first x (c ∷ first) rest h = offset_first x (c ∷ first) rest h

pub starts_with_offset : (x : ℕ) (first rest s : List ℕ) → StartsFrame (first ++ 10 ∷ rest) → StartsFrame (offset_line x first rest ++ s)
starts_with_offset x [] rest s h = absurd (omega (arith, h))
starts_with_offset x (c ∷ first) rest s h = h

pub some_with_offset : (x : ℕ) (first rest s : List ℕ) → offset_line x first rest ++ s ≡ [] → ⊥
some_with_offset x [] rest s e = absurd cc
some_with_offset x (c ∷ first) rest s e = absurd cc

-- ---- the last word of a line

no_space : (a w : List ℕ) → Digits (a ++ 32 ∷ w) → ⊥
no_space [] w h = omega (arith, h.0)
no_space (c ∷ a) w h = no_space a w h.1

cut_last : (a b v w : List ℕ) → Digits v → Digits w → a ++ 32 ∷ v ≡ b ++ 32 ∷ w → (a ≡ b) × (v ≡ w)
cut_last [] [] v w h k e = (refl, ap (drop 1) e)
cut_last [] (y ∷ b) v w h k e = let rest : v ≡ b ++ 32 ∷ w = ap (drop 1) e in absurd (no_space b w (subst Digits rest h))
cut_last (x ∷ a) [] v w h k e = let rest : w ≡ a ++ 32 ∷ v = sym (ap (drop 1) e) in absurd (no_space a v (subst Digits rest k))
cut_last (x ∷ a) (y ∷ b) v w h k e =
    let rest = cut_last a b v w h k (ap (drop 1) e) in
    (cc, rest.1)

abbrev numbered : ℕ → List ℕ → List ℕ
numbered x first = (first ++ codes " offset") ++ 32 ∷ decimal x

regrouped : (x : ℕ) (first rest s : List ℕ) → offset_line x first rest ++ s ≡ numbered x first ++ 10 ∷ (rest ++ s)
regrouped x first rest s =
    let d = decimal x in
    append_assoc first (codes " offset " ++ (d ++ 10 ∷ rest)) s
    ∙ ap (λ z. first ++ (codes " offset " ++ z)) (append_assoc d (10 ∷ rest) s)
    ∙ sym (append_assoc first (codes " offset") (32 ∷ (d ++ 10 ∷ (rest ++ s))))
    ∙ sym (append_assoc (first ++ codes " offset") (32 ∷ d) (10 ∷ (rest ++ s)))

numbered_on_a_line : (x : ℕ) (first : List ℕ) → HasNoNewline first → HasNoNewline (numbered x first)
numbered_on_a_line x first h = none_joined (first ++ codes " offset") (32 ∷ decimal x) (none_joined first (codes " offset") h none_in_label) (refl, none_in_digits (decimal x) (high 10 x))

-- A first line with an offset, together with what follows it, determines the offset's text and the lines without it.
pub offset_line_determined : (x y : ℕ) (p q r u s t : List ℕ) → HasNoNewline p → HasNoNewline q → offset_line x p r ++ s ≡ offset_line y q u ++ t →
    (decimal x ≡ decimal y) × (p ++ 10 ∷ (r ++ s) ≡ q ++ 10 ∷ (u ++ t))
offset_line_determined x y p q r u s t h k e =
    let lines = cut_newline (numbered x p) (numbered y q) (r ++ s) (u ++ t) (numbered_on_a_line x p h) (numbered_on_a_line y q k) (sym (regrouped x p r s) ∙ e ∙ regrouped y q u t) in
    let words = cut_last (p ++ codes " offset") (q ++ codes " offset") (decimal x) (decimal y) (high 10 x) (high 10 y) lines.0 in
    let first : p ≡ q = append_cancel_right p q (codes " offset") words.0 in
    (words.1, ap (λ z. z ++ 10 ∷ (r ++ s)) first ∙ ap (λ z. q ++ 10 ∷ z) lines.1)
