-- Deeper lines end where a line begins that isn't as deep.
use Rattle.std.proofs.Common.{◌≡◌, ℕ, zero, suc, ◌+◌, ◌-◌, ◌*◌, ◌<◌, ◌≤◌, List, [], ◌∷◌, ◌++◌, drop, Option, Some, None, refl, sym, ap, ◌∙◌, append_assoc, append-nil, arith}
use Rattle.std.specs.Prelude.{⊤, replicate}
use Rattle.std.specs.List.{AllByRecursion}
use Rattle.std.proofs.lemmas.Grind.{flat_map-append}
use Rattle.netlink_packet_core_grammar.specs.Attributes.{Attribute}
use Rattle.link_lines_values.specs.Indents.{indent}
use Rattle.link_lines_values.specs.Laws.{IsLine}
use Rattle.link_lines_raw.specs.Lines.{IsShallow, Line, line_text, lines_text}
use Rattle.link_lines_raw.specs.Lists.{Listed, first_part, head_line, head_text, inside_lines, lines_inside, lines_within, listed_lines, next_lines, padding_words, part_head, part_lines, part_list, part_padding, part_text, part_with_head}
use Rattle.link_lines_raw.proofs.Words.{Starts, cut_line, starts_joined}

-- ---- lines

-- All lines have at least this level.
abbrev pub AreDeep : ℕ → List Line → Type 0
AreDeep level ls = AllByRecursion (λ l. level ≤ l.0) ls

-- The first line, if any, has a lower level.
abbrev pub IsUnder : ℕ → List Line → Type 0
IsUnder level [] = ⊤
IsUnder level (l ∷ ls) = l.0 < level

-- The text of the first line.
abbrev pub first_text : List Line → List ℕ
first_text [] = []
first_text (l ∷ ls) = l.1

pub deep_joined : (level : ℕ) (a b : List Line) → AreDeep level a → AreDeep level b → AreDeep level (a ++ b)
deep_joined level [] b h k = k
deep_joined level (l ∷ a) b h k = (h.0, deep_joined level a b h.1 k)

pub less_deep : (level : ℕ) (a : List Line) → AreDeep (level + 1) a → AreDeep level a
less_deep level [] h = h
less_deep level (l ∷ a) h = (omega (arith, h.0), less_deep level a h.1)

-- Deeper lines and those after them are determined together.
pub span : (level : ℕ) (a b s t : List Line) → AreDeep level a → AreDeep level b → IsUnder level s → IsUnder level t → a ++ s ≡ b ++ t → (a ≡ b) × (s ≡ t)
span level [] [] s t h k i j e = (refl, e)
span level [] (y ∷ b) [] t h k i j e = absurd cc
span level [] (y ∷ b) (x ∷ s) t h k i j e = let first : x ≡ y = cc in let same = ap (λ l. l.0) first in absurd (omega (arith, k.0, i, same))
span level (x ∷ a) [] s [] h k i j e = absurd cc
span level (x ∷ a) [] s (y ∷ t) h k i j e = let first : x ≡ y = cc in let same = ap (λ l. l.0) first in absurd (omega (arith, h.0, j, same))
span level (x ∷ a) (y ∷ b) s t h k i j e =
    let r = span level a b s t h.1 k.1 i j (ap (drop 1) e) in
    let first : x ≡ y = cc in
    (λ z. first z ∷ r.0 z, r.1)

-- ---- the lines of lists

pub head_deep : (level : ℕ) (o : Option (List ℕ)) → AreDeep level (head_line level o)
head_deep level None = record {}
head_deep level (Some t) = (omega arith, record {})

heads_deep : (level : ℕ) (a b : Option (List ℕ)) → AreDeep level (head_line level a ++ head_line level b)
heads_deep level a b = deep_joined level (head_line level a) (head_line level b) (head_deep level a) (head_deep level b)

-- The lines of lists, computed in at most n steps, have their level.
abbrev AllDeep : ℕ → Type 0
AllDeep n = (level : ℕ) (listed : Listed) (bytes : List ℕ) → AreDeep level (lines_within n level listed bytes)

inside_deep : (n level : ℕ) (o : Option (Listed × List ℕ)) → AllDeep n → AreDeep level (lines_inside (λ l m b. lines_within n l m b) level o)
inside_deep n level None h = record {}
inside_deep n level (Some x) h = h level x.0 x.1

next_deep : (n level : ℕ) (listed : Listed) (bytes : List ℕ) (o : Option (Attribute × List ℕ)) → AllDeep n → AreDeep level (next_lines (λ l m b. lines_within n l m b) level listed bytes o)
next_deep n level listed bytes None h = record {}
next_deep n level listed bytes (Some x) h = (
  omega arith,
  deep_joined level (head_line (level + 1) (padding_words (part_padding listed x.0 bytes)) ++ head_line (level + 1) (part_head level listed x.0)) _
      (less_deep level _ (heads_deep (level + 1) (padding_words (part_padding listed x.0 bytes)) (part_head level listed x.0)))
      (deep_joined level (lines_inside (λ l m b. lines_within n l m b) (level + 1) (part_list level listed x.0)) _ (less_deep level _ (inside_deep n (level + 1) (part_list level listed x.0) h))
      (h level listed x.1)),
)

within_deep : (n : ℕ) → AllDeep n
unfolding lines_within
within_deep zero level listed bytes = record {}
within_deep (suc n) level listed bytes = next_deep n level listed bytes (first_part listed bytes) (within_deep n)

pub listed_deep : (level : ℕ) (listed : Listed) (bytes : List ℕ) → AreDeep level (listed_lines level listed bytes)
unfolding listed_lines
listed_deep level listed bytes = within_deep _ level listed bytes

option_deep : (level : ℕ) (o : Option (Listed × List ℕ)) → AreDeep level (inside_lines level o)
option_deep level None = record {}
option_deep level (Some x) = listed_deep level x.0 x.1

pub below_deep : (level : ℕ) (h : Option (List ℕ)) (o : Option (Listed × List ℕ)) → AreDeep level (head_line level h ++ inside_lines level o)
below_deep level h o = deep_joined level (head_line level h) (inside_lines level o) (head_deep level h) (option_deep level o)

-- ---- the text of lines

-- Each line's text has no newline, and doesn't begin with a space.
abbrev pub AreLines : List Line → Type 0
AreLines ls = AllByRecursion (λ l. IsLine l.1 × Starts l.1) ls

pub lines_joined_text : (a b : List Line) → lines_text (a ++ b) ≡ lines_text a ++ lines_text b
unfolding lines_text
lines_joined_text a b = flat_map-append line_text a b

no_space : (a r : List ℕ) → Starts a → a ≡ 32 ∷ r → ⊥
no_space [] r h e = absurd h
no_space (c ∷ a) r h e = let first : c ≡ 32 = cc in omega arith

spaces_determined : (i j : ℕ) (a b : List ℕ) → Starts a → Starts b → replicate i 32 ++ a ≡ replicate j 32 ++ b → (i ≡ j) × (a ≡ b)
spaces_determined zero zero a b h k e = (refl, e)
spaces_determined zero (suc j) a b h k e = absurd (no_space a (replicate j 32 ++ b) h e)
spaces_determined (suc i) zero a b h k e = absurd (no_space b (replicate i 32 ++ a) k (sym e))
spaces_determined (suc i) (suc j) a b h k e = let r = spaces_determined i j a b h k (ap (drop 1) e) in (ap suc r.0, r.1)

-- The indentation of a line and its text are determined.
pub indents_determined : (m n : ℕ) (a b : List ℕ) → Starts a → Starts b → indent m ++ a ≡ indent n ++ b → (m ≡ n) × (a ≡ b)
indents_determined m n a b h k e = let r = spaces_determined (2 * m) (2 * n) a b h k e in (omega (arith, r.0), r.1)

spaces_split : (i j : ℕ) → replicate {A = ℕ} (i + j) 32 ≡ replicate i 32 ++ replicate j 32
spaces_split zero j = ap (λ k. replicate k 32) {x = 0 + j} {y = j} (omega arith)
spaces_split (suc i) j = ap (λ k. replicate k 32) {x = suc i + j} {y = suc (i + j)} (omega arith) ∙ ap (λ z. 32 ∷ z) (spaces_split i j)

indent_split : (level n : ℕ) → level ≤ n → indent n ≡ indent level ++ replicate (2 * n - 2 * level) 32
indent_split level n h = ap (λ k. replicate k 32) {x = 2 * n} {y = 2 * level + (2 * n - 2 * level)} (omega (arith, h)) ∙ spaces_split (2 * level) (2 * n - 2 * level)

-- A line that is deep enough doesn't begin a shallow text.
pub not_shallow : (level n : ℕ) (s r : List ℕ) → level ≤ n → IsShallow level s → s ≡ indent n ++ r → ⊥
not_shallow level n s r h k e =
    k (replicate (2 * n - 2 * level) 32 ++ r) (e ∙ ap (λ z. z ++ r) (indent_split level n h) ∙ append_assoc (indent level) (replicate (2 * n - 2 * level) 32) r)

-- The text of a line and more lines, by parts.
pub line_parts : (l : Line) (a : List Line) (s : List ℕ) → lines_text (l ∷ a) ++ s ≡ indent l.0 ++ (l.1 ++ 10 ∷ (lines_text a ++ s))
unfolding lines_text
line_parts l a s =
    append_assoc (line_text l) (lines_text a) s ∙ append_assoc (indent l.0) (l.1 ++ 10 ∷ []) (lines_text a ++ s)
    ∙ ap (λ z. indent l.0 ++ z) (append_assoc l.1 (10 ∷ []) (lines_text a ++ s))

no_lines : (s : List ℕ) → lines_text [] ++ s ≡ s
unfolding lines_text
no_lines s = refl

-- The text of deep lines determines them, and what follows them.
pub texts_span : (level : ℕ) (a b : List Line) (s t : List ℕ) → AreDeep level a → AreDeep level b → AreLines a → AreLines b → IsShallow level s → IsShallow level t → lines_text a ++ s ≡ lines_text b ++ t → (a ≡ b) × (s ≡ t)
texts_span level [] [] s t h k i j u v e = (refl, sym (no_lines s) ∙ e ∙ no_lines t)
texts_span level [] (y ∷ b) s t h k i j u v e = absurd (not_shallow level y.0 s _ k.0 u (sym (no_lines s) ∙ e ∙ line_parts y b t))
texts_span level (x ∷ a) [] s t h k i j u v e = absurd (not_shallow level x.0 t _ h.0 v (sym (no_lines t) ∙ sym e ∙ line_parts x a s))
texts_span level (x ∷ a) (y ∷ b) s t h k i j u v e =
    let r = indents_determined x.0 y.0 (x.1 ++ 10 ∷ (lines_text a ++ s)) (y.1 ++ 10 ∷ (lines_text b ++ t)) (starts_joined x.1 _ i.0.1) (starts_joined y.1 _ j.0.1) (sym (line_parts x a s) ∙ e ∙ line_parts y b t) in
    let c = cut_line x.1 y.1 (lines_text a ++ s) (lines_text b ++ t) i.0.0 j.0.0 r.1 in
    let more = texts_span level a b s t h.1 k.1 i.1 j.1 u v c.1 in
    (λ z. (r.0 z, c.0 z) ∷ more.0 z, more.1)

-- ---- the text of heads, and of lists

pub head_is : (level : ℕ) (o : Option (List ℕ)) → lines_text (head_line level o) ≡ head_text level o
unfolding lines_text
head_is level None = refl
head_is level (Some t) = append-nil (line_text (level, t))

heads_are : (level : ℕ) (a b : Option (List ℕ)) → lines_text (head_line level a ++ head_line level b) ≡ head_text level a ++ head_text level b
heads_are level a b = lines_joined_text (head_line level a) (head_line level b) ∙ ap (λ z. z ++ lines_text (head_line level b)) (head_is level a) ∙ ap (λ z. head_text level a ++ z) (head_is level b)

-- The text of a part's lines.
pub part_is : (level : ℕ) (listed : Listed) (e : Attribute) (padding : Option (List ℕ)) → lines_text (part_lines level listed e padding) ≡ part_with_head level listed e padding
part_is level listed e padding =
    let own = padding_words padding in
    let head = part_head level listed e in
    sym (append-nil (lines_text (part_lines level listed e padding))) ∙ line_parts (level, part_text level listed e) (head_line (level + 1) own ++ head_line (level + 1) head) []
    ∙ ap (λ z. indent level ++ (part_text level listed e ++ 10 ∷ z)) (append-nil (lines_text (head_line (level + 1) own ++ head_line (level + 1) head)) ∙ heads_are (level + 1) own head)

-- The text of a head and of a list below it.
pub below_is_text : (level : ℕ) (o : Option (List ℕ)) (l : Option (Listed × List ℕ)) → lines_text (head_line level o ++ inside_lines level l) ≡ head_text level o ++ lines_text (inside_lines level l)
below_is_text level o l = lines_joined_text (head_line level o) (inside_lines level l) ∙ ap (λ z. z ++ lines_text (inside_lines level l)) (head_is level o)

pub no_text : lines_text [] ≡ []
unfolding lines_text
no_text = refl

pub first_line_text : (l : Line) (a : List Line) → lines_text (l ∷ a) ≡ line_text l ++ lines_text a
unfolding lines_text
first_line_text l a = refl

-- What follows a name, the line of a head, and the lines of a list.
pub held_text : (text : List ℕ) (level : ℕ) (o : Option (List ℕ)) (l : Option (Listed × List ℕ)) (a b : List ℕ) → a ≡ text ++ 10 ∷ head_text level o → b ≡ a ++ lines_text (inside_lines level l) →
    b ≡ text ++ 10 ∷ lines_text (head_line level o ++ inside_lines level l)
held_text text level o l a b h k =
    let head = head_text level o in
    let list = lines_text (inside_lines level l) in
    k ∙ ap (λ z. z ++ list) h ∙ append_assoc text (10 ∷ head) list ∙ ap (λ z. text ++ 10 ∷ z) (sym (below_is_text level o l))

-- Nothing is listed.
pub nothing_text : (a : List ℕ) (level : ℕ) (l : Option (Listed × List ℕ)) → l ≡ None → a ≡ a ++ lines_text (inside_lines level l)
nothing_text a level l h = sym (append-nil a) ∙ ap (λ z. a ++ z) (sym no_text) ∙ ap (λ o. a ++ lines_text (inside_lines level o)) (sym h)

-- A line, and the line of padding below it.
pub padded_line : (level : ℕ) (text padding : List ℕ) → line_text (level, text) ++ padding ≡ indent level ++ (text ++ 10 ∷ (padding ++ []))
padded_line level text padding =
    append_assoc (indent level) (text ++ 10 ∷ []) padding ∙ ap (λ z. indent level ++ z) (append_assoc text (10 ∷ []) padding)
    ∙ ap (λ z. indent level ++ (text ++ 10 ∷ z)) (sym (append-nil padding))
