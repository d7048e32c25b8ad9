-- The lines of headers determine them.
use Rattle.std.proofs.Common.{◌≡◌, ℕ, ◌+◌, ◌^◌, ◌<◌, ◌≤◌, Bool, true, false, cond, List, [], ◌∷◌, ◌++◌, length, take, drop, get_or, refl, sym, ap, subst, ◌∙◌, arith}
use Rattle.std.specs.Prelude.{◌==◌, ◌&&◌, nat_lt, ⊤, bytes_eq, codes, decimal, slice_index}
use Rattle.std.specs.Int.{w16, w32, from_le_bytes}
use Rattle.std.proofs.lemmas.Bool.{and_parts, cond_both, eqb-true, ltb-true}
use Rattle.std.proofs.lemmas.List.{append_cancel_left, length-drop, length-take, get_or-drop, drop-drop}
use Rattle.netlink_packet_core_grammar.specs.Bytes.{AreBytes}
use Rattle.netlink_packet_core_grammar.specs.Numbers.{u16_at, u32_at}
use Rattle.attribute_tables_grammar.specs.Shapes.{number}
use Rattle.link_lines_values.specs.Flags.{named_flags}
use Rattle.link_lines_values.specs.Names.{Text, text_in}
use Rattle.link_lines_values.specs.Laws.{Ends}
use Rattle.link_lines_values.specs.NumberTexts.{number_texts}
use Rattle.link_lines_raw.specs.Names.{is_word}
use Rattle.link_lines_texts.specs.Frames.{flag_names, header_line, message_types, numbers_text, or_number, request_line, type_text}
use Rattle.link_lines_texts.specs.Links.{labelled}
use Rattle.link_lines_texts.specs.Determination.{AreKnown, StartsFrame}
use Rattle.link_lines_texts.proofs.LineCuts.{IsWord, following, cut_word, message_label}
use Rattle.link_lines_values.proofs.NumbersDetermined.{Determines, decimal_determined, flags_determined, number_determined}
use Rattle.link_lines_values.proofs.Readings.{low_2, low_4}
use Rattle.link_lines_values.proofs.ValuesDetermined.{both_parts, bytes_at}
use Rattle.netlink_packet_core_grammar.proofs.Bytes.{AreBytes-drop, AreBytes-take}

-- ---- numbers with their labels

-- A number after its label is determined, and so are the rest of its line and what comes after it.
pub part_determined : (label : List ℕ) (text : ℕ → List ℕ) → Determines (2 ^ 64) text → (m n : ℕ) (x y s t : List ℕ) → m < 2 ^ 64 → n < 2 ^ 64 → Ends (x ++ s) → Ends (y ++ t) →
    (labelled label (text m) ++ x) ++ s ≡ (labelled label (text n) ++ y) ++ t → (m ≡ n) × (x ++ s ≡ y ++ t)
part_determined label text determined m n x y s t p q i j e =
    determined m n (x ++ s) (y ++ t) p q i j
    (append_cancel_left label _ _ (following label (text m) (x ++ s) label (text n) (y ++ t) (following (label ++ text m) x s (label ++ text n) y t e)))

-- ---- the names of types

-- The number that has a name.
abbrev named : List Text → List ℕ → ℕ
named [] name = 0
named (r ∷ rs) name = cond (bytes_eq r.1 name) r.0 (named rs name)

-- A name is empty, or is a word that doesn't begin as `type` does and determines its number among all.
abbrev is_name : List Text → ℕ → List ℕ → Bool
is_name all n [] = true
is_name all n (c ∷ name) = nat_lt c 97 && (is_word (c ∷ name) && (named all (c ∷ name) == n))

abbrev are_names : List Text → List Text → Bool
are_names all [] = true
are_names all (r ∷ rs) = is_name all r.0 r.1 && are_names all rs

record DeterminesNumber (all : List Text) (n : ℕ) (c : ℕ) (name : List ℕ) : Type 0 where
  no_type : c < 97
  word : IsWord (c ∷ name)
  number : named all (c ∷ name) ≡ n

abbrev IsName : List Text → ℕ → List ℕ → Type 0
IsName all n [] = ⊤
IsName all n (c ∷ name) = DeterminesNumber all n c name

is_a_name : (all : List Text) (n : ℕ) (name : List ℕ) → is_name all n name ≡ true → IsName all n name
is_a_name all n [] h = record {}
is_a_name all n (c ∷ name) h =
    let p = and_parts (nat_lt c 97) (is_word (c ∷ name) && (named all (c ∷ name) == n)) h in
    let q = and_parts (is_word (c ∷ name)) (named all (c ∷ name) == n) p.1 in
    record { no_type = ltb-true c 97 p.0; word = message_label (c ∷ name) q.0; number = eqb-true _ n q.1 }

text_is_name : (all rs : List Text) (n : ℕ) → are_names all rs ≡ true → IsName all n (text_in rs n)
text_is_name all [] n h = record {}
text_is_name all (r ∷ rs) n h =
    let p = and_parts (is_name all r.0 r.1) (are_names all rs) h in
    cond_both (n == r.0) r.1 (text_in rs n) (IsName all n)
    (λ e. subst (λ k. IsName all k r.1) (sym (eqb-true n r.0 e)) (is_a_name all r.0 r.1 p.0)) (λ e. text_is_name all rs n p.1)

type_names : are_names message_types message_types ≡ true
unfolding number_texts
type_names = refl

type_by : (all : List Text) (m n : ℕ) (x y s t : List ℕ) → IsName all m x → IsName all n y → m < 2 ^ 64 → n < 2 ^ 64 → Ends s → Ends t → or_number m x ++ s ≡ or_number n y ++ t → (m ≡ n) × (s ≡ t)
type_by all m n [] [] s t h k p q i j e = decimal_determined m n s t p q i j (ap (drop 5) e)
type_by all m n [] (c ∷ y) s t h k p q i j e = let first : 116 ≡ c = ap (λ l. get_or l 0 0) e in absurd (omega (arith, k.no_type))
type_by all m n (c ∷ x) [] s t h k p q i j e = let first : c ≡ 116 = ap (λ l. get_or l 0 0) e in absurd (omega (arith, h.no_type))
type_by all m n (c ∷ x) (b ∷ y) s t h k p q i j e =
    let r = cut_word (c ∷ x) (b ∷ y) s t h.word k.word i j e in
    (sym h.number ∙ ap (named all) r.0 ∙ k.number, r.1)

type_text_determined : Determines (2 ^ 64) type_text
unfolding type_text
type_text_determined m n s t =
    let all = message_types in
    type_by all m n (text_in all m) (text_in all n) s t (text_is_name all all m type_names) (text_is_name all all n type_names)

starts_by : (all : List Text) (n : ℕ) (x s : List ℕ) → IsName all n x → StartsFrame (or_number n x ++ s)
starts_by all n [] s h = omega arith
starts_by all n (c ∷ x) s h = h.word.0

pub type_starts : (n : ℕ) (s : List ℕ) → StartsFrame (type_text n ++ s)
unfolding type_text
type_starts n s = let all = message_types in starts_by all n (text_in all n) s (text_is_name all all n type_names)

-- ---- numbers at offsets of bytes

pub u16_small : (i : ℕ) (p : List ℕ) → AreBytes p → u16_at i p < 2 ^ 64
unfolding u16_at
u16_small i p a = omega (arith, bytes_at p a i, bytes_at p a (i + 1))

pub u32_small : (i : ℕ) (p : List ℕ) → AreBytes p → u32_at i p < 2 ^ 64
unfolding u32_at
u32_small i p a = omega (arith, bytes_at p a i, bytes_at p a (i + 1), bytes_at p a (i + 2), bytes_at p a (i + 3))

-- Bytes from an offset on are determined by the number at it and by the bytes after that.
further : (n i : ℕ) (p q : List ℕ) → AreBytes p → AreBytes q → i + n ≤ length p → i + n ≤ length q → number (take n (drop i p)) ≡ number (take n (drop i q)) → drop (i + n) p ≡ drop (i + n) q → drop i p ≡ drop i q
further n i p q a b l m e r =
    both_parts n (drop i p) (drop i q)
    (number_determined (take n (drop i p)) (take n (drop i q)) (AreBytes-take n (drop i p) (AreBytes-drop i p a)) (AreBytes-take n (drop i q) (AreBytes-drop i q b))
    (omega (arith, length-take n (drop i p), length-take n (drop i q), length-drop i p, length-drop i q)) e)
    (drop-drop n i p ∙ r ∙ sym (drop-drop n i q))

offset_after : (i k : ℕ) (p : List ℕ) → slice_index (drop i p) k ≡ slice_index p (i + k)
offset_after i k p = get_or-drop i p k 0

first_after : (i : ℕ) (p : List ℕ) → slice_index (drop i p) 0 ≡ slice_index p i
first_after i p = offset_after i 0 p ∙ ap (λ k. slice_index p k) {x = i + 0} {y = i} (omega arith)

u16_prefix : (p : List ℕ) → 2 ≤ length p → u16_at 0 p ≡ number (take 2 p)
unfolding u16_at
u16_prefix (a ∷ b ∷ p) h = low_2 a b
u16_prefix p h = absurd (omega arith)

u32_prefix : (p : List ℕ) → 4 ≤ length p → u32_at 0 p ≡ number (take 4 p)
unfolding u32_at
u32_prefix (a ∷ b ∷ c ∷ d ∷ p) h = low_4 a b c d
u32_prefix p h = absurd (omega arith)

u16_after : (i : ℕ) (p : List ℕ) → u16_at 0 (drop i p) ≡ u16_at i p
unfolding u16_at
u16_after i p = λ j. from_le_bytes w16 (first_after i p j ∷ offset_after i 1 p j ∷ [])

pub u32_after : (i : ℕ) (p : List ℕ) → u32_at 0 (drop i p) ≡ u32_at i p
unfolding u32_at
u32_after i p = λ j. from_le_bytes w32 (first_after i p j ∷ offset_after i 1 p j ∷ offset_after i 2 p j ∷ offset_after i 3 p j ∷ [])

u16_is : (i : ℕ) (p : List ℕ) → i + 2 ≤ length p → u16_at i p ≡ number (take 2 (drop i p))
u16_is i p h = sym (u16_after i p) ∙ u16_prefix (drop i p) (omega (arith, length-drop i p))

u32_is : (i : ℕ) (p : List ℕ) → i + 4 ≤ length p → u32_at i p ≡ number (take 4 (drop i p))
u32_is i p h = sym (u32_after i p) ∙ u32_prefix (drop i p) (omega (arith, length-drop i p))

pub two_further : (i : ℕ) (p q : List ℕ) → AreBytes p → AreBytes q → i + 2 ≤ length p → i + 2 ≤ length q → u16_at i p ≡ u16_at i q → drop (i + 2) p ≡ drop (i + 2) q → drop i p ≡ drop i q
two_further i p q a b l m e = further 2 i p q a b l m (sym (u16_is i p l) ∙ e ∙ u16_is i q m)

pub four_further : (i : ℕ) (p q : List ℕ) → AreBytes p → AreBytes q → i + 4 ≤ length p → i + 4 ≤ length q → u32_at i p ≡ u32_at i q → drop (i + 4) p ≡ drop (i + 4) q → drop i p ≡ drop i q
four_further i p q a b l m e = further 4 i p q a b l m (sym (u32_is i p l) ∙ e ∙ u32_is i q m)

-- ---- the header's line

abbrev number_part : Bool → List ℕ → List ℕ
number_part n f = numbers_text n f ++ 10 ∷ []

abbrev pub flags_part : Bool → List ℕ → List ℕ
flags_part n f = labelled (codes " flags ") (named_flags (flag_names (u16_at 4 f)) (u16_at 6 f)) ++ number_part n f

number_ends : (n : Bool) (f s : List ℕ) → Ends (number_part n f ++ s)
number_ends false f s = omega arith
number_ends true f s = omega arith

-- Both numbers are determined, or known.
numbers_determined : (n : Bool) (f g s t : List ℕ) → AreBytes f → AreBytes g → AreKnown n f → AreKnown n g → number_part n f ++ s ≡ number_part n g ++ t → (u32_at 8 f ≡ u32_at 8 g) × (u32_at 12 f ≡ u32_at 12 g) × (s ≡ t)
numbers_determined false f g s t a b h k e = (h.sequence ∙ sym k.sequence, h.port ∙ sym k.port, ap (drop 1) e)
numbers_determined true f g s t a b h k e =
    let port : List ℕ → List ℕ = λ f. labelled (codes " port ") (decimal (u32_at 12 f)) in
    let q = part_determined (codes " seq ") decimal decimal_determined _ _ (port f) (port g) (10 ∷ s) (10 ∷ t) (u32_small 8 f a) (u32_small 8 g b) (omega arith) (omega arith)
    (following (numbers_text true f) (10 ∷ []) s (numbers_text true g) (10 ∷ []) t e) in
    let p = decimal_determined _ _ (10 ∷ s) (10 ∷ t) (u32_small 12 f a) (u32_small 12 g b) (omega arith) (omega arith) (ap (drop 6) q.1) in
    (q.0, p.0, ap (drop 1) p.1)

-- Two headers with the same line, and what follows it.
pub record SameHeader (f g s t : List ℕ) : Type 0 where
  pub type : u16_at 4 f ≡ u16_at 4 g
  pub flags : u16_at 6 f ≡ u16_at 6 g
  pub bytes : drop 16 f ≡ drop 16 g → drop 4 f ≡ drop 4 g
  pub rest : s ≡ t

pub header_determined : (n : Bool) (f g s t : List ℕ) → AreBytes f → AreBytes g → 16 ≤ length f → 16 ≤ length g → AreKnown n f → AreKnown n g →
    header_line n f ++ s ≡ header_line n g ++ t → SameHeader f g s t
unfolding header_line
header_determined n f g s t a b l m i j e =
    let k = type_text_determined _ _ (flags_part n f ++ s) (flags_part n g ++ t) (u16_small 4 f a) (u16_small 4 g b) (omega arith) (omega arith)
    (following (type_text (u16_at 4 f)) (flags_part n f) s (type_text (u16_at 4 g)) (flags_part n g) t e) in
    let names = flag_names (u16_at 4 f) in
    let alike = k.1 ∙ ap (λ k. (labelled (codes " flags ") (named_flags (flag_names k) (u16_at 6 g)) ++ number_part n g) ++ t) (sym k.0) in
    let x = part_determined (codes " flags ") (named_flags names) (flags_determined names) _ _ (number_part n f) (number_part n g) s t (u16_small 6 f a) (u16_small 6 g b) (number_ends n f s) (number_ends n g t) alike in
    let r = numbers_determined n f g s t a b i j x.1 in
    record {
      type = k.0;
      flags = x.0;
      bytes = λ z. two_further 4 f g a b (omega arith) (omega arith) k.0 (two_further 6 f g a b (omega arith) (omega arith) x.0
          (four_further 8 f g a b (omega arith) (omega arith) r.0 (four_further 12 f g a b (omega arith) (omega arith) r.1 z)));
      rest = r.2;
    }

-- Two requests with the same line of the header, and what follows it.
pub record SameRequest (p q s t : List ℕ) : Type 0 where
  pub size : u32_at 0 p ≡ u32_at 0 q
  pub bytes : drop 16 p ≡ drop 16 q → p ≡ q
  pub rest : s ≡ t

-- The line of the header of a request, which an NLMSG_ERROR repeats, determines it.
pub request_determined : (n : Bool) (p q s t : List ℕ) → AreBytes p → AreBytes q → 16 ≤ length p → 16 ≤ length q → AreKnown n p → AreKnown n q →
    request_line n p ++ s ≡ request_line n q ++ t → SameRequest p q s t
unfolding request_line
request_determined n p q s t a b l m i j e =
    let size = part_determined (codes "  request length ") decimal decimal_determined _ _ (32 ∷ header_line n p) (32 ∷ header_line n q) s t (u32_small 0 p a) (u32_small 0 q b) (omega arith) (omega arith) e in
    let same = header_determined n p q s t a b l m i j (ap (drop 1) size.1) in
    record { size = size.0; bytes = λ r. four_further 0 p q a b (omega arith) (omega arith) size.0 (same.bytes r); rest = same.rest }
