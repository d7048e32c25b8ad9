-- Canonical headers, and the comparison of two headers.
use Rattle.std.proofs.Common.{◌≡◌, ℕ, ◌+◌, ◌-◌, ◌*◌, ◌/◌, ◌%◌, ◌<◌, ◌≤◌, min, true, false, cond, List, [], ◌∷◌, ◌++◌, length, take, drop, refl, sym, ap, ◌∙◌, arith}
use Rattle.std.specs.Prelude.{bytes_eq, slice_index}
use Rattle.std.proofs.lemmas.Bool.{false_from_ne_true}
use Rattle.std.proofs.lemmas.List.{take_min}
use Rattle.std.proofs.lemmas.Slice.Eq.{bytes_eq-Decides}
use Rattle.link_interpreter.proofs.SameShapes.{following_same}
use Rattle.link_message_grammar.specs.Body.{header_text, has_layer_type_name, layer_type_text}

pub canonical_header : (b : List ℕ) → 16 ≤ length b → slice_index b 1 ≡ 0 → has_layer_type_name (slice_index b 2 + 256 * slice_index b 3) ≡ true → header_text b ≡ take 16 b
canonical_header (f ∷ x ∷ k ∷ l ∷ tail) long z h =
    ap (λ v. f ∷ 0 ∷ (cond v (k ∷ l ∷ []) (255 ∷ 255 ∷ []) ++ take 12 tail)) h ∙ ap (λ n. f ∷ n ∷ k ∷ l ∷ take 12 tail) (sym z)
canonical_header b long z h = absurd (omega arith)

-- The layer type that is written, in two bytes.
pub named_layer : (a b : ℕ) → a < 256 → has_layer_type_name (a + 256 * b) ≡ true → (a + 256 * b) % 256 ∷ (a + 256 * b) / 256 ∷ [] ≡ layer_type_text a b
named_layer a b l h =
    let m : (a + 256 * b) % 256 ≡ a = omega (arith, l) in
    let d : (a + 256 * b) / 256 ≡ b = omega (arith, l) in
    (λ i. m i ∷ d i ∷ []) ∙ ap (λ v. cond v (a ∷ b ∷ []) (255 ∷ 255 ∷ [])) (sym h)

pub void_layer : (a b : ℕ) → has_layer_type_name (a + 256 * b) ≡ false → 255 ∷ 255 ∷ [] ≡ layer_type_text a b
void_layer a b h = ap (λ v. cond v (a ∷ b ∷ []) (255 ∷ 255 ∷ [])) (sym h)

-- ---- two headers, each of which may be cut short after its layer type

abbrev fields : ℕ → ℕ → List ℕ → List ℕ
fields family layer rest = family ∷ 0 ∷ layer % 256 ∷ layer / 256 ∷ rest

-- A header's text by what the code compares: its family, the number of its layer type, and its bytes from there up to
-- an end.
pub by_fields : (b : List ℕ) (end layer : ℕ) → 4 ≤ length b → end ≡ min (length b) 16 → layer % 256 ∷ layer / 256 ∷ [] ≡ layer_type_text (slice_index b 2) (slice_index b 3) →
    header_text b ≡ fields (slice_index b 0) layer (take (end - 4) (drop 4 b))
by_fields (f ∷ x ∷ k ∷ l ∷ tail) end layer long e t =
    let n : min 12 (length tail) ≡ end - 4 = omega (arith, e) in
    ap (λ (z : List ℕ). f ∷ 0 ∷ (z ++ take 12 tail)) (sym t) ∙ ap (fields f layer) (sym (take_min 12 tail) ∙ ap (λ n. take n tail) n)
by_fields b end layer long e t = absurd (omega arith)

first_byte : (b : List ℕ) → 4 ≤ length b → slice_index (header_text b) 0 ≡ slice_index b 0
first_byte (f ∷ x ∷ k ∷ l ∷ tail) long = refl
first_byte b long = absurd (omega arith)

module _ (a b : List ℕ) where
  equal : bytes_eq (header_text a) (header_text b) ≡ true → header_text a ≡ header_text b
  equal = (bytes_eq-Decides (header_text a) (header_text b)).0

  pub families_differ : 4 ≤ length a → 4 ≤ length b → (slice_index a 0 ≡ slice_index b 0 → ⊥) → false ≡ bytes_eq (header_text a) (header_text b)
  families_differ l m other = sym (false_from_ne_true _ (λ h. other (sym (first_byte a l) ∙ ap (λ z. slice_index z 0) (equal h) ∙ first_byte b m)))

  module _ (f g k l : ℕ) (x y : List ℕ) (left : header_text a ≡ fields f k x) (right : header_text b ≡ fields g l y) where
    pub layers_differ : (k ≡ l → ⊥) → false ≡ bytes_eq (header_text a) (header_text b)
    layers_differ other = sym (false_from_ne_true _ (λ h.
        let e : fields f k x ≡ fields g l y = sym left ∙ equal h ∙ right in
        let low : k % 256 ≡ l % 256 = ap (λ z. slice_index z 2) e in
        let high : k / 256 ≡ l / 256 = ap (λ z. slice_index z 3) e in
        other (omega arith)))

    pub rest_determines : f ≡ g → k ≡ l → bytes_eq x y ≡ bytes_eq (header_text a) (header_text b)
    rest_determines e h =
        following_same (fields f k []) x y
        ∙ (λ i. bytes_eq (fields f k x) (fields (e i) (h i) y))
        ∙ (λ i. bytes_eq (sym left i) (sym right i))
