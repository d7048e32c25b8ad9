-- Bytes are cut into attributes in one way only, and written attributes are cut into the same attributes.
use Rattle.std.proofs.Common.{◌≡◌, ℕ, zero, suc, ◌+◌, ◌-◌, ◌*◌, ◌/◌, ◌%◌, ◌≤◌, true, List, [], ◌∷◌, ◌++◌, length, take, drop, Option, Some, None, refl, sym, ap, subst, ◌∙◌, append_assoc, arith, length-append, length-drop}
use Rattle.std.specs.Prelude.{◌&&◌, nat_le, option_map}
use Rattle.std.proofs.lemmas.Bool.{and_parts, and_from, le-leb, leb-true}
use Rattle.std.proofs.lemmas.Option.{cond_some}
use Rattle.std.proofs.lemmas.List.{take_at, drop_at, length-replicate, take-append-le, drop-append-le, length-take-le}
use Rattle.std.specs.Option.{option_and_then}
use Rattle.netlink_packet_core_grammar.specs.Attributes.{nla_align, Attribute, attribute_length, zeros, attribute_text, list_text, attribute_of_size, first_attribute, IsAttributeList, attributes_within, attributes_of}

pub record IsCut (size kind : ℕ) (bytes : List ℕ) (e : Attribute) (rest : List ℕ) : Type 0 where
  pub small : 4 ≤ size
  pub large : size ≤ 4 + length bytes
  pub kind_is : kind ≡ e.kind
  pub payload_is : take (size - 4) bytes ≡ e.payload
  pub rest_is : drop (nla_align size - 4) bytes ≡ rest

pub cut_is : (size kind : ℕ) (bytes : List ℕ) (e : Attribute) (rest : List ℕ) → attribute_of_size size kind bytes ≡ Some (e, rest) → IsCut size kind bytes e rest
cut_is size kind bytes e rest h =
    let g = cond_some (nat_le 4 size && nat_le size (4 + length bytes)) (record { kind = kind; payload = take (size - 4) bytes }, drop (nla_align size - 4) bytes) (e, rest) h in
    let b = and_parts (nat_le 4 size) (nat_le size (4 + length bytes)) g.0 in
    record {
      small = leb-true _ _ b.0;
      large = leb-true _ _ b.1;
      kind_is = ap (λ (x : Attribute × List ℕ). x.0.kind) g.1;
      payload_is = ap (λ (x : Attribute × List ℕ). x.0.payload) g.1;
      rest_is = ap (λ (x : Attribute × List ℕ). x.1) g.1;
    }

pub cut_from : (size kind : ℕ) (bytes : List ℕ) (e : Attribute) (rest : List ℕ) → IsCut size kind bytes e rest → attribute_of_size size kind bytes ≡ Some (e, rest)
cut_from size kind bytes e rest f =
    let b : (nat_le 4 size && nat_le size (4 + length bytes)) ≡ true = and_from _ _ (le-leb _ _ f.small) (le-leb _ _ f.large) in
    rw (b, f.kind_is, f.payload_is, f.rest_is) refl

-- bytes that begin with an attribute have a header
pub record Headed (bytes : List ℕ) (e : Attribute) (rest : List ℕ) : Type 0 where
  pub a : ℕ
  pub b : ℕ
  pub c : ℕ
  pub d : ℕ
  pub tail : List ℕ
  pub is : bytes ≡ a ∷ b ∷ c ∷ d ∷ tail
  pub is_cut : IsCut (a + 256 * b) (c + 256 * d) tail e rest

pub headed : (bytes : List ℕ) (e : Attribute) (rest : List ℕ) → first_attribute bytes ≡ Some (e, rest) → Headed bytes e rest
unfolding first_attribute
headed (a ∷ b ∷ c ∷ d ∷ tail) e rest h = record { a = a; b = b; c = c; d = d; tail = tail; is = refl; is_cut = cut_is (a + 256 * b) (c + 256 * d) tail e rest h }
headed bytes e rest h = absurd cc

pub first_attribute_from : (a b c d : ℕ) (tail : List ℕ) (e : Attribute) (rest : List ℕ) → IsCut (a + 256 * b) (c + 256 * d) tail e rest → first_attribute (a ∷ b ∷ c ∷ d ∷ tail) ≡ Some (e, rest)
unfolding first_attribute
first_attribute_from a b c d tail e rest f = cut_from (a + 256 * b) (c + 256 * d) tail e rest f

-- ---- sizes

pub record Sized (bytes : List ℕ) (e : Attribute) (rest : List ℕ) : Type 0 where
  pub within : attribute_length e ≤ length bytes
  pub rest_length : length rest ≡ length bytes - nla_align (attribute_length e)

pub sized : (bytes : List ℕ) (e : Attribute) (rest : List ℕ) → first_attribute bytes ≡ Some (e, rest) → Sized bytes e rest
sized bytes e rest h =
    let k = headed bytes e rest h in
    let f = k.is_cut in
    let s = k.a + 256 * k.b in
    let lb : length bytes ≡ 4 + length k.tail = ap length k.is ∙ omega arith in
    let lp : length e.payload ≡ s - 4 = ap length (sym f.payload_is) ∙ length-take-le (s - 4) k.tail (omega (arith, f.large)) in
    let lr : length rest ≡ length k.tail - (nla_align s - 4) = ap length (sym f.rest_is) ∙ length-drop (nla_align s - 4) k.tail in
    let se : attribute_length e ≡ s = omega (arith, f.small, lp) in
    record {
      within = omega (arith, f.large, lb, se);
      rest_length = rw se (omega (arith, f.small, lb, lr));
    }

-- ---- written attributes are cut into the same attributes

pub first_attribute_text : (e : Attribute) (rest : List ℕ) → first_attribute (attribute_text e ++ rest) ≡ Some (e, rest)
unfolding attribute_text
first_attribute_text e rest =
    let s = attribute_length e in
    let z = zeros (nla_align s - s) in
    let body = (e.payload ++ z) ++ rest in
    let back_size : s % 256 + 256 * (s / 256) ≡ s = omega arith in
    let back_kind : e.kind % 256 + 256 * (e.kind / 256) ≡ e.kind = omega arith in
    let lz : length z ≡ nla_align s - s = length-replicate (nla_align s - s) 0 in
    let lpz : length (e.payload ++ z) ≡ nla_align s - 4 = omega (arith, length-append e.payload z, lz) in
    let f : IsCut s e.kind body e rest = record {
      small = omega arith;
      large = omega (arith, length-append (e.payload ++ z) rest, length-append e.payload z);
      kind_is = refl;
      payload_is = ap (take (s - 4)) (append_assoc e.payload z rest) ∙ take_at e.payload (z ++ rest) (s - 4) (omega arith);
      rest_is = drop_at (e.payload ++ z) rest (nla_align s - 4) lpz;
    } in
    let g : IsCut (s % 256 + 256 * (s / 256)) (e.kind % 256 + 256 * (e.kind / 256)) body e rest = rw (back_size, back_kind) f in
    first_attribute_from (s % 256) (s / 256) (e.kind % 256) (e.kind / 256) body e rest g

pub IsAttributeList-text : (es : List Attribute) → IsAttributeList (list_text es) es
unfolding list_text
IsAttributeList-text [] = refl
IsAttributeList-text (e ∷ es) = (list_text es, first_attribute_text e (list_text es), IsAttributeList-text es)

-- ---- only one way

abbrev pub got : {A : Type 0} → A → Option A
got x = Some x

pub got_is : {A : Type 0} (x y : A) → got x ≡ got y → x ≡ y
got_is x y e = cc

pub no_first_attribute : (bytes : List ℕ) (x : Attribute × List ℕ) → bytes ≡ [] → first_attribute bytes ≡ Some x → ⊥
unfolding first_attribute
no_first_attribute bytes x p h = let e : None ≡ got x = ap first_attribute (sym p) ∙ h in cc

pub one_cut : (bytes : List ℕ) (es fs : List Attribute) → IsAttributeList bytes es → IsAttributeList bytes fs → es ≡ fs
one_cut bytes [] [] p q = refl
one_cut bytes [] (f ∷ fs) p q = absurd (no_first_attribute bytes (f, q.0) p q.1)
one_cut bytes (e ∷ es) [] p q = absurd (no_first_attribute bytes (e, p.0) q p.1)
one_cut bytes (e ∷ es) (f ∷ fs) p q =
    let same : (e, p.0) ≡ (f, q.0) = got_is (e, p.0) (f, q.0) (sym p.1 ∙ q.1) in
    let e_is : e ≡ f = ap (λ (x : Attribute × List ℕ). x.0) same in
    let rest_is : q.0 ≡ p.0 = sym (ap (λ (x : Attribute × List ℕ). x.1) same) in
    let tails : es ≡ fs = one_cut p.0 es fs p.2 (subst (λ r. IsAttributeList r fs) rest_is q.2) in
    ap (λ x. x ∷ es) e_is ∙ ap (λ x. f ∷ x) tails

-- ---- the function and the relation

-- a step that didn't fail, and its value
pub option_and_then-got : {A B : Type 0} (o : Option A) (f : A → Option B) (y : B) → option_and_then f o ≡ Some y → (x : A) × (o ≡ Some x) × (f x ≡ Some y)
option_and_then-got None f y e = absurd cc
option_and_then-got (Some x) f y e = (x, refl, e)

pub option_map-got : {A B : Type 0} (f : A → B) (o : Option A) (y : B) → option_map f o ≡ Some y → (x : A) × (o ≡ Some x) × (f x ≡ y)
option_map-got f None y e = absurd cc
option_map-got f (Some x) y e = (x, refl, got_is (f x) y e)

within_cut : (n : ℕ) (bytes : List ℕ) (es : List Attribute) → attributes_within n bytes ≡ Some es → IsAttributeList bytes es
unfolding attributes_within
within_cut zero [] [] h = refl
within_cut (suc n) [] [] h = refl
within_cut zero [] (e ∷ es) h = absurd cc
within_cut (suc n) [] (e ∷ es) h = absurd cc
within_cut zero (b ∷ bytes) es h = absurd cc
within_cut (suc n) (b ∷ bytes) es h =
    let s = option_and_then-got (first_attribute (b ∷ bytes)) (λ x. option_map (λ es. x.0 ∷ es) (attributes_within n x.1)) es h in
    let t = option_map-got (λ fs. s.0.0 ∷ fs) (attributes_within n s.0.1) es s.2 in
    subst (λ gs. IsAttributeList (b ∷ bytes) gs) t.2 (s.0.1, s.1, within_cut n s.0.1 t.0 t.1)

cut_within : (n : ℕ) (bytes : List ℕ) (es : List Attribute) → length bytes ≤ n → IsAttributeList bytes es → attributes_within n bytes ≡ Some es
unfolding attributes_within first_attribute
cut_within zero [] [] le h = refl
cut_within (suc n) [] [] le h = refl
cut_within zero [] (e ∷ es) le h = absurd (no_first_attribute [] (e, h.0) refl h.1)
cut_within (suc n) [] (e ∷ es) le h = absurd (no_first_attribute [] (e, h.0) refl h.1)
cut_within zero (b ∷ bytes) es le h = absurd (omega arith)
cut_within (suc n) (b ∷ bytes) [] le h = absurd cc
cut_within (suc n) (b ∷ bytes) (e ∷ es) le h =
    let s = sized (b ∷ bytes) e h.0 h.1 in
    let shorter : length h.0 ≤ n = omega (arith, s.within, s.rest_length, le) in
    rw (h.1, cut_within n h.0 es shorter h.2) refl

pub attributes_cut : (bytes : List ℕ) (es : List Attribute) → attributes_of bytes ≡ Some es → IsAttributeList bytes es
attributes_cut bytes es h = within_cut (length bytes) bytes es h

pub cut_attributes : (bytes : List ℕ) (es : List Attribute) → IsAttributeList bytes es → attributes_of bytes ≡ Some es
cut_attributes bytes es h = cut_within (length bytes) bytes es (omega arith) h

pub attributes_of_text : (es : List Attribute) → attributes_of (list_text es) ≡ Some es
attributes_of_text es = cut_attributes (list_text es) es (IsAttributeList-text es)

-- ---- two lists joined

first_attribute_joined : (a b : List ℕ) (e : Attribute) (rest : List ℕ) → length a % 4 ≡ 0 → first_attribute a ≡ Some (e, rest) → (first_attribute (a ++ b) ≡ Some (e, rest ++ b)) × (length rest % 4 ≡ 0)
first_attribute_joined a b e rest four h =
    let k = headed a e rest h in
    let f = k.is_cut in
    let s = k.a + 256 * k.b in
    let la : length a ≡ 4 + length k.tail = ap length k.is ∙ omega arith in
    let le : nla_align s - 4 ≤ length k.tail = omega (arith, la, four, f.large, f.small) in
    let lab = length-append k.tail b in
    let g : IsCut s (k.c + 256 * k.d) (k.tail ++ b) e (rest ++ b) = record {
      small = f.small;
      large = omega (arith, f.large, lab);
      kind_is = f.kind_is;
      payload_is = take-append-le (s - 4) k.tail b (omega (arith, f.large)) ∙ f.payload_is;
      rest_is = drop-append-le (nla_align s - 4) k.tail b le ∙ ap (λ x. x ++ b) f.rest_is;
    } in
    let lr : length rest ≡ length k.tail - (nla_align s - 4) = ap length (sym f.rest_is) ∙ length-drop (nla_align s - 4) k.tail in
    (ap (λ x. first_attribute (x ++ b)) k.is ∙ first_attribute_from k.a k.b k.c k.d (k.tail ++ b) e (rest ++ b) g, omega (arith, lr, la, four, f.small))

pub IsAttributeList-joined : (a b : List ℕ) (es fs : List Attribute) → length a % 4 ≡ 0 → IsAttributeList a es → IsAttributeList b fs → IsAttributeList (a ++ b) (es ++ fs)
IsAttributeList-joined a b [] fs four p q = subst (λ x. IsAttributeList (x ++ b) fs) (sym p) q
IsAttributeList-joined a b (e ∷ es) fs four p q =
    let j = first_attribute_joined a b e p.0 four p.1 in
    (p.0 ++ b, j.0, IsAttributeList-joined p.0 b es fs j.1 p.2 q)

-- the bytes joined after a list are themselves cut into the attributes that follow
pub IsAttributeList-rest : (a b : List ℕ) (es gs : List Attribute) → length a % 4 ≡ 0 → IsAttributeList a es → IsAttributeList (a ++ b) gs → (fs : List Attribute) × (gs ≡ es ++ fs) × IsAttributeList b fs
IsAttributeList-rest a b [] gs four p q = (gs, refl, subst (λ x. IsAttributeList (x ++ b) gs) p q)
IsAttributeList-rest a b (e ∷ es) [] four p q =
    let j = first_attribute_joined a b e p.0 four p.1 in
    absurd (no_first_attribute (a ++ b) (e, p.0 ++ b) q j.0)
IsAttributeList-rest a b (e ∷ es) (g ∷ gs) four p q =
    let j = first_attribute_joined a b e p.0 four p.1 in
    let same : (g, q.0) ≡ (e, p.0 ++ b) = got_is (g, q.0) (e, p.0 ++ b) (sym q.1 ∙ j.0) in
    let g_is : g ≡ e = ap (λ (x : Attribute × List ℕ). x.0) same in
    let rest_is : q.0 ≡ p.0 ++ b = ap (λ (x : Attribute × List ℕ). x.1) same in
    let more = IsAttributeList-rest p.0 b es gs j.1 p.2 (subst (λ r. IsAttributeList r gs) rest_is q.2) in
    let is : g ∷ gs ≡ e ∷ (es ++ more.0) = ap (λ x. x ∷ gs) g_is ∙ ap (λ x. e ∷ x) more.1 in
    (more.0, is, more.2)
