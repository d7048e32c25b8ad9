-- When payloads of a shape are equivalent, as the code compares them.
use Rattle.std.proofs.Common.{◌≡◌, ℕ, zero, suc, ◌+◌, ◌-◌, ◌≤◌, ◌++◌, Bool, true, false, List, [], ◌∷◌, length, take, drop, map, min, refl, sym, ap, ◌∙◌, arith}
use Rattle.std.specs.Prelude.{◌==◌, ◌&&◌, ◌*◌, bytes_eq, not}
use mir.Val.{bool_byte}
use Rattle.std.proofs.Math.Bool.{beq, and_assoc, and-true}
use Rattle.std.proofs.lemmas.Bool.{ne_eqb, eq-eqb}
use Rattle.std.proofs.lemmas.Bool.Decides.{same_from_decides, nat_tests}
use Rattle.std.proofs.lemmas.List.{take-append-drop, length-drop, length-take, take_rest, take-replicate}
use Rattle.std.proofs.lemmas.Slice.Eq.{bytes_eq-Decides}
use Rattle.netlink_packet_core_grammar.specs.Attributes.{zeros}
use Rattle.netlink_packet_core_grammar.specs.Booleans.{boolean_of}
use Rattle.attribute_tables_grammar.specs.Shapes.{number, number_boolean}
use Rattle.link_interpreter.specs.Sameness.{mark_of}

-- ---- bytes that are zero or not

suc_not : (n : ℕ) → (suc n == 0) ≡ false
suc_not n = ne_eqb (suc n) 0 (λ h. absurd (omega arith))

same_boolean : (a b : ℕ) → (mark_of 0 a == mark_of 0 b) ≡ (boolean_of a == boolean_of b)
same_boolean zero zero = refl
same_boolean zero (suc b) = simp suc_not
same_boolean (suc a) zero = simp suc_not
same_boolean (suc a) (suc b) = simp suc_not

pub same_booleans : (p q : List ℕ) → bytes_eq (map (mark_of 0) p) (map (mark_of 0) q) ≡ bytes_eq (map boolean_of p) (map boolean_of q)
same_booleans [] [] = refl
same_booleans [] (b ∷ q) = refl
same_booleans (a ∷ p) [] = refl
same_booleans (a ∷ p) (b ∷ q) = λ i. same_boolean a b i && same_booleans p q i

-- ---- 4 bytes and a boolean

after_four : (p : List ℕ) → drop (length (take 4 p)) p ≡ drop 4 p
after_four [] = refl
after_four (a ∷ []) = refl
after_four (a ∷ b ∷ []) = refl
after_four (a ∷ b ∷ c ∷ []) = refl
after_four (a ∷ b ∷ c ∷ d ∷ p) = refl

-- the payload's first 4 bytes and the next 4, as the code cuts them
cut_boolean : (p a x : List ℕ) → a ≡ take 4 p → x ≡ take 4 (take (length p - length a) (drop (length a) p)) → x ≡ take 4 (drop 4 p)
cut_boolean p a x e h =
    h ∙ ap (λ a. take 4 (take (length p - length a) (drop (length a) p))) e
    ∙ ap (take 4) (take_rest p (length (take 4 p)) ∙ after_four p)

pub following_same : (a x y : List ℕ) → bytes_eq x y ≡ bytes_eq (a ++ x) (a ++ y)
following_same [] x y = refl
following_same (b ∷ a) x y = following_same a x y ∙ simp (eq-eqb b b refl)

booleans : (m n : ℕ) → beq (m == 0) (n == 0) ≡ bytes_eq (boolean_of m ∷ 0 ∷ 0 ∷ 0 ∷ []) (boolean_of n ∷ 0 ∷ 0 ∷ 0 ∷ [])
booleans zero zero = refl
booleans zero (suc n) = simp suc_not
booleans (suc m) zero = simp suc_not
booleans (suc m) (suc n) = simp suc_not

pub same_after : (p q : List ℕ) (r s : Bool) (a b x y : List ℕ) → a ≡ take 4 p → b ≡ take 4 q →
    x ≡ take 4 (take (length p - length a) (drop (length a) p)) → y ≡ take 4 (take (length q - length b) (drop (length b) q)) → a ≡ b → r ≡ (number x == 0) → s ≡ (number y == 0) →
    beq r s ≡ bytes_eq (take 4 p ++ number_boolean (take 4 (drop 4 p))) (take 4 q ++ number_boolean (take 4 (drop 4 q)))
same_after p q r s a b x y ea eb ex ey e z w =
    (λ i. beq (z i) (w i)) ∙ booleans (number x) (number y) ∙ following_same b (number_boolean x) (number_boolean y) ∙ ap (λ a. bytes_eq (a ++ number_boolean x) (b ++ number_boolean y)) (sym e)
    ∙ (λ i. bytes_eq (ea i ++ number_boolean (cut_boolean p a x ea ex i)) (eb i ++ number_boolean (cut_boolean q b y eb ey i)))

-- ---- cut or filled up to a size

pub number_zero : (xs : List ℕ) → number xs ≡ 0 → xs ≡ zeros (length xs)
number_zero [] h = refl
number_zero (b ∷ xs) h =
    let z : b ≡ 0 = omega (arith, h) in
    let n : number xs ≡ 0 = omega (arith, h) in
    λ i. z i ∷ number_zero xs n i

pub pad_in : (n k : ℕ) (p : List ℕ) → n ≤ k → take n (p ++ zeros k) ≡ take n p ++ zeros (n - length (take n p))
pad_in zero k p l = refl
pad_in (suc n) k [] l = let e : suc n ≡ suc n - 0 = omega arith in take-replicate (suc n) k 0 l ∙ ap zeros e
pad_in (suc n) k (x ∷ p) l = let e : n - length (take n p) ≡ suc n - suc (length (take n p)) = omega arith in ap (λ y. x ∷ y) (pad_in n k p (omega (arith, l))) ∙ ap (λ m. x ∷ take n p ++ zeros m) e

-- zeros, and bytes filled up with them
times : (k : ℕ) → (k == 0) ≡ (0 + 256 * k == 0)
times k = grind (arith, nat_tests)

filled : (i j : ℕ) (y : List ℕ) → i ≡ j + length y → bytes_eq (zeros i) (y ++ zeros j) ≡ (number y == 0)
filled i j [] e = let f : i ≡ j = omega arith in (bytes_eq-Decides _ _).1 (ap zeros f)
filled zero j (b ∷ y) e = absurd (omega arith)
filled (suc i) j (zero ∷ y) e = filled i j y (omega arith) ∙ times (number y)
filled (suc i) j (suc b ∷ y) e = ap (λ t. t && bytes_eq (zeros i) (y ++ zeros j)) (ne_eqb 0 (suc b) (λ h. absurd (omega arith))) ∙ sym (ne_eqb (number (suc b ∷ y)) 0 (λ h. absurd (omega arith)))

other_way : (x y : List ℕ) → bytes_eq x y ≡ bytes_eq y x
other_way x y = same_from_decides _ _ (bytes_eq-Decides x y) (let d = bytes_eq-Decides y x in (λ h. sym (d.0 h), λ h. d.1 (sym h)))

-- two payloads filled up to one size are equal if they are up to the shorter length, and the rest of the longer is zero
same_filled : (c i j : ℕ) (x y : List ℕ) → c ≡ min (length x) (length y) → i + length x ≡ j + length y →
    (bytes_eq (take c x) (take c y) && ((number (drop c x) == 0) && (number (drop c y) == 0))) ≡ bytes_eq (x ++ zeros i) (y ++ zeros j)
same_filled zero i j [] y h e = sym (filled i j y (omega arith))
same_filled zero i j (a ∷ x) [] h e = and-true _ ∙ sym (filled j i (a ∷ x) (omega arith)) ∙ other_way (zeros j) ((a ∷ x) ++ zeros i)
same_filled zero i j (a ∷ x) (b ∷ y) h e = absurd (omega arith)
same_filled (suc c) i j [] y h e = absurd (omega arith)
same_filled (suc c) i j (a ∷ x) [] h e = absurd (omega arith)
same_filled (suc c) i j (a ∷ x) (b ∷ y) h e = and_assoc (a == b) _ _ ∙ ap (λ t. (a == b) && t) (same_filled c i j x y (omega arith) (omega arith))

-- two payloads cut to n bytes, and the length that both have
module _ (n c : ℕ) (p q x y : List ℕ) (ex : x ≡ take n p) (ey : y ≡ take n q) (ec : c ≡ min (length x) (length y)) where
  abbrev equal : Bool
  equal = bytes_eq (take n (p ++ zeros n)) (take n (q ++ zeros n))

  abbrev is_rest_zero : List ℕ → Bool
  is_rest_zero x = number (take (length x - c) (drop c x)) == 0

  pad : (p x : List ℕ) → x ≡ take n p → take n (p ++ zeros n) ≡ x ++ zeros (n - length x)
  pad p x e = pad_in n n p (omega arith) ∙ ap (λ x. x ++ zeros (n - length x)) (sym e)

  decided : (bytes_eq (take c x) (take c y) && (is_rest_zero x && is_rest_zero y)) ≡ equal
  decided =
      (λ i. bytes_eq (take c x) (take c y) && ((number (take_rest x c i) == 0) && (number (take_rest y c i) == 0)))
      ∙ same_filled c _ _ x y ec (let a = ap length ex ∙ length-take n p in let b = ap length ey ∙ length-take n q in omega arith)
      ∙ (λ i. bytes_eq (sym (pad p x ex) i) (sym (pad q y ey) i))

  -- the common prefixes are equal, and the left rest decides
  pub by_rests : (b : Bool) → bytes_eq (take c x) (take c y) ≡ true → is_rest_zero x ≡ b → (b && is_rest_zero y) ≡ equal
  by_rests b t a = (λ i. sym t i && (sym a i && is_rest_zero y)) ∙ decided

  pub by_prefix : bytes_eq (take c x) (take c y) ≡ false → false ≡ equal
  by_prefix t = ap (λ b. b && (is_rest_zero x && is_rest_zero y)) (sym t) ∙ decided

-- a byte that is 1 if and only if a number isn't zero
pub boolean_byte : (n : ℕ) (b : Bool) → b ≡ (n == 0) → bool_byte (not b) ≡ boolean_of n
boolean_byte n b h = ap (λ b. bool_byte (not b)) h ∙ by n where
  by : (n : ℕ) → bool_byte (not (n == 0)) ≡ boolean_of n
  by zero = refl
  by (suc n) = ap (λ b. bool_byte (not b)) (suc_not n)

-- a record is already canonical if it has its size and zeros after the bytes that count
pub canonical_record : (m n : ℕ) (p : List ℕ) → length p ≡ n → number (drop m p) ≡ 0 → take m p ++ zeros (n - m) ≡ p
canonical_record m n p l z =
    let e : drop m p ≡ zeros (n - m) = number_zero (drop m p) z ∙ ap zeros (length-drop m p) ∙ ap (λ k. zeros (k - m)) l in
    ap (λ x. take m p ++ x) (sym e) ∙ take-append-drop m p
