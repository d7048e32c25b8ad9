-- Each shape is a lawful rule.
use Rattle.std.proofs.Common.{◌≡◌, ℕ, zero, suc, ◌+◌, ◌-◌, ◌*◌, ◌<◌, ◌≤◌, true, eqb, List, [], ◌∷◌, ◌++◌, length, take, drop, map, refl, sym, ap, ◌∙◌, arith, length-append}
use Rattle.std.specs.Prelude.{nat_le}
use Rattle.std.specs.Str.{is_utf8}
use Rattle.std.proofs.lemmas.Bool.{and_parts, le-leb, leb-true}
use Rattle.std.proofs.lemmas.List.{take_at, drop_at, length-replicate, length-take-le, length-map}
use Rattle.std.proofs.lemmas.Slice.Eq.{bytes_eq-Decides}
use Rattle.netlink_packet_core_grammar.specs.Attributes.{nla_align, zeros}
use Rattle.netlink_packet_core_grammar.specs.Texts.{without_nul}
use Rattle.netlink_packet_core_grammar.specs.Booleans.{boolean_of, is_one}
use Rattle.netlink_packet_core_grammar.specs.Bytes.{AreBytes}
use Rattle.netlink_packet_core_grammar.proofs.Texts.{without_nul-end, without_nul-length, without_nul-bytes}
use Rattle.netlink_packet_core_grammar.proofs.Bytes.{AreBytes-append, AreBytes-take, AreBytes-zeros, AreBytes-map}
use Rattle.attribute_tables_grammar.specs.Shapes.{Shape, boolean_if_nonzero, boolean_if_one, boolean_of_four, presence, text, raw, fixed_record, id_and_boolean, resized, number, number_boolean, accepts, meaning, encoding, shape_bounded}
use Rattle.attribute_tables_grammar.specs.Rules.{Lawful, shape_rule}

boolean_idempotent : (n : ℕ) → boolean_of (boolean_of n) ≡ boolean_of n
boolean_idempotent zero = refl
boolean_idempotent (suc n) = refl

booleans_idempotent : (p : List ℕ) → map boolean_of (map boolean_of p) ≡ map boolean_of p
booleans_idempotent [] = refl
booleans_idempotent (b ∷ p) = ap (λ x. x ∷ map boolean_of (map boolean_of p)) (boolean_idempotent b) ∙ ap (λ x. boolean_of b ∷ x) (booleans_idempotent p)

boolean_small : (n : ℕ) → boolean_of n < 256
boolean_small zero = omega arith
boolean_small (suc n) = omega arith

one_read_back : (n : ℕ) → is_one (is_one n) ≡ is_one n
one_read_back zero = refl
one_read_back (suc zero) = refl
one_read_back (suc (suc n)) = refl

of_kind_one_canonical : (p : List ℕ) → map is_one (map is_one p) ≡ map is_one p
of_kind_one_canonical [] = refl
of_kind_one_canonical (b ∷ p) = ap (λ x. x ∷ map is_one (map is_one p)) (one_read_back b) ∙ ap (λ x. is_one b ∷ x) (of_kind_one_canonical p)

one_small : (n : ℕ) → is_one n < 256
one_small zero = omega arith
one_small (suc zero) = omega arith
one_small (suc (suc n)) = omega arith

four_idempotent : (n : ℕ) → boolean_of (number (boolean_of n ∷ 0 ∷ 0 ∷ 0 ∷ [])) ≡ boolean_of n
four_idempotent zero = refl
four_idempotent (suc n) = refl

number_boolean_idempotent : (p : List ℕ) → number_boolean (number_boolean p) ≡ number_boolean p
number_boolean_idempotent p = ap (λ x. x ∷ 0 ∷ 0 ∷ 0 ∷ []) (four_idempotent (number p))

number_boolean_small : (p : List ℕ) → AreBytes (number_boolean p)
number_boolean_small p = (boolean_small (number p), (omega arith, (omega arith, (omega arith, tt))))

abbrev encoded : Shape → List ℕ → List ℕ
encoded s p = encoding s (meaning s p)

id_and_boolean_first : (p : List ℕ) → nat_le 8 (length p) ≡ true → length (take 4 p) ≡ 4
id_and_boolean_first p a = length-take-le 4 p (omega (arith, leb-true 8 (length p) a))

id_and_boolean_rest : (p : List ℕ) → nat_le 8 (length p) ≡ true → meaning id_and_boolean (meaning id_and_boolean p) ≡ meaning id_and_boolean p
id_and_boolean_rest p a =
    let v = number_boolean (take 4 (drop 4 p)) in
    let l = id_and_boolean_first p a in
    let t : take 4 (take 4 p ++ v) ≡ take 4 p = take_at (take 4 p) v 4 l in
    let d : drop 4 (take 4 p ++ v) ≡ v = drop_at (take 4 p) v 4 l in
    let w : number_boolean (take 4 (drop 4 (take 4 p ++ v))) ≡ v = ap (λ x. number_boolean (take 4 x)) d ∙ number_boolean_idempotent (take 4 (drop 4 p)) in
    ap (λ x. x ++ number_boolean (take 4 (drop 4 (take 4 p ++ v)))) t ∙ ap (λ x. take 4 p ++ x) w

resized_length : (n : ℕ) (p : List ℕ) → length (take n (p ++ zeros n)) ≡ n
resized_length n p = length-take-le n (p ++ zeros n) (omega (arith, length-append p (zeros n), length-replicate {A = ℕ} n 0))

pub back : (s : Shape) (p : List ℕ) → accepts s p ≡ true → meaning s (encoded s p) ≡ meaning s p
back boolean_if_nonzero p a = booleans_idempotent p
back boolean_if_one p a = of_kind_one_canonical p
back boolean_of_four p a = number_boolean_idempotent p
back text p a = without_nul-end (without_nul p)
back (fixed_record m n) p a = take_at (take m p) (zeros (n - m)) m (length-take-le m p (leb-true m (length p) a))
back id_and_boolean p a = id_and_boolean_rest p a
back (resized n) p a = take_at (take n (p ++ zeros n)) (zeros n) n (resized_length n p)
back s p a = refl

good : (s : Shape) (p : List ℕ) → accepts s p ≡ true → accepts s (encoded s p) ≡ true
good boolean_if_nonzero p a = ap (λ x. eqb x 1) (length-map p boolean_of) ∙ a
good boolean_if_one p a = ap (λ x. eqb x 1) (length-map p is_one) ∙ a
good boolean_of_four p a = refl
good presence p a = refl
good text p a = ap is_utf8 (without_nul-end (without_nul p)) ∙ a
good raw p a = refl
good (fixed_record m n) p a = le-leb m (length (encoded (fixed_record m n) p)) (omega (arith, length-append (take m p) (zeros (n - m)), length-take-le m p (leb-true m (length p) a)))
good id_and_boolean p a = le-leb 8 (length (meaning id_and_boolean p)) (omega (arith, length-append (take 4 p) (number_boolean (take 4 (drop 4 p))), id_and_boolean_first p a))
good (resized n) p a = refl
good s p a = a

up_next : (a b : ℕ) → a ≤ b + 4 → nla_align (4 + a) ≤ 77 * (4 + b)
up_next a b h = omega arith

bound : (s : Shape) (p : List ℕ) → shape_bounded s ≡ true → accepts s p ≡ true → nla_align (4 + length (encoded s p)) ≤ 77 * (4 + length p)
bound boolean_if_nonzero p m a = up_next _ (length p) (omega (arith, length-map p boolean_of))
bound boolean_if_one p m a = up_next _ (length p) (omega (arith, length-map p is_one))
bound boolean_of_four p m a = up_next 4 (length p) (omega arith)
bound presence p m a = up_next 0 (length p) (omega arith)
bound text p m a = up_next _ (length p) (omega (arith, length-append (without_nul p) (0 ∷ []), without_nul-length p))
bound (fixed_record k n) p m a =
    let b = and_parts (nat_le k n) (nat_le (nla_align (4 + n)) (77 * (4 + k))) m in
    let kn = leb-true k n b.0 in
    let small = leb-true (nla_align (4 + n)) (77 * (4 + k)) b.1 in
    let kp = leb-true k (length p) a in
    let l : length (take k p ++ zeros (n - k)) ≡ n = omega (arith, length-append (take k p) (zeros (n - k)), length-take-le k p kp, length-replicate {A = ℕ} (n - k) 0) in
    rw l (omega arith)
bound id_and_boolean p m a = up_next _ (length p) (omega (arith, length-append (take 4 p) (number_boolean (take 4 (drop 4 p))), id_and_boolean_first p a, leb-true 8 (length p) a))
bound (resized n) p m a =
    let small = leb-true (nla_align (4 + n)) 308 m in
    rw (resized_length n p) (omega arith)
bound s p m a = up_next (length p) (length p) (omega arith)

bytes : (s : Shape) (p : List ℕ) → AreBytes p → AreBytes (encoded s p)
bytes boolean_if_nonzero p h = AreBytes-map boolean_of boolean_small p
bytes boolean_if_one p h = AreBytes-map is_one one_small p
bytes boolean_of_four p h = number_boolean_small p
bytes presence p h = tt
bytes text p h = AreBytes-append (without_nul p) (0 ∷ []) (without_nul-bytes p h) (omega arith, tt)
bytes (fixed_record k n) p h = AreBytes-append (take k p) (zeros (n - k)) (AreBytes-take k p h) (AreBytes-zeros (n - k))
bytes id_and_boolean p h = AreBytes-append (take 4 p) (number_boolean (take 4 (drop 4 p))) (AreBytes-take 4 p h) (number_boolean_small (take 4 (drop 4 p)))
bytes (resized n) p h = AreBytes-take n (p ++ zeros n) (AreBytes-append p (zeros n) h (AreBytes-zeros n))
bytes s p h = h

pub shape_lawful : (s : Shape) → shape_bounded s ≡ true → Lawful (shape_rule s)
shape_lawful s m = record {
  canonical_accepted = λ p a e. (good s p a, refl);
  canonical_fits = λ p a f. refl;
  canonical_idempotent = λ p a. ap (encoding s) (back s p a);
  same_implies_equal_text = λ p q a b same. ap (encoding s) ((bytes_eq-Decides (meaning s p) (meaning s q)).0 same);
  equal_text_implies_same = λ p q a b e. (bytes_eq-Decides (meaning s p) (meaning s q)).1 (sym (back s p a) ∙ ap (meaning s) e ∙ back s q b);
  bounded = λ p a. bound s p m a;
  counted = λ p a. omega arith;
  bytes = λ p a f h. bytes s p h;
}
