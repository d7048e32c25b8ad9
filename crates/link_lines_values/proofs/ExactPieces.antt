-- The texts of pieces of equal size determine them.
use Rattle.std.proofs.Common.{◌≡◌, ℕ, zero, suc, ◌+◌, ◌*◌, ◌/◌, ◌%◌, ◌^◌, ◌<◌, true, List, [], ◌∷◌, ◌++◌, length, take, drop, refl, sym, ap, subst, ◌∙◌, arith}
use Rattle.std.specs.Prelude.{◌==◌, codes, cond}
use Rattle.std.specs.Fmt.{decimal}
use Rattle.std.proofs.lemmas.List.{length-take, length-drop}
use Rattle.netlink_packet_core_grammar.specs.Bytes.{AreBytes}
use Rattle.netlink_packet_core_grammar.proofs.Bytes.{AreBytes-drop, AreBytes-take}
use Rattle.attribute_tables_grammar.specs.Shapes.{number}
use Rattle.link_lines_values.specs.Bytes.{bytes_text, hex_text}
use Rattle.link_lines_values.specs.Digits.{big_endian, is_number}
use Rattle.link_lines_values.specs.Exact.{label_after, label_text, label_value, pieces_text}
use Rattle.link_lines_values.specs.Laws.{Ends}
use Rattle.link_lines_values.specs.Names.{named_number}
use Rattle.link_lines_values.specs.Records.{is_size}
use Rattle.link_lines_values.specs.Values.{number_value}
use Rattle.link_lines_values.proofs.NumbersDetermined.{bounded, decimal_determined, following, highest_first, lowest_first, named_determined, number_and_rest, reversed_bytes, sized}
use Rattle.link_lines_values.proofs.ValuesDetermined.{both_parts}
use Rattle.std.proofs.lemmas.List.{length-reverse}

-- The text of a piece begins with a space, and determines the piece and what follows its text.
pub record Separates (f : List ℕ → List ℕ) (n : ℕ) : Type 0 where
  pub first : (p : List ℕ) → length p ≡ n → (r : List ℕ) × (f p ≡ 32 ∷ r)
  pub determined : (p q s t : List ℕ) → length p ≡ n → length q ≡ n → AreBytes p → AreBytes q → Ends s → Ends t →
      f p ++ s ≡ f q ++ t → (p ≡ q) × (s ≡ t)

empty_is : (p : List ℕ) → length p ≡ 0 → p ≡ []
empty_is [] h = refl
empty_is (b ∷ p) h = absurd (omega arith)

next_size : (m k n : ℕ) → m ≡ suc k * n → m ≡ n + k * n
next_size m k n h = omega (arith, h)

module _ (f : List ℕ → List ℕ) (n : ℕ) (separates : Separates f n) where
  whole_piece : (k : ℕ) (p : List ℕ) → length p ≡ n + k → length (take n p) ≡ n
  whole_piece k p l = omega (arith, length-take n p)

  more_pieces : (k : ℕ) (p : List ℕ) → length p ≡ n + k → length (drop n p) ≡ k
  more_pieces k p l = omega (arith, length-drop n p)

  begun : (a b : List ℕ) → (r : List ℕ) × (a ≡ 32 ∷ r) → Ends (a ++ b)
  begun a b r = subst (λ z. Ends (z ++ b)) (sym r.1) (omega arith)

  not_empty : (a b : List ℕ) → (r : List ℕ) × (a ≡ 32 ∷ r) → [] ≡ a ++ b → ⊥
  not_empty a b r e = let z : [] ≡ 32 ∷ (r.0 ++ b) = e ∙ ap (λ x. x ++ b) r.1 in absurd cc

  pub pieces_end : (k : ℕ) (p : List ℕ) → length p ≡ k * n → Ends (pieces_text f n k p)
  pieces_end zero p l = record {}
  pieces_end (suc k) p l = begun (f (take n p)) _ (separates.first (take n p) (whole_piece (k * n) p (next_size (length p) k n l)))

  pub pieces_determined : (j k : ℕ) (p q : List ℕ) → length p ≡ j * n → length q ≡ k * n → AreBytes p → AreBytes q → pieces_text f n j p ≡ pieces_text f n k q → p ≡ q
  pieces_determined zero zero p q i l a b e = empty_is p (omega arith) ∙ sym (empty_is q (omega arith))
  pieces_determined zero (suc k) p q i l a b e = absurd (not_empty (f (take n q)) _ (separates.first (take n q) (whole_piece (k * n) q (next_size (length q) k n l))) e)
  pieces_determined (suc j) zero p q i l a b e = absurd (not_empty (f (take n p)) _ (separates.first (take n p) (whole_piece (j * n) p (next_size (length p) j n i))) (sym e))
  pieces_determined (suc j) (suc k) p q i l a b e =
      let size = next_size (length p) j n i in
      let other = next_size (length q) k n l in
      let more = more_pieces (j * n) p size in
      let others = more_pieces (k * n) q other in
      let first = separates.determined (take n p) (take n q) (pieces_text f n j (drop n p)) (pieces_text f n k (drop n q)) (whole_piece (j * n) p size) (whole_piece (k * n) q other)
      (AreBytes-take n p a) (AreBytes-take n q b) (pieces_end j (drop n p) more) (pieces_end k (drop n q) others) e in
      both_parts n p q first.0 (pieces_determined j k (drop n p) (drop n q) more others (AreBytes-drop n p a) (AreBytes-drop n q b) first.1)

-- ---- numbers

abbrev shown : List ℕ → List ℕ
shown p = 32 ∷ named_number [] (number p)

pub number_shown : (p : List ℕ) → is_number p ≡ true → number_value [] p ≡ shown p
number_shown p h = ap (λ t. cond t (shown p) (bytes_text p)) h

number_separate : (n : ℕ) → is_size n ≡ true → (p q s t : List ℕ) → length p ≡ n → length q ≡ n → AreBytes p → AreBytes q → Ends s → Ends t →
    number_value [] p ++ s ≡ number_value [] q ++ t → (p ≡ q) × (s ≡ t)
number_separate n h p q s t i j a b k l e =
    let x = number_shown p (ap is_size i ∙ h) in
    let y = number_shown q (ap is_size j ∙ h) in
    let same : shown p ++ s ≡ shown q ++ t = ap (λ z. z ++ s) (sym x) ∙ e ∙ ap (λ z. z ++ t) y in
    number_and_rest number lowest_first (named_number []) (named_determined []) p q s t a b (omega (arith, sized n h)) (i ∙ sym j) k l (ap (drop 1) same)

pub numbers_separate : (n : ℕ) → is_size n ≡ true → Separates (number_value []) n
numbers_separate n h = record {
  first = λ p i. (named_number [] (number p), number_shown p (ap is_size i ∙ h));
  determined = number_separate n h;
}

-- ---- labels

part : (m n : ℕ) (x s y t : List ℕ) → m < 2 ^ 64 → n < 2 ^ 64 → Ends (x ++ s) → Ends (y ++ t) → (decimal m ++ x) ++ s ≡ (decimal n ++ y) ++ t → (m ≡ n) × (x ++ s ≡ y ++ t)
part m n x s y t p q k l e = decimal_determined m n (x ++ s) (y ++ t) p q k l (following (decimal m) x s (decimal n) y t e)

abbrev lifetime : ℕ → List ℕ
lifetime n = codes " ttl " ++ decimal (n % 256)

abbrev bottom : ℕ → List ℕ
bottom n = codes " s " ++ (decimal (n / 256 % 2) ++ lifetime n)

abbrev class : ℕ → List ℕ
class n = codes " tc " ++ (decimal (n / 512 % 8) ++ bottom n)

of_parts : (m n : ℕ) → m / 4096 ≡ n / 4096 → m / 512 % 8 ≡ n / 512 % 8 → m / 256 % 2 ≡ n / 256 % 2 → m % 256 ≡ n % 256 → m ≡ n
of_parts m n h i j k = omega arith

label_determined : (m n : ℕ) (s t : List ℕ) → m < 2 ^ 32 → n < 2 ^ 32 → Ends s → Ends t → label_text m ++ s ≡ label_text n ++ t → (m ≡ n) × (s ≡ t)
label_determined m n s t p q k l e =
    let first = part (m / 4096) (n / 4096) (class m) s (class n) t (omega arith) (omega arith) (omega arith) (omega arith) e in
    let second = part (m / 512 % 8) (n / 512 % 8) (bottom m) s (bottom n) t (omega arith) (omega arith) (omega arith) (omega arith) (ap (drop 4) first.1) in
    let third = part (m / 256 % 2) (n / 256 % 2) (lifetime m) s (lifetime n) t (omega arith) (omega arith) (omega arith) (omega arith) (ap (drop 3) second.1) in
    let last = decimal_determined (m % 256) (n % 256) s t (omega arith) (omega arith) k l (ap (drop 5) third.1) in
    (of_parts m n first.0 second.0 third.0 last.0, last.1)

pub small_label : (p : List ℕ) → AreBytes p → length p ≡ 4 → big_endian p < 2 ^ 32
small_label p a l = omega (arith, bounded 4 _ (reversed_bytes p a) (omega (arith, length-reverse p)))

pub label_shown : (p : List ℕ) → length p ≡ 4 → label_value p ≡ label_text (big_endian p)
label_shown p l = ap (λ n. cond (n == 4) (label_text (big_endian p)) (hex_text p)) l

pub label_value_determined : (p q s t : List ℕ) → length p ≡ 4 → length q ≡ 4 → AreBytes p → AreBytes q → Ends s → Ends t →
    label_value p ++ s ≡ label_value q ++ t → (p ≡ q) × (s ≡ t)
label_value_determined p q s t i j a b k l e =
    let same : label_text (big_endian p) ++ s ≡ label_text (big_endian q) ++ t = ap (λ z. z ++ s) (sym (label_shown p i)) ∙ e ∙ ap (λ z. z ++ t) (label_shown q j) in
    let r = label_determined (big_endian p) (big_endian q) s t (small_label p a i) (small_label q b j) k l same in
    (highest_first.determined p q a b (i ∙ sym j) r.0, r.1)

pub labels_separate : Separates label_after 4
labels_separate = record {
  first = λ p i. (47 ∷ 32 ∷ label_value p, refl);
  determined = λ p q s t i j a b k l e. label_value_determined p q s t i j a b k l (ap (drop 3) e);
}
