-- Bodies of NLMSG_ERROR compared without the numbers of the headers that they repeat.
use Rattle.std.proofs.Common.{◌≡◌, ◌≢◌, ℕ, ◌<◌, ◌≤◌, Bool, true, false, cond, List, ◌++◌, length, take, drop, refl, sym, ap, ◌∙◌, arith}
use Rattle.std.specs.Prelude.{nat_le, bytes_eq}
use Rattle.std.proofs.lemmas.Bool.{le-leb, leb-true, lt-leb}
use Rattle.std.proofs.lemmas.Slice.Eq.{bytes_eq-Decides}
use Rattle.netlink_packet_core_grammar.specs.Attributes.{zeros}
use Rattle.link_capture_numbers.specs.Cleared.{zeros_at}
use Rattle.link_capture_numbers.proofs.Zeros.{length-zeros, take-zeros, drop-zeros}
use Rattle.linkcap_c.specs.Apart.{error_cleared}

one_bool : (p q : Bool) → (p ≡ true → q ≡ true) → (q ≡ true → p ≡ true) → p ≡ q
one_bool true q f g = sym (f refl)
one_bool false true f g = g refl
one_bool false false f g = refl

one_test : (x y u v : List ℕ) → (x ≡ y → u ≡ v) → (u ≡ v → x ≡ y) → bytes_eq x y ≡ bytes_eq u v
one_test x y u v f g = one_bool (bytes_eq x y) (bytes_eq u v) (λ h. (bytes_eq-Decides u v).1 (f ((bytes_eq-Decides x y).0 h))) (λ h. (bytes_eq-Decides x y).1 (g ((bytes_eq-Decides u v).0 h)))

size_by : (c : List ℕ) (b : Bool) → (b ≡ true → 20 ≤ length c) → length (cond b (zeros_at 12 c) c) ≡ length c
size_by c false h = refl
size_by c true h = length-zeros 12 c (h refl)

long_by : (c : List ℕ) → nat_le 20 (length c) ≡ true → 20 ≤ length c
long_by c h = leb-true 20 (length c) h

size : (c : List ℕ) → length (error_cleared c) ≡ length c
size c = size_by c (nat_le 20 (length c)) (long_by c)

short : (c : List ℕ) → length c < 20 → error_cleared c ≡ c
short c h = ap (λ b. cond b (zeros_at 12 c) c) (lt-leb 20 (length c) h)

long : (c : List ℕ) → 20 ≤ length c → error_cleared c ≡ zeros_at 12 c
long c h = ap (λ b. cond b (zeros_at 12 c) c) (le-leb 20 (length c) h)

-- of other lengths
pub other_lengths : (a b : List ℕ) → length a ≢ length b → bytes_eq a b ≡ bytes_eq (error_cleared a) (error_cleared b)
other_lengths a b n = one_test a b (error_cleared a) (error_cleared b) (λ e. absurd (n (ap length e))) (λ e. absurd (n (sym (size a) ∙ ap length e ∙ size b)))

-- without a header
pub both_short : (a b : List ℕ) → length a ≡ length b → length a < 20 → bytes_eq a b ≡ bytes_eq (error_cleared a) (error_cleared b)
both_short a b e h = ap (λ x. bytes_eq x b) (sym (short a h)) ∙ ap (bytes_eq (error_cleared a)) (sym (short b (omega (arith, e, h))))

-- with one
module _ (a b : List ℕ) (e : length a ≡ length b) (h : 20 ≤ length a) where
  k : 20 ≤ length b
  k = omega (arith, e, h)

  rests : error_cleared a ≡ error_cleared b → drop 20 a ≡ drop 20 b
  rests i = sym (drop-zeros 12 20 a (omega arith) (omega (arith, h))) ∙ ap (drop 20) (sym (long a h) ∙ i ∙ long b k) ∙ drop-zeros 12 20 b (omega arith) (omega (arith, k))

  fronts : error_cleared a ≡ error_cleared b → take 12 a ≡ take 12 b
  fronts i = sym (take-zeros 12 12 a (omega arith) (omega (arith, h))) ∙ ap (take 12) (sym (long a h) ∙ i ∙ long b k) ∙ take-zeros 12 12 b (omega arith) (omega (arith, k))

  joined : take 12 a ≡ take 12 b → drop 20 a ≡ drop 20 b → zeros_at 12 a ≡ zeros_at 12 b
  unfolding zeros_at
  joined i j = ap (λ x. x ++ (zeros 8 ++ drop 20 a)) i ∙ ap (λ x. take 12 b ++ (zeros 8 ++ x)) j

  pub equal_fronts : bytes_eq (take 12 a) (take 12 b) ≡ true → bytes_eq (drop 20 a) (drop 20 b) ≡ bytes_eq (error_cleared a) (error_cleared b)
  equal_fronts i =
      let front = (bytes_eq-Decides (take 12 a) (take 12 b)).0 i in
      one_test (drop 20 a) (drop 20 b) (error_cleared a) (error_cleared b) (λ j. long a h ∙ joined front j ∙ sym (long b k)) rests

  pub other_fronts : bytes_eq (take 12 a) (take 12 b) ≡ false → false ≡ bytes_eq (error_cleared a) (error_cleared b)
  other_fronts i =
      one_bool false (bytes_eq (error_cleared a) (error_cleared b)) (λ j. absurd (let z : true ≡ false = sym j in cc))
      (λ j. absurd (let z : true ≡ false = sym ((bytes_eq-Decides (take 12 a) (take 12 b)).1 (fronts ((bytes_eq-Decides (error_cleared a) (error_cleared b)).0 j))) ∙ i in cc))
