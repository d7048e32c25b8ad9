-- Bytes truncated or padded to a size, part by part.
use Rattle.std.proofs.Common.{◌≡◌, ℕ, zero, suc, ◌+◌, ◌*◌, ◌<◌, ◌≤◌, List, [], ◌∷◌, ◌++◌, length, get_or, set, take, drop, refl, sym, ap, ◌∙◌, arith, append-nil, length-append}
use Rattle.std.specs.List.{flat_map}
use Rattle.std.proofs.lemmas.List.{take_more, take_more_set, take-append-drop, drop-drop}
use Rattle.std.proofs.lemmas.List.Concat.{flat_map-append}
use Rattle.netlink_packet_core_grammar.specs.Attributes.{zeros}

-- The same definition by recursion.
first : ℕ → List ℕ → List ℕ
first zero p = []
first (suc n) [] = 0 ∷ first n []
first (suc n) (x ∷ p) = x ∷ first n p

zero_left : (n : ℕ) → zero + n ≡ n
zero_left n = omega arith

suc_left : (m n : ℕ) → suc m + n ≡ suc (m + n)
suc_left m n = omega arith

first_is : (n k : ℕ) (p : List ℕ) → n ≤ k → take n (p ++ zeros k) ≡ first n p
unfolding first
first_is zero k p h = refl
first_is (suc n) zero p h = absurd (omega arith)
first_is (suc n) (suc k) [] h = ap (λ r. 0 ∷ r) (first_is n k [] (omega arith))
first_is (suc n) (suc k) (x ∷ p) h = ap (λ r. x ∷ r) (first_is n (suc k) p (omega arith))

first_nil : (m n : ℕ) → first (m + n) [] ≡ first m [] ++ first n []
unfolding first
first_nil zero n = ap (λ k. first k []) (zero_left n)
first_nil (suc m) n = ap (λ k. first k []) (suc_left m n) ∙ ap (λ r. 0 ∷ r) (first_nil m n)

first_add : (m n : ℕ) (p : List ℕ) → first (m + n) p ≡ first m p ++ first n (drop m p)
unfolding first
first_add zero n p = ap (λ k. first k p) (zero_left n)
first_add (suc m) n [] = first_nil (suc m) n
first_add (suc m) n (x ∷ p) = ap (λ k. first k (x ∷ p)) (suc_left m n) ∙ ap (λ r. x ∷ r) (first_add m n p)

pub filled_add : (m n : ℕ) (p : List ℕ) → take (m + n) (p ++ zeros (m + n)) ≡ take m (p ++ zeros m) ++ take n (drop m p ++ zeros n)
filled_add m n p =
    first_is (m + n) (m + n) p (omega arith)
    ∙ first_add m n p
    ∙ ap (λ a. a ++ first n (drop m p)) (sym (first_is m m p (omega arith)))
    ∙ ap (λ b. take m (p ++ zeros m) ++ b) (sym (first_is n n (drop m p) (omega arith)))

-- One number more.
pub flat_one : {X : Type 0} (f : X → List ℕ) (xs : List X) (x : X) → flat_map f (xs ++ x ∷ []) ≡ flat_map f xs ++ f x
flat_one f xs x = flat_map-append f xs (x ∷ []) ∙ ap (λ r. flat_map f xs ++ r) (append-nil (f x))

pub read_more : {X : Type 0} (f : X → List ℕ) (s i : ℕ) (p rest after : List ℕ) (vs : List X) (x : X) → i < length vs → f x ≡ take s (rest ++ zeros s) → rest ≡ drop (s * i) p → flat_map f (take i vs) ≡ take (s * i) (p ++ zeros (s * i)) → flat_map f (take (i + 1) (set vs i x)) ≡ take (s * (i + 1)) (p ++ zeros (s * (i + 1)))
read_more f s i p rest after vs x h e r t =
    let next : s * i + s ≡ s * (i + 1) = grind arith in
    ap (flat_map f) (take_more_set vs i x h)
    ∙ flat_one f (take i vs) x
    ∙ ap (λ a. a ++ f x) t
    ∙ ap (λ b. take (s * i) (p ++ zeros (s * i)) ++ b) (e ∙ ap (λ q. take s (q ++ zeros s)) r)
    ∙ sym (filled_add (s * i) s p)
    ∙ ap (λ n. take n (p ++ zeros n)) next

pub rest_more : (s i : ℕ) (p rest after : List ℕ) → rest ≡ drop (s * i) p → after ≡ drop s rest → after ≡ drop (s * (i + 1)) p
rest_more s i p rest after r e =
    let next : s * i + s ≡ s * (i + 1) = grind arith in
    e ∙ ap (drop s) r ∙ drop-drop s (s * i) p ∙ ap (λ n. drop n p) next

-- The numbers after some have enough bytes for those that follow.
pub enough_at : {X : Type 0} (f : X → List ℕ) (s : ℕ) (xs : List X) (i : ℕ) (v : X) → i < length xs → v ≡ get_or xs i v → length (f v) ≡ s → length (flat_map f (take i xs)) + s ≤ length (flat_map f xs)
enough_at f s xs i v h is e =
    let one = ap length (ap (flat_map f) (take_more xs i v h) ∙ flat_one f (take i xs) (get_or xs i v)) in
    let size : length (f (get_or xs i v)) ≡ s = ap (λ x. length (f x)) (sym is) ∙ e in
    let whole = ap (λ l. length (flat_map f l)) (sym (take-append-drop (i + 1) xs)) ∙ ap length (flat_map-append f (take (i + 1) xs) (drop (i + 1) xs)) in
    omega (arith, one, size, whole, length-append (flat_map f (take i xs)) (f (get_or xs i v)), length-append (flat_map f (take (i + 1) xs)) (flat_map f (drop (i + 1) xs)))

-- Numbers of one size.
pub length_flat : {X : Type 0} (f : X → List ℕ) (s : ℕ) (xs : List X) → ((v : X) → length (f v) ≡ s) → length (flat_map f xs) ≡ s * length xs
length_flat f s [] h = grind arith
length_flat f s (x ∷ xs) h =
    let more = length_flat f s xs h in
    let both = length-append (f x) (flat_map f xs) in
    grind arith
