-- Numbers of sixteen bytes: a number that is read from bytes is written as the same bytes.
use Rattle.std.proofs.Common.{◌≡◌, ℕ, zero, suc, ◌+◌, ◌*◌, ◌/◌, ◌%◌, ◌^◌, ◌<◌, List, [], ◌∷◌, length, get_or, slice_index, reverse, refl, ap, ◌∙◌, sym, arith}
use Rattle.std.proofs.Math.Nat as nat
use Rattle.std.proofs.lemmas.Nat.{div-mul-add, mod-mul-add}
use Rattle.std.specs.Int.{w128, byte_at, byte_worth, bytes_low_first, sum_through, from_le_bytes, to_le_bytes, from_be_bytes, to_be_bytes}
use Rattle.netlink_packet_core_grammar.specs.Bytes.{AreBytes}

-- the value of bytes, little-endian
abbrev worth : List ℕ → ℕ
worth [] = 0
worth (b ∷ bs) = worth bs * 256 + b

byte_at-next : (i n : ℕ) → byte_at (suc i) n ≡ byte_at i (n / 256)
byte_at-next zero n = refl
byte_at-next (suc i) n = ap (λ m. m % 256) (ap (λ p. n / p) (nat.pow-suc 256 (suc i) ∙ nat.mul_comm (256 ^ suc i) 256) ∙ sym (nat.div-div-eq-div-mul n 256 (256 ^ suc i)))

bytes-next : (k i n : ℕ) → bytes_low_first (suc i) k n ≡ bytes_low_first i k (n / 256)
bytes-next zero i n = refl
bytes-next (suc k) i n = rw (byte_at-next i n, bytes-next k (suc i) n) refl

bytes-worth : (bs : List ℕ) → AreBytes bs → bytes_low_first 0 (length bs) (worth bs) ≡ bs
bytes-worth [] h = refl
bytes-worth (b ∷ bs) h =
    rw (mod-mul-add (worth bs) 256 b h.0, bytes-next (length bs) 0 (worth bs * 256 + b), div-mul-add (worth bs) 256 b h.0, bytes-worth bs h.1) refl

scaled : (x i : ℕ) → byte_worth (suc i) x ≡ byte_worth i x * 256
scaled x zero = refl
scaled x (suc i) = rw (nat.pow-suc 256 (suc i)) (sym (nat.mul_assoc x (256 ^ suc i) 256))

sum-scaled : (g : ℕ → ℕ) (k : ℕ) → sum_through (λ i. byte_worth (suc i) (g i)) k ≡ sum_through (λ i. byte_worth i (g i)) k * 256
sum-scaled g zero = scaled (g 0) 0
sum-scaled g (suc k) = omega (arith, sum-scaled g k, scaled (g (suc k)) (suc k))

sum-first : (f : ℕ → ℕ) (k : ℕ) → sum_through f (suc k) ≡ sum_through (λ i. f (suc i)) k + f 0
sum-first f zero = omega arith
sum-first f (suc k) = omega (arith, sum-first f k)

sum-worth : (k : ℕ) (bs : List ℕ) → length bs ≡ suc k → sum_through (λ i. byte_worth i (slice_index bs i)) k ≡ worth bs
sum-worth zero (b ∷ []) l = omega arith
sum-worth (suc k) (b ∷ bs) l =
    sum-first (λ i. byte_worth i (slice_index (b ∷ bs) i)) k ∙ ap (λ n. n + b) (sum-scaled (λ i. slice_index bs i) k ∙ ap (λ n. n * 256) (sum-worth k bs (omega arith)))
sum-worth k x l = absurd (omega arith)

are_bytes : (bs : List ℕ) → ((i : ℕ) → get_or bs i 0 < 256) → AreBytes bs
are_bytes [] small = tt
are_bytes (b ∷ bs) small = (small 0, are_bytes bs (λ i. small (suc i)))

from_worth : (bs : List ℕ) (n : ℕ) → length bs ≡ 16 → AreBytes bs → n ≡ from_le_bytes w128 bs → to_le_bytes w128 n ≡ bs
from_worth bs n l h is =
    ap (λ m. bytes_low_first 0 16 m) (is ∙ sum-worth 15 bs l) ∙ ap (λ k. bytes_low_first 0 k (worth bs)) (sym l) ∙ bytes-worth bs h

pub le_bytes_16 : (bs : List ℕ) (n : ℕ) → length bs ≡ 16 → ((i : ℕ) → get_or bs i 0 < 256) → n ≡ from_le_bytes w128 bs → to_le_bytes w128 n ≡ bs
le_bytes_16 bs n l small is = from_worth bs n l (are_bytes bs small) is

-- ---- big-endian

reversed : (x0 x1 x2 x3 x4 x5 x6 x7 x8 x9 x10 x11 x12 x13 x14 x15 : ℕ) → x0 + x1 + x2 + x3 + x4 + x5 + x6 + x7 + x8 + x9 + x10 + x11 + x12 + x13 + x14 + x15 ≡ x15 + x14 + x13 + x12 + x11 + x10 + x9 + x8 + x7 + x6 + x5 + x4 + x3 + x2 + x1 + x0
reversed x0 x1 x2 x3 x4 x5 x6 x7 x8 x9 x10 x11 x12 x13 x14 x15 = omega arith

abbrev gets : List ℕ → List ℕ
gets bs = get_or bs 0 0 ∷ get_or bs 1 0 ∷ get_or bs 2 0 ∷ get_or bs 3 0 ∷ get_or bs 4 0 ∷ get_or bs 5 0 ∷ get_or bs 6 0 ∷ get_or bs 7 0 ∷ get_or bs 8 0 ∷ get_or bs 9 0 ∷ get_or bs 10 0 ∷ get_or bs 11 0 ∷ get_or bs 12 0 ∷ get_or bs 13 0 ∷ get_or bs 14 0 ∷ get_or bs 15 0 ∷ []

abbrev reversed_gets : List ℕ → List ℕ
reversed_gets bs = get_or bs 15 0 ∷ get_or bs 14 0 ∷ get_or bs 13 0 ∷ get_or bs 12 0 ∷ get_or bs 11 0 ∷ get_or bs 10 0 ∷ get_or bs 9 0 ∷ get_or bs 8 0 ∷ get_or bs 7 0 ∷ get_or bs 6 0 ∷ get_or bs 5 0 ∷ get_or bs 4 0 ∷ get_or bs 3 0 ∷ get_or bs 2 0 ∷ get_or bs 1 0 ∷ get_or bs 0 0 ∷ []

gets-all : (bs : List ℕ) → length bs ≡ 16 → gets bs ≡ bs
gets-all (a ∷ b ∷ c ∷ d ∷ e ∷ f ∷ g ∷ h ∷ i ∷ j ∷ k ∷ m ∷ n ∷ o ∷ p ∷ q ∷ []) l = refl
gets-all bs l = absurd (omega arith)

reversed-worth : (bs : List ℕ) → from_be_bytes w128 bs ≡ from_le_bytes w128 (reversed_gets bs)
reversed-worth bs = reversed (get_or bs 0 0 * 1329227995784915872903807060280344576) (get_or bs 1 0 * 5192296858534827628530496329220096) (get_or bs 2 0 * 20282409603651670423947251286016) (get_or bs 3 0 * 79228162514264337593543950336) (get_or bs 4 0 * 309485009821345068724781056) (get_or bs 5 0 * 1208925819614629174706176) (get_or bs 6 0 * 4722366482869645213696) (get_or bs 7 0 * 18446744073709551616) (get_or bs 8 0 * 72057594037927936) (get_or bs 9 0 * 281474976710656) (get_or bs 10 0 * 1099511627776) (get_or bs 11 0 * 4294967296) (get_or bs 12 0 * 16777216) (get_or bs 13 0 * 65536) (get_or bs 14 0 * 256) (get_or bs 15 0)

reversed-bytes : (bs : List ℕ) → ((i : ℕ) → get_or bs i 0 < 256) → AreBytes (reversed_gets bs)
reversed-bytes bs small = (small 15, (small 14, (small 13, (small 12, (small 11, (small 10, (small 9, (small 8, (small 7, (small 6, (small 5, (small 4, (small 3, (small 2, (small 1, (small 0, tt))))))))))))))))

pub be_bytes_16 : (bs : List ℕ) (n : ℕ) → length bs ≡ 16 → ((i : ℕ) → get_or bs i 0 < 256) → n ≡ from_be_bytes w128 bs → to_be_bytes w128 n ≡ bs
be_bytes_16 bs n l small is = ap reverse (from_worth (reversed_gets bs) n refl (reversed-bytes bs small) (is ∙ reversed-worth bs)) ∙ gets-all bs l

-- ---- a number that is written is read back

worth-written : (k n : ℕ) → n < 256 ^ k → worth (bytes_low_first 0 k n) ≡ n
worth-written zero n h = omega (arith, nat.pow-zero 256)
worth-written (suc k) n h =
    let next : n / 256 < 256 ^ k = omega (arith, nat.pow-suc 256 k) in
    rw (bytes-next k 0 n, worth-written k (n / 256) next) (omega arith)

pub from_le_bytes-to_le_bytes_16 : (n : ℕ) → n < 2 ^ 128 → from_le_bytes w128 (to_le_bytes w128 n) ≡ n
from_le_bytes-to_le_bytes_16 n h = sum-worth 15 (to_le_bytes w128 n) refl ∙ worth-written 16 n h

pub from_be_bytes-to_be_bytes_16 : (n : ℕ) → n < 2 ^ 128 → from_be_bytes w128 (to_be_bytes w128 n) ≡ n
from_be_bytes-to_be_bytes_16 n h = reversed (n / 1329227995784915872903807060280344576 % 256 * 1329227995784915872903807060280344576) (n / 5192296858534827628530496329220096 % 256 * 5192296858534827628530496329220096) (n / 20282409603651670423947251286016 % 256 * 20282409603651670423947251286016) (n / 79228162514264337593543950336 % 256 * 79228162514264337593543950336) (n / 309485009821345068724781056 % 256 * 309485009821345068724781056) (n / 1208925819614629174706176 % 256 * 1208925819614629174706176) (n / 4722366482869645213696 % 256 * 4722366482869645213696) (n / 18446744073709551616 % 256 * 18446744073709551616) (n / 72057594037927936 % 256 * 72057594037927936) (n / 281474976710656 % 256 * 281474976710656) (n / 1099511627776 % 256 * 1099511627776) (n / 4294967296 % 256 * 4294967296) (n / 16777216 % 256 * 16777216) (n / 65536 % 256 * 65536) (n / 256 % 256 * 256) (n % 256) ∙ from_le_bytes-to_le_bytes_16 n h
