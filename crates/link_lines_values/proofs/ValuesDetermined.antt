-- The texts of addresses, sets of flags and other values determine them.
use Rattle.std.proofs.Common.{◌≡◌, ℕ, zero, suc, ◌+◌, ◌*◌, ◌^◌, ◌<◌, ◌≤◌, Bool, true, false, List, [], ◌∷◌, ◌++◌, length, take, drop, refl, sym, ap, subst, ◌∙◌, arith}
use Rattle.std.specs.Prelude.{◌==◌, cond, get_or, codes}
use Rattle.std.specs.Net.Addr.{segments_of}
use Rattle.std.specs.Net.Text.{ipv4_text, ipv6_text}
use Rattle.std.specs.declared.net.ipv4_addr.Ipv4Addr.{Ipv4Addr}
use Rattle.std.specs.declared.net.ipv6_addr.Ipv6Addr.{Ipv6Addr}
use Rattle.std.specs.Net.Grammar.{IsIpv4Text, IsIpv6Text}
use Rattle.std.proofs.NetLemmas.Texts.{IsDotted-ipv4_text, IsColonHex-ipv6_text}
use Rattle.std.proofs.NetLemmas.Theorems.{IsIpv4Text_unique, IsIpv6Text_unique}
use Rattle.netlink_packet_core_grammar.specs.Bytes.{AreBytes}
use Rattle.std.proofs.lemmas.Bool.Decides.{nat_tests}
use Rattle.attribute_tables_grammar.specs.Shapes.{number}
use Rattle.link_lines_values.specs.Bytes.{address_text, boolean_text, bytes_text, is_zero}
use Rattle.link_lines_values.specs.Digits.{big_endian, is_number}
use Rattle.link_lines_values.specs.Flags.{nameless_flags, word_flags}
use Rattle.link_lines_values.specs.Names.{Text}
use Rattle.link_lines_values.specs.Values.{big_endian_flags_value, flags_and_mask_value, optional_byte_value, port_range_value}
use Rattle.link_lines_values.specs.Laws.{AddressesAreDetermined, Ends, SettingsAreDetermined}
use Rattle.std.specs.Fmt.{decimal}
use Rattle.std.proofs.lemmas.List.{append_cancel_left, take-append-drop, length-take, length-drop}
use Rattle.link_lines_values.proofs.NumbersDetermined.{Reads, Determines, decimal_determined, highest_first, lowest_first, nameless_determined, number_only, number_and_rest, number_determined, sized_number, word_determined}
use Rattle.link_lines_values.proofs.Zeros.{zero_by_number}
use Rattle.netlink_packet_core_grammar.proofs.Bytes.{AreBytes-drop, AreBytes-take}

-- ---- addresses

pub bytes_at : (p : List ℕ) → AreBytes p → (k : ℕ) → get_or p k 0 < 256
bytes_at [] a k = omega arith
bytes_at (x ∷ p) a zero = a.0
bytes_at (x ∷ p) a (suc k) = bytes_at p a.1 k

pub ipv4_determined : (p q : List ℕ) → AreBytes p → AreBytes q → length p ≡ 4 → length q ≡ 4 → ipv4_text p ≡ ipv4_text q → p ≡ q
ipv4_determined p q a b l k e =
    let x : Ipv4Addr = record { octets = p } in
    let y : Ipv4Addr = record { octets = q } in
    ap (λ v. v.octets) (IsIpv4Text_unique (ipv4_text p) x y (IsDotted-ipv4_text p l (bytes_at p a)) (subst (λ t. IsIpv4Text t y) (sym e) (IsDotted-ipv4_text q k (bytes_at q b))))

pair : (a b : ℕ) → a < 256 → b < 256 → a * 256 + b < 65536
pair a b h k = omega arith

pub segments_at : (p : List ℕ) → AreBytes p → (k : ℕ) → get_or (segments_of p) k 0 < 65536
segments_at [] a k = omega arith
segments_at (x ∷ []) a k = omega arith
segments_at (x ∷ y ∷ p) a zero = pair x y a.0 a.1.0
segments_at (x ∷ y ∷ p) a (suc k) = segments_at p a.1.1 k

same_pair : (a b c d : ℕ) → a < 256 → b < 256 → c < 256 → d < 256 → a * 256 + b ≡ c * 256 + d → (a ≡ c) × (b ≡ d)
same_pair a b c d h i j k e = (omega arith, omega arith)

pub segments_size : (n : ℕ) (p : List ℕ) → length p ≡ n + n → length (segments_of p) ≡ n
segments_size zero [] l = refl
segments_size (suc n) (x ∷ y ∷ p) l = ap suc (segments_size n p (omega arith))
segments_size n p l = absurd (omega arith)

segments_determined : (n : ℕ) (p q : List ℕ) → AreBytes p → AreBytes q → length p ≡ n + n → length q ≡ n + n → segments_of p ≡ segments_of q → p ≡ q
segments_determined zero [] [] a b l k e = refl
segments_determined (suc n) (x ∷ y ∷ p) (z ∷ w ∷ q) a b l k e =
    let first = same_pair x y z w a.0 a.1.0 b.0 b.1.0 (ap (λ s. get_or s 0 0) e) in
    let rest : p ≡ q = segments_determined n p q a.1.1 b.1.1 (omega arith) (omega arith) (ap (drop 1) e) in
    λ t. first.0 t ∷ first.1 t ∷ rest t
segments_determined n p q a b l k e = absurd (omega arith)

pub ipv6_determined : (p q : List ℕ) → AreBytes p → AreBytes q → length p ≡ 16 → length q ≡ 16 → ipv6_text (segments_of p) ≡ ipv6_text (segments_of q) → p ≡ q
ipv6_determined p q a b l k e =
    let x : Ipv6Addr = record { segments = segments_of p } in
    let y : Ipv6Addr = record { segments = segments_of q } in
    let same = IsIpv6Text_unique (ipv6_text (segments_of p)) x y (IsColonHex-ipv6_text (segments_of p) (segments_size 8 p l) (segments_at p a))
    (subst (λ t. IsIpv6Text t y) (sym e) (IsColonHex-ipv6_text (segments_of q) (segments_size 8 q k) (segments_at q b))) in
    segments_determined 8 p q a b l k (ap (λ v. v.segments) same)

address_4 : (p q : List ℕ) → AreBytes p → AreBytes q → length p ≡ 4 → length q ≡ 4 → address_text p ≡ address_text q → p ≡ q
address_4 p q a b l k e = ipv4_determined p q a b l k (ap (drop 1) (rw (l, k) at e))

address_16 : (p q : List ℕ) → AreBytes p → AreBytes q → length p ≡ 16 → length q ≡ 16 → address_text p ≡ address_text q → p ≡ q
address_16 p q a b l k e = ipv6_determined p q a b l k (ap (drop 1) (rw (l, k) at e))

pub addresses_determined : AddressesAreDetermined
addresses_determined = record { ipv4 = address_4; ipv6 = address_16 }

-- ---- parts

pub both_parts : (n : ℕ) (p q : List ℕ) → take n p ≡ take n q → drop n p ≡ drop n q → p ≡ q
both_parts n p q h k = sym (take-append-drop n p) ∙ (λ t. h t ++ k t) ∙ take-append-drop n q

-- ---- sets of flags, and two numbers

-- The numbers of two halves, with text between them that ends the first.
halves_determined : (value : List ℕ → ℕ) → Reads value → (text : ℕ → List ℕ) → Determines (2 ^ 64) text → (between : List ℕ) → ((s : List ℕ) → Ends (between ++ s)) →
    (n : ℕ) (p q : List ℕ) → n ≤ 8 → AreBytes p → AreBytes q → length p ≡ n + n → length q ≡ n + n →
    32 ∷ (text (value (take n p)) ++ (between ++ text (value (drop n p)))) ≡ 32 ∷ (text (value (take n q)) ++ (between ++ text (value (drop n q)))) → p ≡ q
halves_determined value reads text determined between ends n p q w a b l k e =
    let first = number_and_rest value reads text determined (take n p) (take n q) (between ++ text (value (drop n p))) (between ++ text (value (drop n q)))
    (AreBytes-take n p a) (AreBytes-take n q b) (omega (arith, length-take n p)) (omega (arith, length-take n p, length-take n q)) (ends _) (ends _) (ap (drop 1) e) in
    let second = number_only value reads text determined (drop n p) (drop n q) (AreBytes-drop n p a) (AreBytes-drop n q b) (omega (arith, length-drop n p)) (omega (arith, length-drop n p, length-drop n q))
    (ap (λ z. 32 ∷ z) (append_cancel_left between _ _ first.1)) in
    both_parts n p q first.0 second

masked : (names : List Text) (p q : List ℕ) → AreBytes p → AreBytes q → length p ≡ 8 → length q ≡ 8 → flags_and_mask_value names p ≡ flags_and_mask_value names q → p ≡ q
masked names p q a b l k e = halves_determined number lowest_first (word_flags names) (word_determined names) (codes " mask ") (λ s. omega arith) 4 p q (omega arith) a b l k (rw (l, k) at e)

ports : (p q : List ℕ) → AreBytes p → AreBytes q → length p ≡ 4 → length q ≡ 4 → port_range_value p ≡ port_range_value q → p ≡ q
ports p q a b l k e = halves_determined big_endian highest_first decimal decimal_determined (codes " ") (λ s. omega arith) 2 p q (omega arith) a b l k (rw (l, k) at e)

-- ---- an optional byte

optional : (p q : List ℕ) → AreBytes p → AreBytes q → length p ≤ 1 → length q ≤ 1 → optional_byte_value p ≡ optional_byte_value q → p ≡ q
optional [] [] a b l k e = refl
optional [] (y ∷ []) a b l k e = absurd cc
optional (x ∷ []) [] a b l k e = absurd cc
optional (x ∷ []) (y ∷ []) a b l k e =
    let same = (decimal_determined x y [] [] (omega (arith, a.0)) (omega (arith, b.0)) (record {}) (record {}) (ap (λ t. drop 1 t ++ []) e)).0 in
    cc
optional p q a b l k e = absurd (omega arith)

-- ---- booleans

booleans_by : (m n : ℕ) (a b : Bool) → (m == 0) ≡ a → (n == 0) ≡ b → m ≤ 1 → n ≤ 1 → (s t : List ℕ) →
    cond a (codes "off") (codes "on") ++ s ≡ cond b (codes "off") (codes "on") ++ t → (m ≡ n) × (s ≡ t)
booleans_by m n true true h i p q s t e = (grind (arith, nat_tests), ap (drop 3) e)
booleans_by m n true false h i p q s t e = absurd (let z : 102 ≡ 110 = ap (λ x. get_or x 1 0) e in omega arith)
booleans_by m n false true h i p q s t e = absurd (let z : 110 ≡ 102 = ap (λ x. get_or x 1 0) e in omega arith)
booleans_by m n false false h i p q s t e = (grind (arith, nat_tests), ap (drop 2) e)

pub boolean_determined : (p q s t : List ℕ) → AreBytes p → AreBytes q → length p ≡ length q → number p ≤ 1 → number q ≤ 1 → boolean_text p ++ s ≡ boolean_text q ++ t → (p ≡ q) × (s ≡ t)
boolean_determined p q s t a b l h k e =
    let r = booleans_by (number p) (number q) (is_zero p) (is_zero q) (zero_by_number p) (zero_by_number q) h k s t e in
    (number_determined p q a b l r.0, r.1)

boolean : (p q : List ℕ) → AreBytes p → AreBytes q → length p ≡ length q → number p ≤ 1 → number q ≤ 1 → boolean_text p ≡ boolean_text q → p ≡ q
boolean p q a b l h k e = (boolean_determined p q [] [] a b l h k (ap (λ x. x ++ []) e)).0

big_flags : (p q : List ℕ) → AreBytes p → AreBytes q → length p ≡ length q → is_number p ≡ true → big_endian_flags_value p ≡ big_endian_flags_value q → p ≡ q
big_flags p q a b l h e =
    sized_number big_endian highest_first (nameless_flags (length p == 4)) (nameless_determined (length p == 4)) p q a b l h
    (e ∙ ap (λ k. cond (is_number q) (32 ∷ nameless_flags (k == 4) (big_endian q)) (bytes_text q)) (sym l))

pub settings_determined : SettingsAreDetermined
settings_determined = record { big = big_flags; masked = masked; optional = optional; ports = ports; boolean = boolean }
