-- Decoders of attributes. If decoding gives each value back from its attribute, then values with equal attributes are
-- equal. This takes a clause a variant, and comparing pairs of variants takes one a pair.
use Rattle.std.proofs.Common.{◌≡◌, ℕ, ℤ, pos, negsuc, cond, nat_lt, length, ◌+◌, ◌-◌, ◌*◌, ◌/◌, ◌%◌, ◌<◌, List, [], ◌∷◌, ◌++◌, Bool, true, false, Option, Some, None, refl, sym, ap, ◌∙◌, arith, take, drop, map, flat_map}
use Rattle.std.specs.Prelude.{◌==◌}
use Rattle.std.specs.Int.{w16, w32, w64, from_le_bytes, from_be_bytes}
use Rattle.std.proofs.lemmas.Bool.Decides.{nat_tests}
use Rattle.std.specs.declared.net.ip_addr.IpAddr.{IpAddr}
use Rattle.std.specs.declared.net.ip_addr.IpAddr.TheVariants.{V4, V6}
use Rattle.netlink_packet_core_numbers.specs.Addresses.{ip_octets, HasAddressLength}
use Rattle.std.specs.Net.Addr.{octets_of, segments_of}
use Rattle.std.specs.declared.net.ipv4_addr.Ipv4Addr.{Ipv4Addr}
use Rattle.std.specs.declared.net.ipv6_addr.Ipv6Addr.{Ipv6Addr}
use Rattle.netlink_packet_core.specs.Attributes.{Attribute, proper_kind}
use Rattle.netlink_packet_core_grammar.specs.Booleans.{boolean_byte}
use Rattle.netlink_packet_core_grammar.specs.Numbers.{le2, le4, le8, be2, signed_bits}
use Rattle.netlink_packet_core_grammar.proofs.Numbers.{from_le2, from_le4, from_le8, from_be2, from_be4, from_be8}
use Rattle.link_message_records.specs.declared.values.Values.{Values}
use Rattle.link_message.specs.Injective.{IsInjective}

-- ---- decoders of payloads

-- No decoder computes on what is encoded, not even `flag_of` and `undecoded`, which ignore the payload: `simp` refuses a
-- goal in which no rule of `round_trips` fits, and one call of it proves the goals of all variants.

abbrev pub le2_of : List ℕ → ℕ
le2_of p = from_le_bytes w16 p

abbrev pub le4_of : List ℕ → ℕ
le4_of p = from_le_bytes w32 p

abbrev pub le8_of : List ℕ → ℕ
le8_of p = from_le_bytes w64 p

abbrev pub be2_of : List ℕ → ℕ
be2_of p = from_be_bytes w16 p

abbrev pub be4_of : List ℕ → ℕ
be4_of p = from_be_bytes w32 p

abbrev pub be8_of : List ℕ → ℕ
be8_of p = from_be_bytes w64 p

pub byte_of : List ℕ → ℕ
byte_of [] = 0
byte_of (n ∷ p) = n

-- A value without payload.
pub flag_of : {V : Type 0} → V → List ℕ → V
flag_of v p = v

-- What a kind without a decoder yields.
pub undecoded : {V : Type 0} → List ℕ → Option V
undecoded p = None

pub boolean_of : List ℕ → Bool
boolean_of p = byte_of p == 1

pub ipv4_of : List ℕ → Ipv4Addr
ipv4_of p = record { octets = p }

pub ipv6_of : List ℕ → Ipv6Addr
ipv6_of p = record { segments = segments_of p }

pub ip_of : List ℕ → IpAddr
ip_of p = cond (length p == 4) (V4 (ipv4_of p)) (V6 (ipv6_of p))

-- The inverse of `signed_bits`, which numbers out of range determine, too.
signed_from : ℕ → ℤ
signed_from n = cond (nat_lt n 2147483648) (pos n) (cond (nat_lt n 4294967296) (negsuc (4294967295 - n)) (cond (n % 2 == 0) (pos (n / 2 - 2147483648)) (negsuc (n / 2 - 2147483648))))

pub signed_of : List ℕ → ℤ
signed_of p = signed_from (le4_of p)

abbrev pub range_of : List ℕ → ℕ × ℕ
range_of p = (be2_of (take 2 p), be2_of (drop 2 p))

-- ---- what was encoded is decoded

pub byte_round_trip : (n : ℕ) → byte_of (n ∷ []) ≡ n
unfolding byte_of
byte_round_trip n = refl

pub flag_round_trip : {V : Type 0} (v : V) → flag_of v [] ≡ v
unfolding flag_of
flag_round_trip v = refl

pub undecoded_is : {V : Type 0} (p : List ℕ) → undecoded {V = V} p ≡ None
unfolding undecoded
undecoded_is p = refl

pub ipv4_round_trip : (a : Ipv4Addr) → ipv4_of a.octets ≡ a
unfolding ipv4_of
ipv4_round_trip a = refl

pub boolean_round_trip : (b : Bool) → boolean_of (boolean_byte b) ≡ b
unfolding boolean_of byte_of
boolean_round_trip true = refl
boolean_round_trip false = refl

-- A boolean may be followed by padding.
pub boolean_before : (b : Bool) (p : List ℕ) → boolean_of (boolean_byte b ++ p) ≡ b
unfolding boolean_of byte_of
boolean_before true p = refl
boolean_before false p = refl

segments_round_trip : (s : List ℕ) → segments_of (octets_of s) ≡ s
segments_round_trip [] = refl
segments_round_trip (n ∷ s) = let one : n / 256 * 256 + n % 256 ≡ n = omega arith in let rest = segments_round_trip s in λ i. one i ∷ rest i

pub ipv6_round_trip : (a : Ipv6Addr) → ipv6_of (octets_of a.segments) ≡ a
unfolding ipv6_of
ipv6_round_trip a = let s = segments_round_trip a.segments in λ i. record { segments = s i }

pub ip_round_trip : (a : IpAddr) → HasAddressLength a → ip_of (ip_octets a) ≡ a
unfolding ip_of
ip_round_trip (V4 a) h = rw h (ap V4 (ipv4_round_trip a))
ip_round_trip (V6 a) h = rw h (ap V6 (ipv6_round_trip a))

signed_from_bits : (z : ℤ) → signed_from (signed_bits z) ≡ z
unfolding signed_from signed_bits
signed_from_bits (pos n) = grind (arith, nat_tests)
signed_from_bits (negsuc n) = grind (arith, nat_tests)

pub signed_round_trip : (z : ℤ) → signed_of (le4 (signed_bits z)) ≡ z
unfolding signed_of
signed_round_trip z = ap signed_from (from_le4 (signed_bits z)) ∙ signed_from_bits z

pub take_be2 : (n : ℕ) (p : List ℕ) → take 2 (be2 n ++ p) ≡ be2 n
unfolding be2
take_be2 n p = refl

pub drop_be2 : (n : ℕ) (p : List ℕ) → drop 2 (be2 n ++ p) ≡ p
unfolding be2
drop_be2 n p = refl

pub take_le2 : (n : ℕ) (p : List ℕ) → take 2 (le2 n ++ p) ≡ le2 n
unfolding le2
take_le2 n p = refl

pub drop_le2 : (n : ℕ) (p : List ℕ) → drop 2 (le2 n ++ p) ≡ p
unfolding le2
drop_le2 n p = refl

pub take_le4 : (n : ℕ) (p : List ℕ) → take 4 (le4 n ++ p) ≡ le4 n
unfolding le4
take_le4 n p = refl

pub drop_le4 : (n : ℕ) (p : List ℕ) → drop 4 (le4 n ++ p) ≡ p
unfolding le4
drop_le4 n p = refl

pub take_le8 : (n : ℕ) (p : List ℕ) → take 8 (le8 n ++ p) ≡ le8 n
unfolding le8
take_le8 n p = refl

pub drop_le8 : (n : ℕ) (p : List ℕ) → drop 8 (le8 n ++ p) ≡ p
unfolding le8
drop_le8 n p = refl

-- Numbers of one size, one after the other.
le4s_of : List ℕ → List ℕ
le4s_of (a ∷ b ∷ c ∷ d ∷ p) = le4_of (a ∷ b ∷ c ∷ d ∷ []) ∷ le4s_of p
le4s_of p = []

le8s_of : List ℕ → List ℕ
le8s_of (a ∷ b ∷ c ∷ d ∷ e ∷ f ∷ g ∷ h ∷ p) = le8_of (a ∷ b ∷ c ∷ d ∷ e ∷ f ∷ g ∷ h ∷ []) ∷ le8s_of p
le8s_of p = []

u32s_round_trip : (ns : List ℕ) → le4s_of (flat_map le4 ns) ≡ ns
unfolding le4s_of le4
u32s_round_trip [] = refl
u32s_round_trip (n ∷ ns) = let rest = u32s_round_trip ns in λ i. from_le4 n i ∷ rest i

u64s_round_trip : (ns : List ℕ) → le8s_of (flat_map le8 ns) ≡ ns
unfolding le8s_of le8
u64s_round_trip [] = refl
u64s_round_trip (n ∷ ns) = let rest = u64s_round_trip ns in λ i. from_le8 n i ∷ rest i

i32s_round_trip : (zs : List ℤ) → map signed_from (le4s_of (flat_map (λ z. le4 (signed_bits z)) zs)) ≡ zs
unfolding le4s_of le4
i32s_round_trip [] = refl
i32s_round_trip (z ∷ zs) = let first = ap signed_from (from_le4 (signed_bits z)) ∙ signed_from_bits z in let rest = i32s_round_trip zs in λ i. first i ∷ rest i

pub u32_values_of : {n : ℕ} → List ℕ → Values ℕ n
u32_values_of p = record { values = le4s_of p }

pub u64_values_of : {n : ℕ} → List ℕ → Values ℕ n
u64_values_of p = record { values = le8s_of p }

pub i32_values_of : {n : ℕ} → List ℕ → Values ℤ n
i32_values_of p = record { values = map signed_from (le4s_of p) }

pub u32_values_round_trip : {n : ℕ} (v : Values ℕ n) → u32_values_of {n = n} (flat_map le4 v.values) ≡ v
unfolding u32_values_of
u32_values_round_trip v = let h = u32s_round_trip v.values in λ i. record { values = h i }

pub u64_values_round_trip : {n : ℕ} (v : Values ℕ n) → u64_values_of {n = n} (flat_map le8 v.values) ≡ v
unfolding u64_values_of
u64_values_round_trip v = let h = u64s_round_trip v.values in λ i. record { values = h i }

pub i32_values_round_trip : {n : ℕ} (v : Values ℤ n) → i32_values_of {n = n} (flat_map (λ z. le4 (signed_bits z)) v.values) ≡ v
unfolding i32_values_of
i32_values_round_trip v = let h = i32s_round_trip v.values in λ i. record { values = h i }

pub ruleset round_trips = (from_le2, from_le4, from_le8, from_be2, from_be4, from_be8, byte_round_trip, flag_round_trip, undecoded_is, boolean_round_trip, boolean_before, ipv4_round_trip, ipv6_round_trip, ip_round_trip, signed_round_trip, take_be2, drop_be2, take_le2, drop_le2, take_le4, drop_le4, take_le8, drop_le8, u32_values_round_trip, u64_values_round_trip, i32_values_round_trip)

-- ---- decoders of attributes

-- Each kind that has a decoder, with its decoder.
abbrev pub Decoders : Type 0 → Type 0
Decoders V = List (ℕ × (List ℕ → V))

-- What the decoder of a kind yields for a payload; `undecoded` if the kind has no decoder.
abbrev pub decoded : {V : Type 0} → Decoders V → ℕ → List ℕ → Option V
decoded [] k p = undecoded p
decoded (r ∷ rs) k p = cond (k == r.0) (Some (r.1 p)) (decoded rs k p)

-- 1 if the kind has a decoder, and 0 otherwise: a number, because `omega` decides whether two variants can have one kind
-- much faster than `cc`.
abbrev pub has_decoder : {V : Type 0} → Decoders V → ℕ → ℕ
has_decoder [] k = 0
has_decoder (r ∷ rs) k = cond (k == r.0) 1 (has_decoder rs k)

-- The value by whether the kind has a row: `other` if it has none.
abbrev pub decoded_as : {A V : Type 0} → Option A → V → Decoders V → ℕ → List ℕ → Option V
decoded_as None other rs k p = Some other
decoded_as (Some l) other rs k p = decoded rs k p

-- The value that an attribute encodes: `other` if its kind has no row.
abbrev pub value_of : {A V : Type 0} → (ℕ → Option A) → (Attribute → V) → Decoders V → Attribute → Option V
value_of line other rs a = decoded_as (line (proper_kind a.kind)) (other a) rs (proper_kind a.kind) a.payload

-- Each value that is the variant that its row names is decoded from its attribute.
abbrev pub RoundTrip : {V : Type 0} → (V → Attribute) → (V → Type 0) → (Attribute → Option V) → Type 0
RoundTrip {V} entry named value = (v : V) → named v → value (entry v) ≡ Some v

some_equal : {A : Type 0} (x y : A) → Some x ≡ Some y → x ≡ y
some_equal x y e = cc

-- If each value is decoded from its attribute, then values with equal attributes are equal.
pub injective_by : {V : Type 0} (equal : V → V → Bool) (reflexive : (v : V) → equal v v ≡ true) (entry : V → Attribute) (named : V → Type 0) (value : Attribute → Option V) → RoundTrip entry named value → IsInjective equal entry named
injective_by equal reflexive entry named value round_trip v w p q e = ap (equal v) (some_equal w v (sym (round_trip w q) ∙ ap value (sym e) ∙ round_trip v p)) ∙ reflexive v

-- ---- values that own bytes or text

-- The value, if it is decoded.
abbrev pub if_decoded : {V : Type 0} → Option V → V → Option V
if_decoded None v = None
if_decoded (Some u) v = Some v

-- The same of the values that are decoded.
abbrev pub RoundTripIfDecoded : {V : Type 0} → (V → Attribute) → (V → Type 0) → (Attribute → Option V) → Type 0
RoundTripIfDecoded {V} entry named value = (v : V) → named v → value (entry v) ≡ if_decoded (value (entry v)) v

-- Values of one kind that has a row and no decoder are equal if their payloads are. That there is no decoder is an
-- inequality, because `cc`, which needs the rows of `Other`, would normalise the decoders in an equation.
abbrev pub Otherwise : {A V : Type 0} → (V → V → Bool) → (V → Attribute) → (V → Type 0) → (ℕ → Option A) → Decoders V → Type 0
Otherwise {A} {V} equal entry named line rs =
    (v w : V) (l m : A) → line (proper_kind (entry v).kind) ≡ Some l → line (proper_kind (entry w).kind) ≡ Some m → has_decoder rs (proper_kind (entry v).kind) < 1
    → named v → named w → (entry v).kind ≡ (entry w).kind → (entry v).payload ≡ (entry w).payload → equal v w ≡ true

by_decoding : {V : Type 0} (equal : V → V → Bool) (v w : V) (d : Option V) → equal v v ≡ true → if_decoded d v ≡ if_decoded d w → (d ≡ None → equal v w ≡ true) → equal v w ≡ true
by_decoding equal v w None r e otherwise = otherwise refl
by_decoding equal v w (Some u) r e otherwise = ap (equal v) (some_equal w v (sym e)) ∙ r

undecoded_by : {V : Type 0} (v : V) (o : Option V) (b : Bool) (has : ℕ) → cond b (Some v) o ≡ None → (o ≡ None → has < 1) → cond b 1 has < 1
undecoded_by v o true has e rest = absurd cc
undecoded_by v o false has e rest = rest e

without_decoder : {V : Type 0} (rs : Decoders V) (k : ℕ) (p : List ℕ) → decoded rs k p ≡ None → has_decoder rs k < 1
without_decoder [] k p e = omega arith
without_decoder (r ∷ rs) k p e = undecoded_by (r.1 p) (decoded rs k p) (k == r.0) (has_decoder rs k) e (without_decoder rs k p)

by_row : {A V : Type 0} (other : V) (rs : Decoders V) (k : ℕ) (p : List ℕ) (o : Option A) → decoded_as o other rs k p ≡ None → (l : A) × (o ≡ Some l) × (has_decoder rs k < 1)
by_row other rs k p None n = absurd cc
by_row other rs k p (Some l) n = (l, refl, without_decoder rs k p n)

-- Two values that are decoded are compared by decoding, and two that aren't by `otherwise`. A value that owns a vector or
-- a string isn't decoded, because only `==` compares these.
pub injective_or : {A V : Type 0} (equal : V → V → Bool) (reflexive : (v : V) → equal v v ≡ true) (entry : V → Attribute) (named : V → Type 0) (line : ℕ → Option A) (other : Attribute → V) (rs : Decoders V)
    → RoundTripIfDecoded entry named (value_of line other rs) → Otherwise equal entry named line rs → IsInjective equal entry named
injective_or equal reflexive entry named line other rs round_trip otherwise v w p q e =
    let value = value_of line other rs in
    let same : value (entry v) ≡ value (entry w) = ap value e in
    by_decoding equal v w (value (entry v)) (reflexive v)
    (sym (round_trip v p) ∙ same ∙ round_trip w q ∙ ap (λ d. if_decoded d w) (sym same))
    (λ n. let r = by_row (other (entry v)) rs _ (entry v).payload (line (proper_kind (entry v).kind)) n in
    otherwise v w r.0 r.0 r.1 (ap (λ (a : Attribute). line (proper_kind a.kind)) (sym e) ∙ r.1) r.2 p q (ap (λ (a : Attribute). a.kind) e) (ap (λ (a : Attribute). a.payload) e))
