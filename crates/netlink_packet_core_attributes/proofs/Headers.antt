-- The header's numbers of two bytes, and the payload after them.
use Rattle.std.proofs.Common.{◌≡◌, ℕ, ◌+◌, ◌-◌, ◌<◌, ◌/◌, ◌%◌, List, [], ◌∷◌, ◌++◌, length, take, drop, sym, ap, ◌∙◌, append_assoc, length-drop, ◌≤◌, arith}
use Rattle.std.proofs.lemmas.List.{drop_at, length-take-le}
use borrow.Rule.Slice.PartMut.{put_mid}
use Rattle.netlink_packet_core_grammar.specs.Attributes.{Attribute, nla_align, attribute_length, attribute_header, attribute_text, zeros}
use Rattle.netlink_packet_core_grammar.specs.Numbers.{as_usize}
use Rattle.netlink_packet_core_attributes.specs.AttributeHeaders.{with_header}
use Rattle.std.specs.Int.{w16, to_le_bytes}

pub two_bytes : (n : ℕ) → n < 65536 → to_le_bytes w16 n ≡ n % 256 ∷ n / 256 ∷ []
two_bytes n h = let e : n / 256 % 256 ≡ n / 256 = omega arith in ap (λ k. n % 256 ∷ k ∷ []) e

-- once the payload is written between header and padding, the bytes are the attribute's encoding
with_payload : (e : Attribute) (space rest : List ℕ) → length space ≡ length e.payload → put_mid 4 (length e.payload) (attribute_header (attribute_length e) e.kind ++ (space ++ (zeros (nla_align (attribute_length e) - attribute_length e) ++ rest))) e.payload ≡ attribute_text e ++ rest
unfolding attribute_text
with_payload e space rest l =
    let header = attribute_header (attribute_length e) e.kind in
    let padding = zeros (nla_align (attribute_length e) - attribute_length e) in
    let d : drop (length e.payload) (space ++ (padding ++ rest)) ≡ padding ++ rest = drop_at space (padding ++ rest) (length e.payload) l in
    ap (λ z. header ++ (e.payload ++ z)) d ∙ ap (λ z. header ++ z) (sym (append_assoc e.payload padding rest))

-- a header is written, and then the payload after it
pub header_and_payload : (e : Attribute) (kind size : ℕ) (old header value : List ℕ) → attribute_length e ≤ 65535 → nla_align (attribute_length e) ≤ length old → kind ≡ e.kind → size ≡ as_usize (length e.payload) → header ≡ with_header kind size old → value ≡ e.payload → put_mid 4 (4 + size - 4) header value ≡ attribute_text e ++ drop (nla_align (attribute_length e)) old
header_and_payload e kind size old header value fits capacity k s h v =
    let n = length e.payload in
    let is : size ≡ n = rw s (omega arith) in
    let middle : 4 + size - 4 ≡ n = omega (arith, is) in
    let space : length (take n (drop 4 old)) ≡ n = length-take-le n (drop 4 old) (omega (arith, length-drop 4 old, capacity)) in
    rw (middle, h, v, is, k) (with_payload e (take n (drop 4 old)) (drop (nla_align (attribute_length e)) old) space)

pub ruleset headers = (two_bytes)
