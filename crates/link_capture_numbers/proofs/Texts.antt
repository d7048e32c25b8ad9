-- The text of a frame with its numbers cleared.
use Rattle.std.proofs.Common.{◌≡◌, ℕ, ◌+◌, ◌-◌, ◌^◌, ◌<◌, ◌≤◌, Bool, true, false, cond, List, [], ◌++◌, length, take, drop, refl, sym, ap, ◌∙◌, append-nil, arith}
use Rattle.std.specs.Prelude.{get_or, ◌&&◌, nat_eq, nat_le}
use Rattle.std.proofs.lemmas.Bool.{eqb-true}
use Rattle.std.proofs.lemmas.List.{length-append, length-take-le, length-drop, take-take, drop_all, get_or-take, get_or-drop}
use Rattle.netlink_packet_core_grammar.specs.Attributes.{nla_align, zeros}
use Rattle.netlink_packet_core_grammar.specs.Frames.{frame_length, frame_type, frame_text}
use Rattle.netlink_packet_core_grammar.specs.Numbers.{u16_at, le4}
use Rattle.netlink_packet_core_grammar.proofs.Sizes.{length-le4}
use Rattle.link_capture_numbers.specs.Cleared.{zeros_at, repeats_request, first_frame_cleared}
use Rattle.link_capture_numbers.proofs.Zeros.{length-zeros, zeros_after, zeros_before}
use Rattle.link_capture_grammar.proofs.Normal.{text_length, text_type}

-- the padding of a text
abbrev padding : List ℕ → List ℕ
padding text = zeros (nla_align (16 + length text) - (16 + length text))

-- ---- the numbers of the header

fields_cleared : (c : List ℕ) → 16 ≤ length c → zeros_at 4 (take 12 (drop 4 c)) ≡ take 4 (drop 4 c) ++ zeros 8
unfolding zeros_at
fields_cleared c h =
    let size : length (take 12 (drop 4 c)) ≡ 12 = length-take-le 12 (drop 4 c) (omega (arith, h, length-drop 4 c)) in
    ap (λ z. z ++ (zeros 8 ++ drop 12 (take 12 (drop 4 c)))) (take-take 4 12 (drop 4 c) (omega arith))
    ∙ ap (λ z. take 4 (drop 4 c) ++ (zeros 8 ++ z)) (drop_all 12 (take 12 (drop 4 c)) (omega (arith, size)))
    ∙ ap (λ z. take 4 (drop 4 c) ++ z) (append-nil (zeros 8))

pub header_cleared : (c d text : List ℕ) → 16 ≤ length c → take 12 (drop 4 d) ≡ take 4 (drop 4 c) ++ zeros 8 → zeros_at 8 (frame_text c text) ≡ frame_text d text
unfolding frame_text
header_cleared c d text h e =
    let size : length (take 12 (drop 4 c)) ≡ 12 = length-take-le 12 (drop 4 c) (omega (arith, h, length-drop 4 c)) in
    let l : List ℕ = le4 (16 + length text) in
    zeros_after 4 4 l (take 12 (drop 4 c) ++ (text ++ padding text)) (length-le4 (16 + length text))
    ∙ ap (λ z. l ++ z) (zeros_before 4 (take 12 (drop 4 c)) (text ++ padding text) (omega (arith, size)))
    ∙ ap (λ z. l ++ (z ++ (text ++ padding text))) (fields_cleared c h ∙ sym e)

-- ---- the numbers of a repeated header

pub request_cleared : (d text : List ℕ) → length (take 12 (drop 4 d)) ≡ 12 → 20 ≤ length text → zeros_at 28 (frame_text d text) ≡ frame_text d (zeros_at 12 text)
unfolding frame_text
request_cleared d text e h =
    let m : List ℕ = take 12 (drop 4 d) in
    let l : List ℕ = le4 (16 + length text) in
    let same : length (zeros_at 12 text) ≡ length text = length-zeros 12 text (omega (arith, h)) in
    zeros_after 24 4 l (m ++ (text ++ padding text)) (length-le4 (16 + length text))
    ∙ ap (λ z. l ++ z) (zeros_after 12 12 m (text ++ padding text) e)
    ∙ ap (λ z. l ++ (m ++ z)) (zeros_before 12 text (padding text) (omega (arith, h)))
    ∙ ap (λ n. le4 (16 + n) ++ (m ++ (zeros_at 12 text ++ zeros (nla_align (16 + n) - (16 + n))))) (sym same)

-- ---- whether a text repeats a header

type_byte : (x y : List ℕ) (i : ℕ) → i < 12 → take 12 (drop 4 x) ≡ take 12 (drop 4 y) → get_or x (4 + i) 0 ≡ get_or y (4 + i) 0
type_byte x y i l e =
    sym (get_or-drop 4 x i 0) ∙ sym (get_or-take 12 (drop 4 x) i 0 l) ∙ ap (λ z. get_or z i 0) e ∙ get_or-take 12 (drop 4 y) i 0 l ∙ get_or-drop 4 y i 0

type_kept : (x y : List ℕ) → take 12 (drop 4 x) ≡ take 12 (drop 4 y) → frame_type x ≡ frame_type y
unfolding u16_at
type_kept x y e = rw (type_byte x y 0 (omega arith) e, type_byte x y 1 (omega arith) e) refl

repeats_by : (c : List ℕ) (t : ℕ) (b : Bool) → nat_eq (frame_type c) 2 ≡ b → (frame_type c ≡ 2 → t ≡ frame_length c) → (b && nat_le 36 t) ≡ (b && nat_le 36 (frame_length c))
repeats_by c t false e h = refl
repeats_by c t true e h = ap (λ n. nat_le 36 n) (h (eqb-true (frame_type c) 2 e))

pub text_repeats : (c text more : List ℕ) → 16 ≤ length c → 16 + length text < 2 ^ 32 → (frame_type c ≡ 2 → 16 + length text ≡ frame_length c) → repeats_request (frame_text c text ++ more) ≡ repeats_request c
text_repeats c text more h l q =
    ap (λ t. nat_eq t 2 && nat_le 36 (frame_length (frame_text c text ++ more))) (text_type c text more h)
    ∙ ap (λ n. nat_eq (frame_type c) 2 && nat_le 36 n) (text_length c text more l)
    ∙ repeats_by c (16 + length text) (nat_eq (frame_type c) 2) refl q

-- ---- the numbers of both headers

-- a body's text with the numbers of the header that it repeats cleared
abbrev pub text_cleared : Bool → List ℕ → List ℕ
text_cleared b text = cond b (zeros_at 12 text) text

cleared_by : (c d text : List ℕ) (b : Bool) → 16 ≤ length c → take 12 (drop 4 d) ≡ take 4 (drop 4 c) ++ zeros 8 → (b ≡ true → 20 ≤ length text) → cond b (zeros_at 28 (zeros_at 8 (frame_text c text))) (zeros_at 8 (frame_text c text)) ≡ frame_text d (text_cleared b text)
cleared_by c d text false h e q = header_cleared c d text h e
cleared_by c d text true h e q =
    let some : length (take 4 (drop 4 c)) ≡ 4 = length-take-le 4 (drop 4 c) (omega (arith, h, length-drop 4 c)) in
    let size : length (take 12 (drop 4 d)) ≡ 12 = ap length e ∙ length-append (take 4 (drop 4 c)) (zeros 8) ∙ ap (λ n. n + 8) some in
    ap (zeros_at 28) (header_cleared c d text h e) ∙ request_cleared d text size (q refl)

pub frame_cleared : (c d text : List ℕ) → 16 ≤ length c → 16 + length text < 2 ^ 32 → take 12 (drop 4 d) ≡ take 4 (drop 4 c) ++ zeros 8 → (frame_type c ≡ 2 → 16 + length text ≡ frame_length c) → (repeats_request c ≡ true → 20 ≤ length text) → first_frame_cleared (frame_text c text) ≡ frame_text d (text_cleared (repeats_request c) text)
unfolding first_frame_cleared
frame_cleared c d text h l e q r =
    let all : frame_text c text ++ [] ≡ frame_text c text = append-nil (frame_text c text) in
    let same : repeats_request (frame_text c text) ≡ repeats_request c = ap repeats_request (sym all) ∙ text_repeats c text [] h l q in
    ap (λ b. cond b (zeros_at 28 (zeros_at 8 (frame_text c text))) (zeros_at 8 (frame_text c text))) same
    ∙ cleared_by c d text (repeats_request c) h e r
