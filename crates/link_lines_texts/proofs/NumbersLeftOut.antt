-- Lines without numbers don't depend on the numbers.
use Rattle.std.proofs.Common.{◌≡◌, ℕ, ◌+◌, ◌-◌, ◌≤◌, Bool, true, false, cond, List, [], ◌∷◌, ◌++◌, length, take, drop, refl, sym, ap, subst, ◌∙◌, arith}
use Rattle.std.specs.Prelude.{◌&&◌, nat_eq, nat_le, codes, decimal}
use Rattle.std.proofs.lemmas.Bool.{and_from, and_parts, eqb-true, le-leb}
use Rattle.std.proofs.lemmas.List.{length-take-le, length-drop, drop-drop, drop-take, take-take, take_at}
use Rattle.netlink_packet_core_grammar.specs.Attributes.{nla_align, zeros}
use Rattle.netlink_packet_core_grammar.specs.Frames.{frame_length, frame_type, frame_body, begins_with_frame}
use Rattle.netlink_packet_core_grammar.specs.Numbers.{u16_at, u32_at}
use Rattle.link_capture_numbers.specs.Cleared.{zeros_at, repeats_request, numbers_cleared}
use Rattle.link_capture_grammar.proofs.WholeFrames.{by_first_frames, length_of}
use Rattle.link_capture_numbers.proofs.Steps.{whole, stopped}
use Rattle.link_capture_numbers.proofs.Zeros.{length-zeros, drop-zeros, take-zeros, repeated}
use Rattle.link_capture_numbers.proofs.FirstFrames.{Shape, byte_of, length_same, shape, type_same}
use Rattle.link_capture_numbers.proofs.ClearedCaptures.{following}
use Rattle.link_lines_values.specs.declared.values.ShownBy.TheVariants.{Signed}
use Rattle.link_lines_values.specs.Flags.{named_flags}
use Rattle.link_lines_values.specs.Values.{value_text}
use Rattle.link_lines_texts.specs.Frames.{after_code, body_lines, code_lines, errors, flag_names, frame_lines, header_line, request_line, request_rest, rest_lines, type_text}
use Rattle.link_lines_texts.specs.Links.{labelled}
use Rattle.link_lines_texts.specs.Captures.{text_lines, without_numbers}
use Rattle.link_lines_texts.proofs.FrameUnfolding as Lines
use Rattle.link_lines_texts.proofs.FramesDetermined.{code_lines_are}

-- ---- headers with the same length, type and flags

flags_same : (c d : List ℕ) → take 8 d ≡ take 8 c → u16_at 6 d ≡ u16_at 6 c
unfolding u16_at
flags_same c d e = rw (byte_of c d 6 (omega arith) e, byte_of c d 7 (omega arith) e) refl

header_same : (c d : List ℕ) → take 8 d ≡ take 8 c → header_line false d ≡ header_line false c
unfolding header_line
header_same c d e =
    let type = type_same c d e in
    let flags = flags_same c d e in
    λ i. type_text (type i) ++ (labelled (codes " flags ") (named_flags (flag_names (type i)) (flags i)) ++ 10 ∷ [])

request_same : (c d : List ℕ) → take 8 d ≡ take 8 c → request_line false d ≡ request_line false c
unfolding request_line
request_same c d e =
    let size = length_same c d e in
    let header = header_same c d e in
    λ i. labelled (codes "  request length ") (decimal (size i)) ++ (32 ∷ header i)

-- ---- a body that repeats a request's header

after_frame_is : (g : ℕ) (r : List ℕ) → 16 ≤ length r → after_code false 2 g r ≡ request_line false r ++ rest_lines (request_rest g (u32_at 0 r)) (drop 16 r)
unfolding after_code
after_frame_is g r h = rw (le-leb 16 (length r) h)

after_frame_same : (g : ℕ) (q r : List ℕ) → 16 ≤ length q → 16 ≤ length r → take 8 q ≡ take 8 r → drop 16 q ≡ drop 16 r → after_code false 2 g q ≡ after_code false 2 g r
after_frame_same g q r l m e rest =
    let request = request_same r q e in
    let size = length_same r q e in
    after_frame_is g q l ∙ (λ i. request i ++ rest_lines (request_rest g (size i)) (rest i)) ∙ sym (after_frame_is g r m)

code_same : (g : ℕ) (b : List ℕ) → 20 ≤ length b → code_lines false 2 g (zeros_at 12 b) ≡ code_lines false 2 g b
code_same g b h =
    let z : List ℕ = zeros_at 12 b in
    let size : length z ≡ length b = length-zeros 12 b (omega (arith, h)) in
    let code : take 4 z ≡ take 4 b = take-zeros 12 4 b (omega arith) (omega (arith, h)) in
    let first : take 8 (drop 4 z) ≡ take 8 (drop 4 b) = sym (drop-take 4 8 z) ∙ ap (drop 4) (take-zeros 12 12 b (omega arith) (omega (arith, h))) ∙ drop-take 4 8 b in
    let rest : drop 16 (drop 4 z) ≡ drop 16 (drop 4 b) = drop-drop 16 4 z ∙ drop-zeros 12 20 b (omega arith) (omega (arith, h)) ∙ sym (drop-drop 16 4 b) in
    let more = after_frame_same g (drop 4 z) (drop 4 b) (omega (arith, h, size, length-drop 4 z)) (omega (arith, h, length-drop 4 b)) first rest in
    code_lines_are false 2 g z (omega (arith, h, size)) ∙ (λ i. codes "  code" ++ (value_text (Signed errors) (code i) ++ 10 ∷ more i)) ∙ sym (code_lines_are false 2 g b (omega (arith, h)))

error_is : (g : ℕ) (b : List ℕ) → body_lines false 2 g b ≡ code_lines false 2 g b
unfolding body_lines
error_is g b = refl

error_same : (t g : ℕ) (b : List ℕ) → t ≡ 2 → 20 ≤ length b → body_lines false t g (zeros_at 12 b) ≡ body_lines false t g b
error_same t g b e h = rw e (error_is g (zeros_at 12 b) ∙ code_same g b h ∙ sym (error_is g b))

body_long : (c : List ℕ) → 36 ≤ frame_length c → frame_length c ≤ length c → 20 ≤ length (frame_body c)
body_long c h l =
    let size = length-take-le (frame_length c - 16) (drop 16 c) (omega (arith, l, length-drop 16 c)) in
    omega (arith, size, h)

body_same : (c : List ℕ) (g : ℕ) (b : Bool) → repeats_request c ≡ b → frame_length c ≤ length c →
    body_lines false (frame_type c) g (cond b (zeros_at 12 (frame_body c)) (frame_body c)) ≡ body_lines false (frame_type c) g (frame_body c)
body_same c g false e l = refl
body_same c g true e l =
    let p = and_parts (nat_eq (frame_type c) 2) (nat_le 36 (frame_length c)) e in
    error_same (frame_type c) g (frame_body c) (eqb-true (frame_type c) 2 p.0) (body_long c (repeated c e) l)

-- ---- frames

-- The body of the bytes of a frame without its padding.
pub canonical_body : (n : ℕ) (c : List ℕ) → 16 ≤ n → frame_length c ≡ n → drop 16 (take n c) ≡ frame_body c
canonical_body n c h e =
    let sum : 16 + (n - 16) ≡ n = omega (arith, h) in
    ap (λ k. drop 16 (take k c)) (sym sum) ∙ drop-take 16 (n - 16) c ∙ ap (λ k. take (k - 16) (drop 16 c)) (sym e)

pub eight_same : (c d : List ℕ) → 8 ≤ length c → take 16 d ≡ take 8 c ++ zeros 8 → take 8 d ≡ take 8 c
eight_same c d h e = sym (take-take 8 16 d (omega arith)) ∙ ap (take 8) e ∙ take_at (take 8 c) (zeros 8) 8 (length-take-le 8 c h)

frame_is : (n : ℕ) (c : List ℕ) → 16 ≤ n → frame_length c ≡ n → frame_lines false (take n c) ≡ header_line false c ++ body_lines false (frame_type c) (u16_at 6 c) (frame_body c)
unfolding frame_lines
frame_is n c h e =
    let first : take 8 (take n c) ≡ take 8 c = take-take 8 n c (omega (arith, h)) in
    let header = header_same c (take n c) first in
    let type = type_same c (take n c) first in
    let flags = flags_same c (take n c) first in
    let body = canonical_body n c h e in
    λ i. header i ++ body_lines false (type i) (flags i) (body i)

frame_same : (c d : List ℕ) → 16 ≤ frame_length c → frame_length c ≤ length c → Shape c d → frame_lines false (take (frame_length c) d) ≡ frame_lines false (take (frame_length c) c)
frame_same c d l m s =
    let first = eight_same c d (omega (arith, l, m)) s.header in
    let header = header_same c d first in
    let type = s.kind in
    let flags = flags_same c d first in
    let body = s.body in
    frame_is (frame_length c) d l s.size
    ∙ (λ i. header i ++ body_lines false (type i) (flags i) (body i))
    ∙ ap (λ z. header_line false c ++ z) (body_same c (u16_at 6 c) (repeats_request c) refl m)
    ∙ sym (frame_is (frame_length c) c l refl)

-- ---- texts

-- The first frame of what is cleared.
pub cleared_shape : (c : List ℕ) → begins_with_frame c ≡ true → Shape c (numbers_cleared c)
cleared_shape c h =
    let bounds = length_of c h in
    subst (Shape c) (sym (whole c h)) (shape c (numbers_cleared (drop (nla_align (frame_length c)) c)) bounds.0 bounds.1)

pub cleared_is_frame : (c : List ℕ) → begins_with_frame c ≡ true → begins_with_frame (numbers_cleared c) ≡ true
cleared_is_frame c h =
    let d : List ℕ = numbers_cleared c in
    let bounds = length_of c h in
    let s = cleared_shape c h in
    let low = bounds.0 in
    let size = s.size in
    let long = s.long in
    and_from (nat_le 16 (length d)) (nat_le 16 (frame_length d) && nat_le (frame_length d) (length d)) (le-leb 16 (length d) (omega (arith, low, long)))
    (and_from (nat_le 16 (frame_length d)) (nat_le (frame_length d) (length d)) (le-leb 16 (frame_length d) (omega (arith, low, size))) (le-leb (frame_length d) (length d) (omega (arith, size, long))))

abbrev AreLeftOut : List ℕ → Type 0
AreLeftOut c = text_lines without_numbers (numbers_cleared c) ≡ text_lines without_numbers c

rest_left_out : (c : List ℕ) → begins_with_frame c ≡ true → AreLeftOut (drop (nla_align (frame_length c)) c) → AreLeftOut c
rest_left_out c h rest =
    let n : ℕ = frame_length c in
    let d : List ℕ = numbers_cleared c in
    let bounds = length_of c h in
    let s = cleared_shape c h in
    Lines.whole without_numbers d (cleared_is_frame c h)
    ∙ ap (λ k. frame_lines false (take k d) ++ text_lines without_numbers (drop (nla_align k) d)) s.size
    ∙ (λ i. frame_same c d bounds.0 bounds.1 s i ++ text_lines without_numbers (following c h i))
    ∙ ap (λ z. frame_lines false (take n c) ++ z) rest
    ∙ sym (Lines.whole without_numbers c h)

-- Bytes whose numbers are cleared have the same lines without numbers.
pub numbers_are_left_out : (c : List ℕ) → text_lines without_numbers (numbers_cleared c) ≡ text_lines without_numbers c
numbers_are_left_out = by_first_frames AreLeftOut (λ c h. ap (text_lines without_numbers) (stopped c h)) rest_left_out
