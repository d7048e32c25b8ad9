-- The start of a capture whose numbers are cleared, compared with that of the capture.
use Rattle.std.proofs.Common.{◌≡◌, ℕ, ◌+◌, ◌-◌, ◌<◌, ◌≤◌, Bool, true, false, cond, List, ◌++◌, length, take, drop, min, refl, sym, ap, ◌∙◌, arith}
use Rattle.std.specs.Prelude.{get_or}
use Rattle.std.proofs.lemmas.List.{length-append, length-take, length-take-le, length-drop, take-append-le, drop-append-le, drop-take, take-take, take_at, take-append-drop, get_or-take}
use Rattle.std.proofs.Math.Seq.{take-append-add, drop-append-add}
use Rattle.netlink_packet_core_grammar.specs.Attributes.{nla_align, zeros}
use Rattle.netlink_packet_core_grammar.specs.Frames.{frame_length, frame_type, frame_body}
use Rattle.netlink_packet_core_grammar.specs.Numbers.{u16_at, u32_at}
use Rattle.link_capture_numbers.specs.Cleared.{zeros_at, repeats_request, first_frame_cleared}
use Rattle.link_capture_numbers.proofs.Zeros.{cleared_first, length-zeros, drop-zeros, take-zeros, repeated, zeros_after, zeros_before}

pub byte_of : (c d : List ℕ) (i : ℕ) → i < 8 → take 8 d ≡ take 8 c → get_or d i 0 ≡ get_or c i 0
byte_of c d i l e = sym (get_or-take 8 d i 0 l) ∙ ap (λ z. get_or z i 0) e ∙ get_or-take 8 c i 0 l

pub length_same : (c d : List ℕ) → take 8 d ≡ take 8 c → frame_length d ≡ frame_length c
unfolding u32_at
length_same c d e = rw (byte_of c d 0 (omega arith) e, byte_of c d 1 (omega arith) e, byte_of c d 2 (omega arith) e, byte_of c d 3 (omega arith) e) refl

pub type_same : (c d : List ℕ) → take 8 d ≡ take 8 c → frame_type d ≡ frame_type c
unfolding u16_at
type_same c d e = rw (byte_of c d 4 (omega arith) e, byte_of c d 5 (omega arith) e) refl

-- the header of a message whose numbers are zero
header_zeros : (c : List ℕ) → 8 ≤ length c → take 16 (zeros_at 8 c) ≡ take 8 c ++ zeros 8
unfolding zeros_at
header_zeros c h =
    let eight : length (take 8 c) ≡ 8 = length-take-le 8 c h in
    ap (λ n. take (n + 8) (take 8 c ++ (zeros 8 ++ drop (8 + 8) c))) (sym eight) ∙ take-append-add (take 8 c) (zeros 8 ++ drop (8 + 8) c) 8 ∙ ap (λ z. take 8 c ++ z) (take_at (zeros 8) (drop (8 + 8) c) 8 refl)

header_by : (c : List ℕ) (b : Bool) → repeats_request c ≡ b → 16 ≤ frame_length c → frame_length c ≤ length c → take 16 (cond b (zeros_at 28 (zeros_at 8 c)) (zeros_at 8 c)) ≡ take 8 c ++ zeros 8
header_by c false e l m = header_zeros c (omega (arith, l, m))
header_by c true e l m =
    let long = repeated c e in
    let size = length-zeros 8 c (omega (arith, l, m)) in
    take-zeros 28 16 (zeros_at 8 c) (omega arith) (omega (arith, size, long, m)) ∙ header_zeros c (omega (arith, l, m))

-- the body, with the numbers of a repeated header cleared
abbrev pub body_cleared : List ℕ → List ℕ
body_cleared c = cond (repeats_request c) (zeros_at 12 (frame_body c)) (frame_body c)

zeros_in_body : (n : ℕ) (x : List ℕ) → 36 ≤ n → n ≤ length x → take (n - 16) (drop 16 (zeros_at 28 x)) ≡ zeros_at 12 (take (n - 16) (drop 16 x))
zeros_in_body n x l m =
    let head : List ℕ = take 16 x in
    let rest : List ℕ = drop 16 x in
    let k : ℕ = n - 16 in
    let sixteen : length head ≡ 16 = length-take-le 16 x (omega (arith, l, m)) in
    let left : length rest ≡ length x - 16 = length-drop 16 x in
    let cut : zeros_at 28 x ≡ head ++ zeros_at 12 rest = ap (zeros_at 28) (sym (take-append-drop 16 x)) ∙ zeros_after 12 16 head rest sixteen in
    let following : drop 16 (zeros_at 28 x) ≡ zeros_at 12 rest = ap (drop 16) cut ∙ ap (λ j. drop j (head ++ zeros_at 12 rest)) (sym (let e : length head + 0 ≡ 16 = omega (arith, sixteen) in e)) ∙ drop-append-add head (zeros_at 12 rest) 0 in
    let inside : length (take k rest) ≡ k = length-take-le k rest (omega (arith, left, l, m)) in
    let split : zeros_at 12 rest ≡ zeros_at 12 (take k rest) ++ drop k rest = ap (zeros_at 12) (sym (take-append-drop k rest)) ∙ zeros_before 12 (take k rest) (drop k rest) (omega (arith, inside, l)) in
    ap (take k) (following ∙ split) ∙ take_at (zeros_at 12 (take k rest)) (drop k rest) k (length-zeros 12 (take k rest) (omega (arith, inside, l)) ∙ inside)

body_by : (c : List ℕ) (b : Bool) → repeats_request c ≡ b → 16 ≤ frame_length c → frame_length c ≤ length c → take (frame_length c - 16) (drop 16 (cond b (zeros_at 28 (zeros_at 8 c)) (zeros_at 8 c))) ≡ cond b (zeros_at 12 (frame_body c)) (frame_body c)
body_by c false e l m = ap (take (frame_length c - 16)) (drop-zeros 8 16 c (omega arith) (omega (arith, l, m)))
body_by c true e l m =
    let long = repeated c e in
    let size = length-zeros 8 c (omega (arith, l, m)) in
    zeros_in_body (frame_length c) (zeros_at 8 c) long (omega (arith, size, m)) ∙ ap (λ z. zeros_at 12 (take (frame_length c - 16) z)) (drop-zeros 8 16 c (omega arith) (omega (arith, l, m)))

-- how the start of a cleared capture relates to that of the capture
pub record Shape (c d : List ℕ) : Type 0 where
  pub size : frame_length d ≡ frame_length c
  pub kind : frame_type d ≡ frame_type c
  pub header : take 16 d ≡ take 8 c ++ zeros 8
  pub body : frame_body d ≡ body_cleared c
  pub long : frame_length c ≤ length d

pub shape : (c more : List ℕ) → 16 ≤ frame_length c → frame_length c ≤ length c → Shape c (take (nla_align (frame_length c)) (first_frame_cleared c) ++ more)
unfolding first_frame_cleared
shape c more l m =
    let n : ℕ = frame_length c in
    let f : List ℕ = first_frame_cleared c in
    let facts = cleared_first c l m in
    let size : length f ≡ length c = facts.size in
    let cleared_result : length (take (nla_align n) f) ≡ min (nla_align n) (length f) = length-take (nla_align n) f in
    let all : length (take (nla_align n) f ++ more) ≡ length (take (nla_align n) f) + length more = length-append (take (nla_align n) f) more in
    let high : n ≤ nla_align n = omega arith in
    let reach : n ≤ length (take (nla_align n) f) = omega (arith, cleared_result, size, m, high) in
    let taken : (k : ℕ) → k ≤ n → take k (take (nla_align n) f ++ more) ≡ take k f =
    λ k h. take-append-le k (take (nla_align n) f) more (omega (arith, h, reach)) ∙ take-take k (nla_align n) f (omega (arith, h, high)) in
    let front8 : take 8 (take (nla_align n) f ++ more) ≡ take 8 c = taken 8 (omega (arith, l)) ∙ facts.before in
    let determined : frame_length (take (nla_align n) f ++ more) ≡ n = length_same c (take (nla_align n) f ++ more) front8 in
    let sum : 16 + (n - 16) ≡ n = omega (arith, l) in
    let cut : (x : List ℕ) → take (n - 16) (drop 16 x) ≡ drop 16 (take n x) = λ x. sym (drop-take 16 (n - 16) x) ∙ ap (λ k. drop 16 (take k x)) sum in
    record {
      size = determined;
      kind = type_same c (take (nla_align n) f ++ more) front8;
      header = taken 16 l ∙ header_by c (repeats_request c) refl l m;
      body = ap (λ k. take (k - 16) (drop 16 (take (nla_align n) f ++ more))) determined ∙ cut (take (nla_align n) f ++ more) ∙ ap (drop 16) (taken n (omega arith)) ∙ sym (cut f) ∙ body_by c (repeats_request c) refl l m;
      long = omega (arith, all, reach);
    }

-- the fields after the length
pub fields : (c d : List ℕ) → 8 ≤ length c → take 16 d ≡ take 8 c ++ zeros 8 → take 12 (drop 4 d) ≡ take 4 (drop 4 c) ++ zeros 8
fields c d h e =
    let eight : length (take 8 c) ≡ 8 = length-take-le 8 c h in
    sym (drop-take 4 12 d) ∙ ap (drop 4) e ∙ drop-append-le 4 (take 8 c) (zeros 8) (omega (arith, eight)) ∙ ap (λ z. z ++ zeros 8) (drop-take 4 4 c)
