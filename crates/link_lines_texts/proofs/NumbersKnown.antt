-- The numbers of cleared texts are known.
use Rattle.std.proofs.Common.{◌≡◌, ℕ, ◌+◌, ◌-◌, ◌≤◌, Bool, true, false, cond, List, ◌++◌, length, take, drop, refl, sym, ap, ◌∙◌, arith}
use Rattle.std.specs.Prelude.{nat_eq, nat_le}
use Rattle.std.proofs.lemmas.Bool.{and_from, le-leb}
use Rattle.std.proofs.lemmas.List.{length-take, length-take-le, length-drop, drop-drop, drop-take, take-take, take_at, drop_at}
use Rattle.netlink_packet_core_grammar.specs.Attributes.{nla_align, zeros}
use Rattle.netlink_packet_core_grammar.specs.Bytes.{AreBytes}
use Rattle.netlink_packet_core_grammar.specs.Frames.{frame_length, frame_type, frame_body, begins_with_frame}
use Rattle.netlink_packet_core_grammar.specs.Numbers.{u16_at, u32_at}
use Rattle.link_capture_numbers.specs.Cleared.{zeros_at, repeats_request, first_frame_cleared, numbers_cleared}
use Rattle.link_capture_grammar.proofs.WholeFrames.{by_first_frames, length_of}
use Rattle.link_capture_numbers.proofs.Steps.{whole, stopped}
use Rattle.link_capture_numbers.proofs.FirstFrames.{body_cleared, byte_of, length_same, type_same}
use Rattle.link_lines_texts.specs.Determination.{HasNoNumbers, NumbersAreKnown}
use Rattle.link_lines_texts.proofs.HeadersDetermined.{u32_after}
use Rattle.link_lines_texts.proofs.NumbersLeftOut.{cleared_shape, canonical_body}
use Rattle.netlink_packet_core_grammar.proofs.Bytes.{AreBytes-append, AreBytes-drop, AreBytes-take}

-- ---- zeros over both numbers

second_same : (c d : List ℕ) → take 8 d ≡ take 8 c → u32_at 4 d ≡ u32_at 4 c
unfolding u32_at
second_same c d e = rw (byte_of c d 4 (omega arith) e, byte_of c d 5 (omega arith) e, byte_of c d 6 (omega arith) e, byte_of c d 7 (omega arith) e) refl

no_number : (u32_at 0 (zeros 8) ≡ 0) × (u32_at 4 (zeros 8) ≡ 0)
unfolding u32_at
no_number = (refl, refl)

of_zeros : (p : List ℕ) → take 8 (drop 8 p) ≡ zeros 8 → HasNoNumbers p
of_zeros p e = record {
  sequence = sym (u32_after 8 p) ∙ length_same (zeros 8) (drop 8 p) e ∙ no_number.0;
  port = sym (u32_after 12 p) ∙ ap (u32_at 0) (sym (drop-drop 4 8 p)) ∙ u32_after 4 (drop 8 p) ∙ second_same (zeros 8) (drop 8 p) e ∙ no_number.1;
}

-- ---- the first frame of cleared bytes

frame_zeros : (c d : List ℕ) (n : ℕ) → 16 ≤ n → 8 ≤ length c → take 16 d ≡ take 8 c ++ zeros 8 → take 8 (drop 8 (take n d)) ≡ zeros 8
frame_zeros c d n l h e =
    sym (drop-take 8 8 (take n d)) ∙ ap (drop 8) (take-take 16 n d l ∙ e) ∙ drop_at (take 8 c) (zeros 8) 8 (length-take-le 8 c h)

request_zeros : (b : List ℕ) → 20 ≤ length b → take 8 (drop 8 (drop 4 (zeros_at 12 b))) ≡ zeros 8
unfolding zeros_at
request_zeros b h =
    ap (take 8) (drop-drop 8 4 (zeros_at 12 b) ∙ drop_at (take 12 b) (zeros 8 ++ drop 20 b) 12 (length-take-le 12 b (omega (arith, h))))
    ∙ take_at (zeros 8) (drop 20 b) 8 refl

repeats : (c : List ℕ) → frame_type c ≡ 2 → 36 ≤ frame_length c → repeats_request c ≡ true
repeats c t l = and_from (nat_eq (frame_type c) 2) (nat_le 36 (frame_length c)) (ap (λ n. nat_eq n 2) t) (le-leb 36 (frame_length c) l)

cleared_request : (c d f : List ℕ) → frame_length c ≤ length c → drop 16 f ≡ frame_body d → frame_body d ≡ body_cleared c → length f ≤ frame_length c → frame_type c ≡ 2 → 20 ≤ length (drop 16 f) →
    HasNoNumbers (drop 4 (drop 16 f))
cleared_request c d f m own body l t h =
    let size = length-drop 16 f in
    let long : 36 ≤ frame_length c = omega (arith, size, l, h) in
    let b : List ℕ = frame_body c in
    let known = length-take-le (frame_length c - 16) (drop 16 c) (omega (arith, m, length-drop 16 c)) in
    let is : drop 16 f ≡ zeros_at 12 b = own ∙ body ∙ ap (λ r. cond r (zeros_at 12 b) b) (repeats c t long) in
    of_zeros (drop 4 (drop 16 f)) (ap (λ z. take 8 (drop 8 (drop 4 z))) is ∙ request_zeros b (omega (arith, known, long)))

pub known_first : (c : List ℕ) → begins_with_frame c ≡ true → NumbersAreKnown false (take (frame_length c) (numbers_cleared c))
known_first c h =
    let n : ℕ = frame_length c in
    let d : List ℕ = numbers_cleared c in
    let bounds = length_of c h in
    let low = bounds.0 in
    let high = bounds.1 in
    let s = cleared_shape c h in
    let first : take 8 (take n d) ≡ take 8 d = take-take 8 n d (omega (arith, low)) in
    let type : u16_at 4 (take n d) ≡ frame_type c = type_same d (take n d) first ∙ s.kind in
    record {
      own = of_zeros (take n d) (frame_zeros c d n low (omega (arith, low, high)) s.header);
      request = λ t l. cleared_request c d (take n d) high (canonical_body n d low s.size) s.body (omega (arith, length-take n d)) (sym type ∙ t) l;
    }

-- ---- cleared bytes are bytes

zeros_bytes : (offset : ℕ) (c : List ℕ) → AreBytes c → AreBytes (zeros_at offset c)
unfolding zeros_at
zeros_bytes offset c h =
    AreBytes-append (take offset c) (zeros 8 ++ drop (offset + 8) c) (AreBytes-take offset c h)
    (AreBytes-append (zeros 8) (drop (offset + 8) c) (omega arith, (omega arith, (omega arith, (omega arith, (omega arith, (omega arith, (omega arith, (omega arith, tt)))))))) (AreBytes-drop (offset + 8) c h))

first_frame_by : (c : List ℕ) (b : Bool) → AreBytes c → AreBytes (cond b (zeros_at 28 (zeros_at 8 c)) (zeros_at 8 c))
first_frame_by c false h = zeros_bytes 8 c h
first_frame_by c true h = zeros_bytes 28 (zeros_at 8 c) (zeros_bytes 8 c h)

first_is_frame : (c : List ℕ) → AreBytes c → AreBytes (first_frame_cleared c)
unfolding first_frame_cleared
first_is_frame c h = first_frame_by c (repeats_request c) h

bytes_after_frame : (c : List ℕ) → begins_with_frame c ≡ true → (AreBytes (drop (nla_align (frame_length c)) c) → AreBytes (numbers_cleared (drop (nla_align (frame_length c)) c))) → AreBytes c → AreBytes (numbers_cleared c)
bytes_after_frame c h rest a =
    let n : ℕ = nla_align (frame_length c) in
    rw (whole c h) (AreBytes-append (take n (first_frame_cleared c)) (numbers_cleared (drop n c)) (AreBytes-take n (first_frame_cleared c) (first_is_frame c a)) (rest (AreBytes-drop n c a)))

pub cleared_bytes : (c : List ℕ) → AreBytes c → AreBytes (numbers_cleared c)
cleared_bytes = by_first_frames (λ c. AreBytes c → AreBytes (numbers_cleared c)) (λ c h a. rw (stopped c h) a) bytes_after_frame
