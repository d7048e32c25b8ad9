-- Zeros written into bytes.
use Rattle.std.proofs.Common.{◌≡◌, ℕ, ◌+◌, ◌≤◌, Bool, true, false, cond, List, ◌++◌, length, take, drop, refl, sym, ap, ◌∙◌, append_assoc, arith}
use Rattle.std.specs.Prelude.{nat_eq, nat_le}
use Rattle.std.proofs.lemmas.Bool.{and_parts, leb-true}
use Rattle.std.proofs.lemmas.List.{length-append, length-take-le, length-drop, drop-drop, take-append-le, drop-append-le}
use Rattle.std.proofs.Math.Seq.{take-append-add, drop-append-add}
use Rattle.std.proofs.lemmas.Slice.{take-put_mid_below, drop-put_mid}
use borrow.Rule.Slice.PartMut.{put_mid}
use Rattle.netlink_packet_core_grammar.specs.Attributes.{zeros}
use Rattle.netlink_packet_core_grammar.specs.Frames.{frame_length, frame_type}
use Rattle.link_capture_numbers.specs.Cleared.{zeros_at, repeats_request, first_frame_cleared}

as_put : (offset : ℕ) (c : List ℕ) → zeros_at offset c ≡ put_mid offset 8 c (zeros 8)
unfolding zeros_at
as_put offset c = ap (λ l. take offset c ++ (zeros 8 ++ l)) (sym (drop-drop 8 offset c))

pub length-zeros : (offset : ℕ) (c : List ℕ) → offset + 8 ≤ length c → length (zeros_at offset c) ≡ length c
unfolding zeros_at
length-zeros offset c h =
    let cleared_first = length-take-le offset c (omega arith) in
    let rest = length-drop (offset + 8) c in
    let all = length-append (take offset c) (zeros 8 ++ drop (offset + 8) c) in
    let more = length-append (zeros 8) (drop (offset + 8) c) in
    let eight : length (zeros 8) ≡ 8 = refl in
    omega (arith, cleared_first, rest, all, more, eight)

pub drop-zeros : (offset n : ℕ) (c : List ℕ) → offset + 8 ≤ n → offset ≤ length c → drop n (zeros_at offset c) ≡ drop n c
drop-zeros offset n c p q = ap (drop n) (as_put offset c) ∙ drop-put_mid offset 8 c (zeros 8) n p q refl

pub take-zeros : (offset n : ℕ) (c : List ℕ) → n ≤ offset → offset ≤ length c → take n (zeros_at offset c) ≡ take n c
take-zeros offset n c p q = ap (take n) (as_put offset c) ∙ take-put_mid_below offset 8 c (zeros 8) n p q

-- a repeated header is inside the frame
pub repeated : (c : List ℕ) → repeats_request c ≡ true → 36 ≤ frame_length c
repeated c h = leb-true 36 (frame_length c) (and_parts (nat_eq (frame_type c) 2) (nat_le 36 (frame_length c)) h).1

-- Bytes that begin with a whole frame, before and after clearing: as long as before, and the same after the frame and
-- before the numbers.
pub record ClearedFirst (c d : List ℕ) : Type 0 where
  pub size : length d ≡ length c
  pub following : (n : ℕ) → frame_length c ≤ n → drop n d ≡ drop n c
  pub before : take 8 d ≡ take 8 c

first_frame_by : (c : List ℕ) (b : Bool) → repeats_request c ≡ b → 16 ≤ frame_length c → frame_length c ≤ length c → ClearedFirst c (cond b (zeros_at 28 (zeros_at 8 c)) (zeros_at 8 c))
first_frame_by c false h l m = record {
  size = length-zeros 8 c (omega (arith, l, m));
  following = λ n k. drop-zeros 8 n c (omega (arith, l, k)) (omega (arith, l, m));
  before = take-zeros 8 8 c (omega arith) (omega (arith, l, m));
}
first_frame_by c true h l m =
    let long = repeated c h in
    let first = length-zeros 8 c (omega (arith, l, m)) in
    record {
      size = length-zeros 28 (zeros_at 8 c) (omega (arith, first, long, m)) ∙ first;
      following = λ n k. drop-zeros 28 n (zeros_at 8 c) (omega (arith, long, k)) (omega (arith, first, long, m)) ∙ drop-zeros 8 n c (omega (arith, l, k)) (omega (arith, l, m));
      before = take-zeros 28 8 (zeros_at 8 c) (omega arith) (omega (arith, first, long, m)) ∙ take-zeros 8 8 c (omega arith) (omega (arith, l, m));
    }

pub cleared_first : (c : List ℕ) → 16 ≤ frame_length c → frame_length c ≤ length c → ClearedFirst c (first_frame_cleared c)
unfolding first_frame_cleared
cleared_first c l m = first_frame_by c (repeats_request c) refl l m

-- ---- zeros after and before other bytes

pub zeros_after : (offset n : ℕ) (prefix' c : List ℕ) → length prefix' ≡ n → zeros_at (n + offset) (prefix' ++ c) ≡ prefix' ++ zeros_at offset c
unfolding zeros_at
zeros_after offset n prefix' c e =
    let k : length prefix' + (offset + 8) ≡ n + offset + 8 = omega (arith, e) in
    ap (λ m. take (m + offset) (prefix' ++ c) ++ (zeros 8 ++ drop (n + offset + 8) (prefix' ++ c))) (sym e)
    ∙ ap (λ z. z ++ (zeros 8 ++ drop (n + offset + 8) (prefix' ++ c))) (take-append-add prefix' c offset)
    ∙ ap (λ m. (prefix' ++ take offset c) ++ (zeros 8 ++ drop m (prefix' ++ c))) (sym k)
    ∙ ap (λ z. (prefix' ++ take offset c) ++ (zeros 8 ++ z)) (drop-append-add prefix' c (offset + 8))
    ∙ append_assoc prefix' (take offset c) (zeros 8 ++ drop (offset + 8) c)

pub zeros_before : (offset : ℕ) (c more : List ℕ) → offset + 8 ≤ length c → zeros_at offset (c ++ more) ≡ zeros_at offset c ++ more
unfolding zeros_at
zeros_before offset c more h =
    ap (λ z. z ++ (zeros 8 ++ drop (offset + 8) (c ++ more))) (take-append-le offset c more (omega (arith, h)))
    ∙ ap (λ z. take offset c ++ (zeros 8 ++ z)) (drop-append-le (offset + 8) c more h)
    ∙ sym (ap (λ z. take offset c ++ z) (append_assoc (zeros 8) (drop (offset + 8) c) more))
    ∙ sym (append_assoc (take offset c) (zeros 8 ++ drop (offset + 8) c) more)
