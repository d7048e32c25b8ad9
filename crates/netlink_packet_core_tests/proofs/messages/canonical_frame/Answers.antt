use Rattle.std.proofs.Common.{◌≡◌, ℕ, ◌≤◌, List, [], ◌++◌, length, take, drop, Some, sym, ◌∙◌, arith, append-nil}
use Rattle.std.proofs.lemmas.List.{take_at, drop_all}
use Rattle.netlink_packet_core.specs.Numbers.{as_usize}
use Rattle.netlink_packet_core.specs.Frames.{frame_body}
use Rattle.netlink_packet_core.specs.TypedBodies.{TypedBody}
use Rattle.netlink_packet_core_tests.proofs.messages.canonical_frame.Goals as goal

filled : (s items new : List ℕ) (n size len : ℕ) → new ≡ s ++ drop n items → length s ≡ n → size ≡ as_usize n → size ≤ 4294967295 → length items ≡ size → len ≡ size → take len (new ++ drop (length new) items) ≡ s
filled s items new n size len e a b c d f =
    let k : length items ≤ n = omega arith in
    let z : drop n items ≡ [] = drop_all n items k in
    let v : new ≡ s = rw (z, append-nil s) at e in
    let j : length s ≡ len = omega arith in
    rw v (take_at s (drop (length s) items) len j)

same : (x y : TypedBody) → Some x ≡ Some y → y ≡ x
same x y e = cc

pub returns : goal.returns
returns c =
    let size = rw c.finalize.ensures at c.messages_are_frames.ensures.size in
    let e = c.serialize.ensures in
    let i = c.as_mut_slice.ensures.value in
    let j = c.in-Ok.ensures.len in
    let b = c.buffer_len-size.ensures in
    let t = c.if-size.false in
    let law = c.read_frames_keep_their_header.ensures (frame_body c.args.frame.now) (λ x h. same _ _ h) in
    filled _ c.in-Ok.out.items c.serialize.new.buffer _ c.buffer_len-size.result c.in-Ok.out.len (rw (i, c.finalize.ensures) at e) size b t (sym c.in-Ok.out.ok.0 ∙ j) j ∙ law
