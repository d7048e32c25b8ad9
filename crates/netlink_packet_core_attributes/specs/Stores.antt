-- The items of a vector once a part of it was written.
use Rattle.std.specs.Prelude.{◌≡◌, ◌≤◌, ℕ, ◌+◌, List, ◌++◌, length, take, drop, Vec}
use Rattle.std.proofs.Common.{◌∙◌, ap, arith, length-append, length-drop}
use Rattle.std.proofs.lemmas.List.{with_items_is, drop-drop, length-take-le}
use Rattle.std.specs.Vec.{with_items_from}
use Rattle.netlink_packet_core_grammar.specs.Bytes.{put_at}

-- Writing w into a vector from index i on yields the items of `put_at`.
pub with_items_from_is : {Z : Type 0} (v : Vec ℕ Z) (i : ℕ) (w : List ℕ) → i + length w ≤ length v.items →
    (with_items_from v i w).items ≡ put_at i w v.items
with_items_from_is v i w h =
    let tail : take i v.items ++ (w ++ drop (length w) (drop i v.items)) ≡ put_at i w v.items =
    ap (λ r. take i v.items ++ (w ++ r)) (drop-drop (length w) i v.items) in
    let prefix = length-take-le i v.items (omega arith) in
    let size = v.ok.0 in
    let whole : length (take i v.items ++ (w ++ drop (length w) (drop i v.items))) ≡ v.len =
    omega (
      arith,
      length-append (take i v.items) (w ++ drop (length w) (drop i v.items)),
      length-append w (drop (length w) (drop i v.items)),
      length-drop (length w) (drop i v.items),
      length-drop i v.items,
    ) in
    with_items_is v _ whole ∙ tail
