-- The first message of some bytes, and a fault of its header.
use Rattle.std.proofs.Common.{◌≡◌, ℕ, Bool, true, false, cond, List, length, take, drop, Err, refl, sym, ap, subst, ◌∙◌, arith}
use Rattle.std.specs.Prelude.{nat_lt}
use Rattle.std.proofs.lemmas.List.{length-take, take-append-drop}
use Rattle.netlink_packet_core_grammar.proofs.Numbers.{u32_at-append}
use Rattle.netlink_packet_core_grammar.specs.Frames.{BeginsWithFrame, frame_length}
use Rattle.netlink_packet_core_grammar.specs.Numbers.{u32_at}
use Rattle.link_capture_grammar.specs.Captures.{Judged, checked_header}
use Rattle.link_capture_grammar.specs.declared.fault.FaultKind.{FaultKind}
use Rattle.link_capture_grammar.specs.declared.fault.FaultKind.TheVariants.{Cut, ShortLength, OverLimit}
use Rattle.link_lines.specs.Messages.{frame_of, is_of_body}

-- The first message without what follows it is a message too.
pub frame_is_frame : (c : List ℕ) → BeginsWithFrame c → BeginsWithFrame (frame_of c)
frame_is_frame c f =
    let n = frame_length c in
    let size : length (take n c) ≡ n = omega (arith, length-take n c, f.within) in
    let same : frame_length c ≡ frame_length (take n c) = ap (u32_at 0) (sym (take-append-drop n c)) ∙ u32_at-append (take n c) (drop n c) (omega (arith, size, f.covers_header)) in
    record {
      has_header = omega (arith, size, f.covers_header);
      covers_header = omega (arith, same, f.covers_header);
      within = omega (arith, same, size);
    }

header_by : (a b c d : Bool) (kind : FaultKind) (j : Judged) → j ≡ cond a (Err Cut) (cond b (Err ShortLength) (cond c (Err OverLimit) (cond d (Err Cut) (Err Cut)))) → j ≡ Err kind → is_of_body kind ≡ false
header_by true b c d kind j e f = let k : Cut ≡ kind = cc in subst (λ x. is_of_body x ≡ false) k refl
header_by false true c d kind j e f = let k : ShortLength ≡ kind = cc in subst (λ x. is_of_body x ≡ false) k refl
header_by false false true d kind j e f = let k : OverLimit ≡ kind = cc in subst (λ x. is_of_body x ≡ false) k refl
header_by false false false true kind j e f = let k : Cut ≡ kind = cc in subst (λ x. is_of_body x ≡ false) k refl
header_by false false false false kind j e f = let k : Cut ≡ kind = cc in subst (λ x. is_of_body x ≡ false) k refl

-- A fault of a header isn't one of a message's body.
pub header_fault : (limit size n : ℕ) (kind : FaultKind) → ((judged : Judged) → checked_header limit size n judged ≡ Err kind) → is_of_body kind ≡ false
header_fault limit size n kind h = header_by (nat_lt size 16) (nat_lt n 16) (nat_lt limit n) (nat_lt size n) kind (checked_header limit size n (Err Cut)) refl (h (Err Cut))
