-- The decision of whether bytes begin with a frame.
use Rattle.std.proofs.Common.{◌≡◌, ℕ, true, false, List, arith}
use Rattle.std.proofs.lemmas.Bool.{and_parts, false_from_ne_true, leb-true}
use Rattle.std.proofs.lemmas.Bool.Decides.{nat_tests}
use Rattle.netlink_packet_core_grammar.specs.Frames.{BeginsWithFrame, begins_with_frame}

pub is_frame-true : (c : List ℕ) → BeginsWithFrame c → begins_with_frame c ≡ true
is_frame-true c h = let h1 = h.has_header in let h2 = h.covers_header in let h3 = h.within in grind (arith, nat_tests)

pub is_frame-false : (c : List ℕ) → (BeginsWithFrame c → ⊥) → begins_with_frame c ≡ false
is_frame-false c h =
    false_from_ne_true (begins_with_frame c) (λ e.
    let header = and_parts _ _ e in
    let whole = and_parts _ _ header.1 in
    h (record { has_header = leb-true _ _ header.0; covers_header = leb-true _ _ whole.0; within = leb-true _ _ whole.1 }))

pub ruleset frames = (is_frame-true, is_frame-false)
