-- the header's bytes, and then the frame's
use Rattle.std.proofs.Common.{◌≡◌, inl, inr, ◌++◌, length, take, ap, ◌∙◌, arith, length-append}
use Rattle.std.proofs.lemmas.List.{take_rest, length-drop}
use Rattle.netlink_packet_core_grammar.specs.Numbers.{u32_at}
use Rattle.link_capture_reader.proofs.CutFrames.{two_steps, header_exact, not_cut_short}
use Rattle.link_capture_reader.proofs.pieces.complete_frame.Goals as goal

pub returns-clause-moved : goal.returns-clause-moved
returns-clause-moved c =
    two_steps c.args.kept.now.items c.args.piece.now c.fill.new.kept.items c.fill-2.new.kept.items c.in_ok-header.header c.in_ok-more.more c.in_ok-header.ensures.moved
    (c.in_ok-more.ensures.moved ∙ ap (λ x. c.fill.new.kept.items ++ take c.in_ok-more.more x) (take_rest c.args.piece.now c.in_ok-header.header))

pub returns-clause-judged : goal.returns-clause-judged
returns-clause-judged c =
    let claimed : c.claimed_length-claimed.result ≡ u32_at 0 c.fill.new.kept.items = c.claimed_length-claimed.ensures ∙ ap (u32_at 0) c.as_slice.ensures.value in
    let same : u32_at 0 c.fill-2.new.kept.items ≡ u32_at 0 c.fill.new.kept.items = ap (u32_at 0) c.in_ok-more.ensures.moved ∙ c.numbers_are_independent.ensures.four_bytes c.fill.new.kept.items _ (omega arith) in
    elim c.in_ok-more.ensures.enough [
      | inl a ↦ (let e = a ∙ ap length (take_rest c.args.piece.now c.in_ok-header.header) ∙ length-drop c.in_ok-header.header c.args.piece.now in inl (omega (arith, e, c.in_ok-header.ensures.within)))
      | inr a ↦ (let n = ap length c.in_ok-more.ensures.moved ∙ length-append c.fill.new.kept.items _ in inr (not_cut_short c.frames_are_independent.ensures c.args.limit c.fill-2.new.kept.items (omega (arith, n)) (inr (inr (omega (arith, a, same))))))
    ]

pub returns-clause-exact : goal.returns-clause-exact
returns-clause-exact c =
    let claimed : c.claimed_length-claimed.result ≡ u32_at 0 c.fill.new.kept.items = c.claimed_length-claimed.ensures ∙ ap (u32_at 0) c.as_slice.ensures.value in
    let same : u32_at 0 c.fill-2.new.kept.items ≡ u32_at 0 c.fill.new.kept.items = ap (u32_at 0) c.in_ok-more.ensures.moved ∙ c.numbers_are_independent.ensures.four_bytes c.fill.new.kept.items _ (omega arith) in
    elim (header_exact c.numbers_are_independent.ensures c.frames_are_independent.ensures c.args.limit c.args.kept.now.items c.fill.new.kept.items c.requires c.in_ok-header.ensures.exact _ c.in_ok-header.ensures.moved) [
      | inl a ↦ omega (arith, c.in_ok-more.ensures.exact)
      | inr a ↦ omega (arith, a.0, a.3, c.in_ok-more.ensures.exact)
    ]
