use Rattle.std.proofs.Common.{◌≡◌, cond, sym, ap, ◌∙◌, true, false}
use Rattle.link_capture_numbers.specs.Cleared.{zeros_at, repeats_request, first_frame_cleared}
use Rattle.link_capture_numbers.proofs.clearing.clear_first_frame.Goals as goal

pub returns-then-has_request : goal.returns-then-has_request
unfolding first_frame_cleared
returns-then-has_request c =
    let r : repeats_request c.args.bytes.now ≡ true = sym c.repeats-has_request.ensures ∙ c.if-has_request.true in
    c.clear_at-then-has_request.ensures ∙ ap (zeros_at 28) c.clear_at.ensures ∙ sym (ap (λ b. cond b (zeros_at 28 (zeros_at 8 c.args.bytes.now)) (zeros_at 8 c.args.bytes.now)) r)

pub returns-else-has_request : goal.returns-else-has_request
unfolding first_frame_cleared
returns-else-has_request c =
    let r : repeats_request c.args.bytes.now ≡ false = sym c.repeats-has_request.ensures ∙ c.if-has_request.false in
    c.clear_at.ensures ∙ sym (ap (λ b. cond b (zeros_at 28 (zeros_at 8 c.args.bytes.now)) (zeros_at 8 c.args.bytes.now)) r)
