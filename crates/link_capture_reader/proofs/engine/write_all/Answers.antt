-- more bytes are written
use Rattle.std.proofs.Common.{◌≡◌, ◌∙◌, ◌<◌, ◌&&◌, ℕ, eqb, false, Bool, length, ap, arith}
use Rattle.std.proofs.lemmas.List.{take_rest, length-drop}
use Rattle.std.proofs.lemmas.Bool.{ne_eqb}
use Rattle.link_capture_reader.specs.Devices.{counted}
use Rattle.link_capture_reader.proofs.Known.{Appends-slice}
use Rattle.link_capture_reader.proofs.engine.write_all.Goals as goal

-- a sink that took some bytes has not failed
took : (n : ℕ) (b : Bool) (m : ℕ) → 0 < n → counted (eqb n 0 && b) m ≡ m
took n b m h = let e : eqb n 0 ≡ false = ne_eqb n 0 (λ z. omega arith) in ap (λ x. counted (x && b) m) e

pub loop-at-preserved : goal.loop-at-preserved
loop-at-preserved g c =
    let n = ap length (take_rest c.args.bytes.now c.loop-at.at) ∙ length-drop c.loop-at.at c.args.bytes.now in
    record {
      inside = omega (arith, n, c.in-Ok.ensures.within);
      wrote = Appends-slice _ _ _ c.args.bytes.now c.loop-at.at c.in-Ok.taken c.loop-at.invariant.wrote c.in-Ok.ensures.bytes;
      failures = c.in-Ok.ensures.failures ∙ took c.in-Ok.taken _ _ c.if-taken-gt0.true ∙ c.loop-at.invariant.failures;
    }
