use Rattle.std.proofs.Common.{◌-◌, ◌/◌, false, sym, ap, ◌∙◌, drop, length-set, drop_of_length-le, arith}
use Rattle.std.specs.Fmt.{digits_onto}
use Rattle.link_lines_values.proofs.Hex.{all_digits, last_digit, next_digit, drop-set-cons}
use Rattle.link_lines_values.proofs.digits.write_hex.Goals as goal

pub loop-start-init : goal.loop-start-init
loop-start-init c = (
  omega arith,
  c.told-out,
  ap (digits_onto 64 16 false c.args.number) (drop_of_length-le c.args.out.now {i = 64} (omega (arith, c.told-out))) ∙ all_digits _,
)

pub loop-start-preserved : goal.loop-start-preserved
loop-start-preserved c =
    let l = c.loop-start in
    let kept = length-set l.out (l.start - 1) c.glyph.result ∙ l.invariant.1 in
    let written = ap (digits_onto (l.start - 1) 16 false (l.rest / 16)) (drop-set-cons l.out l.start _ _ c.loop-start-test.true (omega arith) c.glyph.ensures) in
    (omega arith, kept, written ∙ sym (next_digit l.rest (drop l.start l.out) l.start c.loop-start-test.true c.if-rest-eq0.false) ∙ l.invariant.2)

pub returns-then-rest-eq0 : goal.returns-then-rest-eq0
returns-then-rest-eq0 c =
    let l = c.loop-start in
    let written = drop-set-cons l.out l.start _ _ c.loop-start-test.true (omega arith) c.glyph.ensures in
    record { bound = omega arith; value = written ∙ sym (last_digit l.rest (drop l.start l.out) l.start c.loop-start-test.true c.if-rest-eq0.true) ∙ l.invariant.2 }
