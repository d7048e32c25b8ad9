use Rattle.std.proofs.Common.{◌≡◌, drop, length, sym, ap, subst, ◌∙◌, arith}
use Rattle.std.proofs.lemmas.Bool.{eqb-true, ltb-true}
use Rattle.std.proofs.lemmas.List.{take_rest}
use Rattle.attribute_tables_grammar.specs.Shapes.{number, meaning, encoding}
use Rattle.link_tables.specs.Rows.{shape_of}
use Rattle.link_interpreter.proofs.CanonicalParts.{canonical_name}
use Rattle.link_interpreter.proofs.SameShapes.{canonical_record}
use Rattle.link_interpreter.proofs.shapes.is_canonical_payload.Goals as goal

pub returns-then-payload-n : goal.returns-then-payload-n
returns-then-payload-n c = λ t.
    let p = c.args.payload.now in
    let m = c.in-FixedRecord.m in
    let z : number (drop m p) ≡ 0 = ap number (sym (take_rest p m)) ∙ eqb-true _ _ (sym c.is_zero.ensures ∙ t) in
    subst (λ s. encoding (shape_of s) (meaning (shape_of s) p) ≡ p) (sym c.in-FixedRecord.is) (canonical_record m c.in-FixedRecord.n p c.if-payload-n.true z)

pub returns-in-Text : goal.returns-in-Text
returns-in-Text c = λ t.
    let p = c.args.payload.now in
    let e = ap length c.without_nul.ensures in
    let l = ltb-true _ _ t in
    subst (λ s. encoding (shape_of s) (meaning (shape_of s) p) ≡ p) (sym c.in-Text.is) (canonical_name p (omega (arith, e, l)))
