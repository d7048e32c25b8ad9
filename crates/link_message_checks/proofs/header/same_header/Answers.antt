use Rattle.std.proofs.Common.{refl, sym, ◌∙◌, arith}
use Rattle.std.proofs.lemmas.Bool.{eqb-true, eqb-false, ne_eqb}
use Rattle.link_message_checks.proofs.Headers.{by_fields, families_differ, layers_differ, rest_determines}
use Rattle.link_message_checks.proofs.header.same_header.Goals as goal
use Rattle.link_message_checks.proofs.header.same_header.Goals.{then-left-right, else-left-right}

pub returns-then-layer_type : goal.returns-then-layer_type
returns-then-layer_type c =
    let a = c.args.left.now in
    let b = c.args.right.now in
    elim c.if-left-right.branch [
      | then-left-right w ↦
          let left = by_fields a c.min.result w.layer_type.result (omega arith) c.min.ensures w.layer_type.ensures in
          let right = by_fields b c.min-then-layer_type.result w.layer_type-then-left-right.result (omega arith) c.min-then-layer_type.ensures w.layer_type-then-left-right.ensures in
          c.eq.ensures ∙ rest_determines a b _ _ _ _ _ _ left right w.if-left-right.true (eqb-true _ _ (sym w.value-is ∙ c.if-layer_type.true))
      | else-left-right w ↦ absurd (cc (ne_eqb _ _ w.if-left-right.false))
    ]

pub returns-else-layer_type : goal.returns-else-layer_type
returns-else-layer_type c =
    let a = c.args.left.now in
    let b = c.args.right.now in
    elim c.if-left-right.branch [
      | then-left-right w ↦
          let left = by_fields a _ w.layer_type.result (omega arith) refl w.layer_type.ensures in
          let right = by_fields b _ w.layer_type-then-left-right.result (omega arith) refl w.layer_type-then-left-right.ensures in
          c.if-layer_type.false ∙ layers_differ a b _ _ _ _ _ _ left right (eqb-false _ _ (sym w.value-is ∙ c.if-layer_type.false))
      | else-left-right w ↦ c.if-layer_type.false ∙ families_differ a b (omega arith) (omega arith) w.if-left-right.false
    ]
