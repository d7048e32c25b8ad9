use Rattle.std.proofs.Common.{refl, sym, ◌∙◌, arith, ◌≡◌, subst}
use Rattle.attribute_tables_grammar.specs.Lists.{no_kind_in_force, any}
use Rattle.attribute_tables_grammar.specs.LookUps.{table_row}
use Rattle.link_interpreter.specs.Sameness.{attribute_of}
use Rattle.link_interpreter.proofs.Sameness.{info_kinds, holds_rule, other_kinds, held_same, left_longer, left_shorter, other_ended, both_ended}
use Rattle.std.proofs.lemmas.Bool.{eqb-true}
use Rattle.attribute_tables_grammar.specs.Sameness.{same_rests}
use Rattle.link_interpreter.specs.Measures.{info_names}
use Rattle.link_interpreter.proofs.Held.{info_no_left, info_no_right, info_same}
use Rattle.link_interpreter.proofs.Loop.{some_bytes}
use Rattle.link_info_grammar.specs.LinkInfo.{data_rule, port_data_rule}
use Rattle.link_tables.specs.InForce.{in_force}
use Rattle.link_interpreter.proofs.same.+same.Goals as goal
use Rattle.link_interpreter.proofs.same.+same.Goals.{same_link_info-then-is_empty, same_link_info-else-is_empty}

pub same_first-returns-in-Some-held_by_both : goal.same_first-returns-in-Some-held_by_both
same_first-returns-in-Some-held_by_both g t c =
    holds_rule c.attributes_are_compared.ensures (table_row _ _) (attribute_of c.in-Some.a) (attribute_of c.in-Some-first_attribute.b) _ _ c.in-Some-held_by_both.ensures.rule c.in-Some-held_by_both.ensures.kinds c.same_held.ensures
    ∙ c.sameness_unfolds.ensures.first_both _ _ _ _ _ _ _ c.in-Some.ensures.first c.in-Some-first_attribute.ensures.first

pub same_first-returns-in-None : goal.same_first-returns-in-None
same_first-returns-in-None g t c =
    other_kinds c.attributes_are_compared.ensures (table_row _ _) (attribute_of c.in-Some.a) (attribute_of c.in-Some-first_attribute.b) c.in-None.ensures.kinds
    ∙ c.sameness_unfolds.ensures.first_both _ _ _ _ _ _ _ c.in-Some.ensures.first c.in-Some-first_attribute.ensures.first

pub same_list-returns-in_default-held_by_both : goal.same_list-returns-in_default-held_by_both
same_list-returns-in_default-held_by_both g t c =
    c.sameness_unfolds.ensures.differs _ _ no_kind_in_force _ _ _ _ _ _ c.in-Kept-Kept.ensures.kept c.in-Kept-Kept.ensures'.kept
    (sym (other_kinds c.attributes_are_compared.ensures (table_row _ _) (attribute_of c.in-Kept-Kept.a) (attribute_of c.in-Kept-Kept.b) c.in_default-held_by_both.ensures.kinds))
    ∙ c.loop-a.invariant.so_far

pub same_list-returns-then-not-same_held : goal.same_list-returns-then-not-same_held
same_list-returns-then-not-same_held g t c =
    c.sameness_unfolds.ensures.differs _ _ no_kind_in_force _ _ _ _ _ _ c.in-Kept-Kept.ensures.kept c.in-Kept-Kept.ensures'.kept
    (sym (holds_rule c.attributes_are_compared.ensures (table_row _ _) (attribute_of c.in-Kept-Kept.a) (attribute_of c.in-Kept-Kept.b) _ _ c.in-Some.ensures.rule c.in-Some.ensures.kinds c.same_held.ensures) ∙ c.if-not-same_held.true)
    ∙ c.loop-a.invariant.so_far

pub same_list-loop-a-preserved : goal.same_list-loop-a-preserved
same_list-loop-a-preserved g t c =
    let l = c.in-Kept-Kept.ensures.shorter.1 in
    record {
      so_far = c.sameness_unfolds.ensures.more _ _ no_kind_in_force _ _ _ _ _ _ c.in-Kept-Kept.ensures.kept c.in-Kept-Kept.ensures'.kept
          (sym (holds_rule c.attributes_are_compared.ensures (table_row _ _) (attribute_of c.in-Kept-Kept.a) (attribute_of c.in-Kept-Kept.b) _ _ c.in-Some.ensures.rule c.in-Some.ensures.kinds c.same_held.ensures) ∙ c.if-not-same_held.false) refl
          ∙ c.loop-a.invariant.so_far;
      within = omega arith;
    }

pub same_list-returns-in-End-End : goal.same_list-returns-in-End-End
same_list-returns-in-End-End g t c = c.sameness_unfolds.ensures.ended _ _ no_kind_in_force _ _ c.in-End-End.ensures.kept c.in-End-End.ensures'.kept ∙ c.loop-a.invariant.so_far

pub same_list-returns-in_default : goal.same_list-returns-in_default
same_list-returns-in_default g t c =
    left_longer c.sameness_unfolds.ensures _ _ _ _ _ _ _ c.in_default.ensures.kept c.in_default.not-Kept-1 c.next_kept-in-loop-a.ensures.kept
    ∙ c.loop-a.invariant.so_far

pub same_list-returns-in_default-2 : goal.same_list-returns-in_default-2
same_list-returns-in_default-2 g t c =
    left_shorter c.sameness_unfolds.ensures _ _ _ _ _ c.in_default.ensures.kept c.in_default.not-End-1 c.next_kept-in-loop-a.ensures.kept
    ∙ c.loop-a.invariant.so_far

pub same_list-returns-in_default-3 : goal.same_list-returns-in_default-3
same_list-returns-in_default-3 g t c = c.sameness_unfolds.ensures.left_stopped _ _ no_kind_in_force _ _ c.in_default.ensures.kept ∙ c.loop-a.invariant.so_far

pub same_held-returns-in-List : goal.same_held-returns-in-List
same_held-returns-in-List g t c = c.same_list.ensures ∙ held_same c.rows_are_looked_up.ensures _ _ _ _ c.in-List.is _ _

pub same_info-returns-in_default-first_attribute : goal.same_info-returns-in_default-first_attribute
same_info-returns-in_default-first_attribute g t c =
    let kept = c.kept_attributes_unfold.ensures in
    other_ended kept c.sameness_unfolds.ensures _ _ _ _ _ (kept.more any _ _ _ c.in-Some.ensures.first refl) _ c.in_default-first_attribute.ensures.first
    ∙ c.loop-rest.invariant.so_far

pub same_info-returns-then-not-same_in_force : goal.same_info-returns-then-not-same_in_force
same_info-returns-then-not-same_in_force g t c =
    let kept = c.kept_attributes_unfold.ensures in
    c.sameness_unfolds.ensures.differs any _ _ _ _ _ _ _ _ (kept.more any _ _ _ c.in-Some.ensures.first refl) (kept.more any _ _ _ c.in-Some-first_attribute.ensures.first refl)
    (sym c.same_in_force.ensures ∙ c.if-not-same_in_force.true)
    ∙ c.loop-rest.invariant.so_far

pub same_info-loop-rest-preserved : goal.same_info-loop-rest-preserved
same_info-loop-rest-preserved g t c =
    let rows = info_names g.P.PeerSet.peer in
    let now = in_force c.loop-rest.force in
    let kept = c.kept_attributes_unfold.ensures in
    let same = sym c.same_in_force.ensures ∙ c.if-not-same_in_force.false in
    record {
      so_far = subst (λ d. same_rests any rows d c.in-Some.after.now c.in-Some-first_attribute.following.now ≡ same_rests any rows now c.loop-rest.rest.now c.loop-rest.other.now) (sym c.next_force-force.ensures)
          (c.sameness_unfolds.ensures.more any rows now _ _ _ _ _ _ (kept.more any _ _ _ c.in-Some.ensures.first refl) (kept.more any _ _ _ c.in-Some-first_attribute.ensures.first refl)
          same (c.attributes_are_compared.ensures.one_context (data_rule g.P.PeerSet.peer) (port_data_rule g.P.PeerSet.peer) now (attribute_of c.in-Some.a) (attribute_of c.in-Some-first_attribute.b) same))
          ∙ c.loop-rest.invariant.so_far;
      within = omega (arith, c.in-Some.ensures.within, c.in-Some.ensures.following, c.loop-rest.invariant.within);
    }

pub same_info-returns : goal.same_info-returns
same_info-returns g t c =
    c.is_empty-2.ensures
    ∙ both_ended c.kept_attributes_unfold.ensures c.sameness_unfolds.ensures _ _ _ (eqb-true _ 0 (sym c.is_empty.ensures ∙ c.loop-rest-test.false)) _
    ∙ c.loop-rest.invariant.so_far

pub same_link_info-returns-then-is_empty-2 : goal.same_link_info-returns-then-is_empty-2
same_link_info-returns-then-is_empty-2 g t c =
    elim c.if-is_empty.branch [
      | same_link_info-then-is_empty w ↦ info_no_left g.P.PeerSet.peer c.sameness_unfolds.ensures _ _ (eqb-true _ 0 (sym c.is_empty.ensures ∙ w.if-is_empty.true))
      | same_link_info-else-is_empty w ↦ info_no_right g.P.PeerSet.peer c.sameness_unfolds.ensures _ _ (eqb-true _ 0 (sym w.is_empty-else-is_empty.ensures ∙ sym w.value-is ∙ c.if-is_empty-2.true))
    ]

pub same_link_info-returns-else-is_empty-2 : goal.same_link_info-returns-else-is_empty-2
same_link_info-returns-else-is_empty-2 g t c =
    elim c.if-is_empty.branch [
      | same_link_info-then-is_empty w ↦ absurd cc
      | same_link_info-else-is_empty w ↦
          c.same_info.ensures
          ∙ info_same g.P.PeerSet.peer c.info_is_a_list_inside.ensures c.args.left.now c.args.right.now
          (some_bytes _ _ w.if-is_empty.false c.is_empty.ensures) (some_bytes _ _ (sym w.value-is ∙ c.if-is_empty-2.false) w.is_empty-else-is_empty.ensures)
    ]

pub same_in_force-returns-then-not-are_same_info_kinds : goal.same_in_force-returns-then-not-are_same_info_kinds
same_in_force-returns-then-not-are_same_info_kinds g t c =
    let p = g.P.PeerSet.peer in
    let now = in_force c.args.force in
    let kinds = sym c.if-not-are_same_info_kinds.true ∙ c.are_same_info_kinds.ensures ∙ info_kinds (data_rule p) (port_data_rule p) now c.args.left.kind c.args.right.kind in
    other_kinds c.attributes_are_compared.ensures ((info_names p).row now) (attribute_of c.args.left) (attribute_of c.args.right) kinds

pub same_in_force-returns-in-Some : goal.same_in_force-returns-in-Some
same_in_force-returns-in-Some g t c =
    let p = g.P.PeerSet.peer in
    let now = in_force c.args.force in
    let kinds = sym c.if-not-are_same_info_kinds.false ∙ c.are_same_info_kinds.ensures ∙ info_kinds (data_rule p) (port_data_rule p) now c.args.left.kind c.args.right.kind in
    holds_rule c.attributes_are_compared.ensures ((info_names p).row now) (attribute_of c.args.left) (attribute_of c.args.right) _ _ (c.in-Some.ensures.some p) kinds c.same_held.ensures

pub same_info-same_in_force-requires : goal.same_info-same_in_force-requires
same_info-same_in_force-requires g t c κs within = (omega (arith, c.in-Some.ensures.within, c.loop-rest.invariant.within), within)
