use Rattle.std.proofs.Common.{◌≡◌, ◌-◌, ◌≤◌, true, length, drop, Some, None, sym, ap, subst, ◌∙◌, arith, ◌%◌, refl}
use Rattle.std.specs.Prelude.{IfSome}
use Rattle.std.proofs.lemmas.Bool.{eqb-true, and_parts}
use Rattle.attribute_tables_grammar.specs.Lists.{no_kind_in_force, any, list_rule}
use Rattle.attribute_tables_grammar.specs.LookUps.{table_row}
use Rattle.attribute_tables_grammar.specs.Walks.{Measure, MeasuredSoFar, measure}
use Rattle.link_interpreter.specs.Prefixes.{IsCanonicalPrefix}
use Rattle.link_tables.specs.Rows.{form_of}
use Rattle.link_interpreter.specs.Measures.{view, rows_of, info_names}
use Rattle.link_interpreter.specs.Sameness.{attribute_of}
use Rattle.link_interpreter.proofs.Held.{info_none, info_some, info_text, list_held, measured_as}
use Rattle.link_interpreter.proofs.PrefixSteps.{IsCanonicalStep, prefix_step, offset_step, left_step}
use Rattle.link_interpreter.proofs.Loop.{plus_start, some_bytes}
use Rattle.attribute_tables_grammar.specs.Rules.{shape_rule}
use Rattle.attribute_tables_grammar.specs.Shapes.{never}
use Rattle.attribute_tables_grammar.specs.AlreadyCanonical.{CanonicalSoFar}
use Rattle.attribute_tables_grammar.specs.Tables.{info_next}
use Rattle.link_tables.specs.InForce.{in_force}
use Rattle.link_tables.specs.Tables.{table_of}
use Rattle.link_interpreter.proofs.measure.+measure.Goals as goal

pub measure_inside-returns-in-List-clause-measure : goal.measure_inside-returns-in-List-clause-measure
measure_inside-returns-in-List-clause-measure g t c =
    c.walk_list.ensures.measure
    ∙ ap (λ r. measure r c.args.bytes.now) (list_held c.rows_are_looked_up.ensures g.P.PeerSet.peer c.args.held c.in-List.form c.in-List.table c.in-List.is)

pub measure_inside-returns-in-List-clause-already_canonical : goal.measure_inside-returns-in-List-clause-already_canonical
measure_inside-returns-in-List-clause-already_canonical g t c =
    subst (λ r. IfSome c.walk_list.result (λ m. m.is_canonical ≡ true → r.canonical c.args.bytes.now ≡ c.args.bytes.now)) (list_held c.rows_are_looked_up.ensures g.P.PeerSet.peer c.args.held c.in-List.form c.in-List.table c.in-List.is) c.walk_list.ensures.already_canonical

pub measure_first-returns-in_default-measure_held-clause-measure : goal.measure_first-returns-in_default-measure_held-clause-measure
measure_first-returns-in_default-measure_held-clause-measure g t c =
    c.measures_determine_rules.ensures.first_some _ _ _ _ None c.in-Some.ensures.first (measured_as _ _ _ _ c.find-found.ensures.rule c.in_default-measure_held.ensures.measure)

pub measure_first-returns-clause-measure : goal.measure_first-returns-clause-measure
measure_first-returns-clause-measure g t c =
    let inside = view c.in-Some-measure_held.inside in
    ap (λ m. Some m) c.with_attribute.ensures.measure ∙ plus_start inside
    ∙ c.measures_determine_rules.ensures.first_some _ _ _ _ (Some inside) c.in-Some.ensures.first (measured_as _ _ _ _ c.find-found.ensures.rule c.in-Some-measure_held.ensures.measure)

pub measure_first-returns-clause-already_canonical : goal.measure_first-returns-clause-already_canonical
measure_first-returns-clause-already_canonical g t c = λ h.
    let a = and_parts _ _ (sym c.with_attribute.ensures.already_canonical ∙ h) in
    let b = and_parts _ _ a.1 in
    let d = and_parts _ _ b.1 in
    c.canonical_lists_unfold.ensures.single _ _ _ _ c.in-Some.ensures.first (eqb-true _ 0 (sym c.is_empty.ensures ∙ d.1)) (sym c.find-found.ensures.written ∙ eqb-true _ _ d.0)
    (sym (ap (λ r. r.canonical c.in-Some.attribute.payload.now) c.find-found.ensures.rule) ∙ c.in-Some-measure_held.ensures.already_canonical a.0) (c.is_canonical_attribute-is_canonical.ensures b.0)

pub walk_list-returns-in_default-measure_held-clause-measure : goal.walk_list-returns-in_default-measure_held-clause-measure
walk_list-returns-in_default-measure_held-clause-measure g t c =
    c.measures_unfold.ensures.refused _ _ _ _ _ _ _ _ c.loop-rest.invariant.walked c.in-Some.ensures.first (sym (c.is_kept.ensures _) ∙ c.if-is_kept.true)
    (measured_as _ _ _ _ (c.find_in-found.ensures c.args.table c.indexed_rows-rows.ensures).rule c.in_default-measure_held.ensures.measure) c.loop-rest.invariant.so_far

pub walk_list-loop-rest-preserved-in-Some-measure_held : goal.walk_list-loop-rest-preserved-in-Some-measure_held
walk_list-loop-rest-preserved-in-Some-measure_held g t c =
    let found = c.find_in-found.ensures c.args.table c.indexed_rows-rows.ensures in
    let form = form_of c.args.form in
    let rows = rows_of g.P.PeerSet.peer (table_of c.args.table.0) in
    let bytes = c.args.bytes.now in
    let rest = c.loop-rest.rest.now in
    let after = c.in-Some.after.now in
    let e = attribute_of c.in-Some.attribute in
    let f = c.in-Some.ensures.first in
    let k = sym (c.is_kept.ensures _) ∙ c.if-is_kept.true in
    let inside = measured_as _ _ e.payload (Some (view c.in-Some-measure_held.inside)) found.rule c.in-Some-measure_held.ensures.measure in
    let s = c.measures_unfold.ensures.small _ found.lawful rest e after (view c.in-Some-measure_held.inside) f inside in
    let is = c.with_attribute-total.ensures.measure in
    let canonical_step : c.with_attribute-total.result.is_canonical ≡ true → IsCanonicalStep (table_row g.P.PeerSet.peer (table_of c.args.table.0)) bytes rest (length bytes - c.loop-rest.left) e after = λ h.
    let a = and_parts _ _ (sym c.with_attribute-total.ensures.already_canonical ∙ h) in
    let b = and_parts _ _ a.1 in
    let d = and_parts _ _ b.1 in
    record {
      offset = c.loop-rest.invariant.offset a.0;
      kind = sym found.written ∙ eqb-true _ _ d.1;
      payload = sym (ap (λ r. r.canonical e.payload) found.rule) ∙ c.in-Some-measure_held.ensures.already_canonical b.0;
      text = c.is_canonical_attribute-is_canonical.ensures d.0;
    } in
    let size_is = ap (λ (m : Measure). m.size) is in
    let headers_is = ap (λ (m : Measure). m.attributes) is in
    record {
      walked = c.loop-rest.invariant.walked;
      so_far = subst (λ m. MeasuredSoFar form rows bytes m no_kind_in_force after) (sym is)
          (c.measures_unfold.ensures.more form rows bytes rest no_kind_in_force e after (view c.loop-rest.total) (view c.in-Some-measure_held.inside) f k inside c.loop-rest.invariant.so_far);
      already_canonical = λ h.
          let o = canonical_step h in
          c.canonical_lists_unfold.ensures.more form rows bytes rest no_kind_in_force e after f k o.kind o.payload o.text (c.loop-rest.invariant.already_canonical (and_parts _ _ (sym c.with_attribute-total.ensures.already_canonical ∙ h)).0);
      prefix = subst (λ n. IsCanonicalPrefix (list_rule any rows) bytes (length bytes - n)) (sym c.bytes_following-left.ensures) (prefix_step _ bytes rest c.loop-rest.left e after c.with_attribute-total.result.is_canonical f canonical_step c.loop-rest.invariant.prefix);
      offset = λ h. ap (λ n. drop (length bytes - n) bytes) c.bytes_following-left.ensures ∙ offset_step _ bytes rest c.loop-rest.left e after c.with_attribute-total.result.is_canonical canonical_step h;
      left = subst (λ n. n ≤ length bytes) (sym c.bytes_following-left.ensures) (left_step _ (length after) c.loop-rest.left c.with_attribute-total.result.is_canonical (omega arith) c.loop-rest.invariant.left);
      within = omega (arith, s.within, size_is);
      few = omega (arith, s.few, headers_is);
    }

pub walk_list-loop-rest-preserved : goal.walk_list-loop-rest-preserved
walk_list-loop-rest-preserved g t c =
    let is = c.with_dropped-total.ensures.measure in
    let size_is = ap (λ (m : Measure). m.size) is in
    let headers_is = ap (λ (m : Measure). m.attributes) is in
    record {
      walked = c.loop-rest.invariant.walked;
      so_far = subst (λ m. MeasuredSoFar (form_of c.args.form) (rows_of g.P.PeerSet.peer (table_of c.args.table.0)) c.args.bytes.now m no_kind_in_force c.in-Some.after.now) (sym is)
          (c.measures_unfold.ensures.past _ _ _ _ _ _ _ _ c.in-Some.ensures.first (sym (c.is_kept.ensures _) ∙ c.if-is_kept.false) c.loop-rest.invariant.so_far);
      already_canonical = λ h. absurd (cc c.with_dropped-total.ensures.already_canonical);
      prefix = c.loop-rest.invariant.prefix;
      left = c.loop-rest.invariant.left;
      offset = λ h. absurd (cc c.with_dropped-total.ensures.already_canonical);
      within = omega (arith, size_is, c.in-Some.ensures.within, c.in-Some.ensures.following);
      few = omega (arith, headers_is, c.in-Some.ensures.within, c.in-Some.ensures.following);
    }

pub measure_info-loop-rest-init : goal.measure_info-loop-rest-init
measure_info-loop-rest-init g t c =
    record { so_far = c.measures_unfold.ensures.start any _ _; already_canonical = λ _. c.canonical_lists_unfold.ensures.start any _ _; within = omega arith; few = omega arith }

pub measure_info-returns-in_default-clause-measure : goal.measure_info-returns-in_default-clause-measure
measure_info-returns-in_default-clause-measure g t c =
    c.measures_unfold.ensures.stopped any _ _ _ _ _ tt c.in_default.ensures.first (some_bytes _ _ c.loop-rest-test.true c.is_empty.ensures) c.loop-rest.invariant.so_far

pub measure_info-returns-in_default-info_held-clause-measure : goal.measure_info-returns-in_default-info_held-clause-measure
measure_info-returns-in_default-info_held-clause-measure g t c =
    c.measures_unfold.ensures.refused any _ _ _ _ _ _ _ tt c.in-Some.ensures.first refl
    (measured_as (shape_rule never) _ _ None (sym (c.in_default-info_held.ensures.none g.P.PeerSet.peer)) refl) c.loop-rest.invariant.so_far

pub measure_info-returns-in_default-measure_held-clause-measure : goal.measure_info-returns-in_default-measure_held-clause-measure
measure_info-returns-in_default-measure_held-clause-measure g t c =
    c.measures_unfold.ensures.refused any _ _ _ _ _ _ _ tt c.in-Some.ensures.first refl
    (measured_as _ _ _ _ (c.in-Some-info_held.ensures.some g.P.PeerSet.peer) c.in_default-measure_held.ensures.measure) c.loop-rest.invariant.so_far

pub measure_info-with_attribute-total-requires : goal.measure_info-with_attribute-total-requires
measure_info-with_attribute-total-requires g t c =
    let s = c.measures_unfold.ensures.small _ (c.link_info_is_lawful.ensures.rows (in_force c.loop-rest.force) (c.in-Some.attribute.kind % 16384)) _ _ _ _ c.in-Some.ensures.first
    (measured_as _ _ _ (Some (view c.in-Some-measure_held.inside)) (c.in-Some-info_held.ensures.some g.P.PeerSet.peer) c.in-Some-measure_held.ensures.measure) in
    record { len = omega (arith, s.within, s.few); headers = omega (arith, s.within, s.few) }

pub measure_info-loop-rest-preserved : goal.measure_info-loop-rest-preserved
measure_info-loop-rest-preserved g t c =
    let rows = info_names g.P.PeerSet.peer in
    let now = in_force c.loop-rest.force in
    let bytes = c.args.bytes.now in
    let rest = c.loop-rest.rest.now in
    let after = c.in-Some.after.now in
    let e = attribute_of c.in-Some.attribute in
    let f = c.in-Some.ensures.first in
    let inside = measured_as _ _ e.payload (Some (view c.in-Some-measure_held.inside)) (c.in-Some-info_held.ensures.some g.P.PeerSet.peer) c.in-Some-measure_held.ensures.measure in
    let s = c.measures_unfold.ensures.small _ (c.link_info_is_lawful.ensures.rows now (c.in-Some.attribute.kind % 16384)) rest e after (view c.in-Some-measure_held.inside) f inside in
    let is = c.with_attribute-total.ensures.measure in
    let size_is = ap (λ (m : Measure). m.size) is in
    let headers_is = ap (λ (m : Measure). m.attributes) is in
    record {
      so_far = subst (λ x. MeasuredSoFar any rows bytes (view c.with_attribute-total.result) x after) (sym c.next_force-force.ensures)
          (subst (λ m. MeasuredSoFar any rows bytes m (info_next now (c.in-Some.attribute.kind % 16384) e.payload) after) (sym is)
          (c.measures_unfold.ensures.more any rows bytes rest now e after (view c.loop-rest.total) (view c.in-Some-measure_held.inside) f refl inside c.loop-rest.invariant.so_far));
      already_canonical = λ h.
          let a = and_parts _ _ (sym c.with_attribute-total.ensures.already_canonical ∙ h) in
          let b = and_parts _ _ a.1 in
          let d = and_parts _ _ b.1 in
          subst (λ x. CanonicalSoFar any rows bytes x after) (sym c.next_force-force.ensures)
          (c.canonical_lists_unfold.ensures.more any rows bytes rest now e after f refl (sym (c.written_info_kind.ensures g.P.PeerSet.peer now) ∙ eqb-true _ _ d.1)
          (sym (ap (λ r. r.canonical e.payload) (c.in-Some-info_held.ensures.some g.P.PeerSet.peer)) ∙ c.in-Some-measure_held.ensures.already_canonical b.0) (c.is_canonical_attribute-is_canonical.ensures d.0) (c.loop-rest.invariant.already_canonical a.0));
      within = omega (arith, s.within, size_is);
      few = omega (arith, s.few, headers_is);
    }

pub measure_info-returns-clause-measure : goal.measure_info-returns-clause-measure
measure_info-returns-clause-measure g t c =
    c.measures_unfold.ensures.done any _ _ _ _ _ tt (eqb-true _ 0 (sym c.is_empty.ensures ∙ c.loop-rest-test.false)) c.loop-rest.invariant.so_far

pub measure_info-returns-clause-already_canonical : goal.measure_info-returns-clause-already_canonical
measure_info-returns-clause-already_canonical g t c = λ h. c.canonical_lists_unfold.ensures.done any _ _ _ _ tt (eqb-true _ 0 (sym c.is_empty.ensures ∙ c.loop-rest-test.false)) (c.loop-rest.invariant.already_canonical h)

pub measure_link_info-returns-then-is_empty-clause-measure : goal.measure_link_info-returns-then-is_empty-clause-measure
measure_link_info-returns-then-is_empty-clause-measure g t c = info_none g.P.PeerSet.peer c.measures_determine_rules.ensures c.args.bytes.now (eqb-true (length c.args.bytes.now) 0 (sym c.is_empty.ensures ∙ c.if-is_empty.true))

pub measure_link_info-returns-else-is_empty-clause-measure : goal.measure_link_info-returns-else-is_empty-clause-measure
measure_link_info-returns-else-is_empty-clause-measure g t c =
    c.measure_info.ensures.measure ∙ info_some g.P.PeerSet.peer c.measures_determine_rules.ensures c.args.bytes.now (some_bytes _ _ c.if-is_empty.false c.is_empty.ensures)

pub measure_link_info-returns-else-is_empty-clause-already_canonical : goal.measure_link_info-returns-else-is_empty-clause-already_canonical
measure_link_info-returns-else-is_empty-clause-already_canonical g t c =
    let l = some_bytes _ _ c.if-is_empty.false c.is_empty.ensures in
    subst (λ r. IfSome c.measure_info.result (λ m. m.is_canonical ≡ true → r ≡ c.args.bytes.now)) (info_text g.P.PeerSet.peer c.info_is_a_list_inside.ensures c.args.bytes.now l) c.measure_info.ensures.already_canonical
