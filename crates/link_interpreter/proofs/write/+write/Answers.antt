use Rattle.std.proofs.Common.{◌++◌, length, sym, ap, ◌∙◌, arith, refl, subst}
use Rattle.std.proofs.lemmas.Bool.{eqb-true}
use Rattle.std.proofs.lemmas.List.{length-append}
use Rattle.attribute_tables_grammar.specs.Lists.{no_kind_in_force, row_of, any}
use Rattle.link_interpreter.specs.Measures.{rows_of, info_names}
use Rattle.link_interpreter.specs.Sameness.{attribute_of}
use Rattle.link_interpreter.proofs.Held.{info_parts, list_held}
use Rattle.link_interpreter.proofs.Loop.{some_bytes}
use Rattle.link_interpreter.proofs.WriteSteps.{writable_as, rewritten_as, three_parts, walked_if, not_refused}
use Rattle.attribute_tables_grammar.specs.Rules.{shape_rule}
use Rattle.attribute_tables_grammar.specs.Shapes.{never}
use Rattle.attribute_tables_grammar.specs.Writing.{WrittenSoFar}
use Rattle.link_tables.specs.InForce.{in_force}
use Rattle.link_tables.specs.Tables.{held_rule, table_of}
use Rattle.link_interpreter.proofs.write.+write.Goals as goal

pub write_inside-write_list-requires : goal.write_inside-write_list-requires
write_inside-write_list-requires g t c κs within =
    let is = list_held c.rows_are_looked_up.ensures g.P.PeerSet.peer c.args.held c.in-List.form c.in-List.table c.in-List.is in
    let size = ap (λ r. length (r.canonical c.args.bytes.now)) is in
    (omega arith, (within, (ap (λ r. r.accepted c.args.bytes.now) is ∙ c.requires.accepted, (ap (λ r. r.fits c.args.bytes.now) is ∙ c.requires.fits, omega (arith, size, c.requires.capacity)))))

pub write_inside-returns-in-List-clause-text : goal.write_inside-returns-in-List-clause-text
write_inside-returns-in-List-clause-text g t c = c.write_list.ensures.text ∙ ap (λ r. c.args.out.now.items ++ r.canonical c.args.bytes.now) (list_held c.rows_are_looked_up.ensures g.P.PeerSet.peer c.args.held c.in-List.form c.in-List.table c.in-List.is)

pub write_attribute-returns-clause-text : goal.write_attribute-returns-clause-text
write_attribute-returns-clause-text g t c =
    let text = (held_rule g.P.PeerSet.peer c.args.held).canonical c.args.payload.now in
    let header = ap length c.append.ensures.text ∙ length-append c.args.out.now.items _ in
    let inside = ap length c.write_held.ensures.text ∙ length-append c.append.new.out.items text in
    three_parts c.args.kind text c.args.out.now.items c.append.new.out.items c.write_held.new.out.items c.write_header.new.out.items c.append_padding.new.out.items c.len-start.result _ (omega arith) (omega (arith, header, inside)) c.append.ensures.text c.write_held.ensures.text c.write_header.ensures.text c.append_padding.ensures.text

pub write_first-write_attribute-requires : goal.write_first-write_attribute-requires
write_first-write_attribute-requires g t c κs within =
    let w = c.writing_unfolds.ensures.single _ _ _ _ c.in-Some.ensures.first c.requires.accepted c.requires.fits in
    (omega (arith, c.in-Some.ensures.within), (within, (writable_as _ _ _ _ _ c.find-found.ensures.rule (omega (arith, c.requires.capacity)) w.0)))

pub write_first-returns-clause-text : goal.write_first-returns-clause-text
write_first-returns-clause-text g t c =
    rewritten_as (row_of (rows_of g.P.PeerSet.peer (table_of c.args.table.0)) no_kind_in_force (attribute_of c.in-Some.attribute)) _ (attribute_of c.in-Some.attribute) _ _ _ c.find-found.ensures.rule c.find-found.ensures.written c.write_attribute.ensures.text
    ∙ ap (λ x. c.args.out.now.items ++ x) (sym (c.writing_unfolds.ensures.single _ _ _ _ c.in-Some.ensures.first c.requires.accepted c.requires.fits).1)

pub write_list-loop-rest-init : goal.write_list-loop-rest-init
write_list-loop-rest-init g t c =
    let walked = walked_if c.measures_determine_rules.ensures c.args.form _ _ c.in_default.not-FirstOnly c.requires.accepted in
    record {
      so_far = c.writing_unfolds.ensures.start _ _ _ _ walked c.requires.accepted c.requires.fits;
      capacity = omega arith;
      within = omega arith;
    }

pub write_list-unreachable-requires : goal.write_list-unreachable-requires
write_list-unreachable-requires g t c =
    c.writing_unfolds.ensures.stopped _ _ _ _ _ _ _ c.in_default-first_attribute.ensures.first (some_bytes _ _ c.loop-rest-test.true c.is_empty.ensures) c.loop-rest.invariant.so_far

pub write_list-write_attribute-requires : goal.write_list-write_attribute-requires
write_list-write_attribute-requires g t c κs within =
    let found = c.find_in-found.ensures c.args.table c.indexed_rows-rows.ensures in
    let w = c.writing_unfolds.ensures.writable _ _ _ _ _ _ _ _ _ c.in-Some.ensures.first (sym (c.is_kept.ensures _) ∙ c.if-is_kept.true) c.loop-rest.invariant.so_far in
    (omega (arith, c.in-Some.ensures.within), (within, (writable_as _ _ _ _ _ found.rule (omega arith) w)))

pub write_list-loop-rest-preserved-then-is_kept : goal.write_list-loop-rest-preserved-then-is_kept
write_list-loop-rest-preserved-then-is_kept g t c =
    let found = c.find_in-found.ensures c.args.table c.indexed_rows-rows.ensures in
    let written = rewritten_as _ _ (attribute_of c.in-Some.attribute) _ _ _ found.rule found.written c.write_attribute.ensures.text in
    record {
      so_far = c.writing_unfolds.ensures.more _ _ _ _ _ _ _ _ _ _ c.in-Some.ensures.first (sym (c.is_kept.ensures _) ∙ c.if-is_kept.true) written c.loop-rest.invariant.so_far;
      capacity = omega arith;
      within = omega (arith, c.in-Some.ensures.within, c.in-Some.ensures.following);
    }

pub write_list-loop-rest-preserved : goal.write_list-loop-rest-preserved
write_list-loop-rest-preserved g t c =
    record {
      so_far = c.writing_unfolds.ensures.past _ _ _ _ _ _ _ _ _ c.in-Some.ensures.first (sym (c.is_kept.ensures _) ∙ c.if-is_kept.false) c.loop-rest.invariant.so_far;
      capacity = c.loop-rest.invariant.capacity;
      within = omega (arith, c.in-Some.ensures.within, c.in-Some.ensures.following);
    }

pub write_list-returns : goal.write_list-returns
write_list-returns g t c =
    record {
      text = c.writing_unfolds.ensures.done _ _ _ _ _ _ _ (eqb-true _ 0 (sym c.is_empty.ensures ∙ c.loop-rest-test.false)) c.loop-rest.invariant.so_far;
      capacity = c.loop-rest.invariant.capacity;
    }

pub write_info-loop-rest-init : goal.write_info-loop-rest-init
write_info-loop-rest-init g t c = record { so_far = c.writing_unfolds.ensures.start any _ _ _ tt c.requires.accepted c.requires.fits; capacity = omega arith; within = omega arith }

pub write_info-unreachable-requires : goal.write_info-unreachable-requires
write_info-unreachable-requires g t c =
    c.writing_unfolds.ensures.stopped any _ _ _ _ _ _ c.in_default.ensures.first (some_bytes _ _ c.loop-rest-test.true c.is_empty.ensures) c.loop-rest.invariant.so_far

pub write_info-unreachable-requires-in_default-info_held : goal.write_info-unreachable-requires-in_default-info_held
write_info-unreachable-requires-in_default-info_held g t c =
    let w = c.writing_unfolds.ensures.writable any _ _ _ _ _ _ _ _ c.in-Some.ensures.first refl c.loop-rest.invariant.so_far in
    not_refused _ (shape_rule never) _ _ (sym (c.in_default-info_held.ensures.none g.P.PeerSet.peer)) w refl

pub write_info-write_attribute-requires : goal.write_info-write_attribute-requires
write_info-write_attribute-requires g t c κs within =
    let w = c.writing_unfolds.ensures.writable any _ _ _ _ _ _ _ _ c.in-Some.ensures.first refl c.loop-rest.invariant.so_far in
    (omega (arith, c.in-Some.ensures.within, c.loop-rest.invariant.within), (within, writable_as _ _ _ _ _ (c.in-Some-info_held.ensures.some g.P.PeerSet.peer) (omega arith) w))

pub write_info-loop-rest-preserved : goal.write_info-loop-rest-preserved
write_info-loop-rest-preserved g t c =
    let rows = info_names g.P.PeerSet.peer in
    let written = rewritten_as _ _ (attribute_of c.in-Some.attribute) _ _ _ (c.in-Some-info_held.ensures.some g.P.PeerSet.peer) (c.written_info_kind-written_kind.ensures g.P.PeerSet.peer (in_force c.loop-rest.force)) c.write_attribute.ensures.text in
    record {
      so_far = subst (λ x. WrittenSoFar any rows c.args.bytes.now c.args.out.now.items c.write_attribute.new.out.items x c.in-Some.after.now) (sym c.next_force-force.ensures)
          (c.writing_unfolds.ensures.more any rows _ _ _ _ _ _ _ _ c.in-Some.ensures.first refl written c.loop-rest.invariant.so_far);
      capacity = omega arith;
      within = omega (arith, c.in-Some.ensures.within, c.in-Some.ensures.following, c.loop-rest.invariant.within);
    }

pub write_info-returns : goal.write_info-returns
write_info-returns g t c =
    record {
      text = c.writing_unfolds.ensures.done any _ _ _ _ _ _ (eqb-true _ 0 (sym c.is_empty.ensures ∙ c.loop-rest-test.false)) c.loop-rest.invariant.so_far;
      capacity = c.loop-rest.invariant.capacity;
    }

pub write_link_info-write_info-requires : goal.write_link_info-write_info-requires
write_link_info-write_info-requires g t c κs within =
    let is = info_parts g.P.PeerSet.peer c.info_is_a_list_inside.ensures c.args.bytes.now c.requires.accepted in
    let size = ap length is.canonical in
    (omega arith, (within, (sym is.accepted ∙ c.requires.accepted, (sym is.fits ∙ c.requires.fits, omega (arith, size, c.requires.capacity)))))

pub write_link_info-returns-clause-text : goal.write_link_info-returns-clause-text
write_link_info-returns-clause-text g t c =
    c.write_info.ensures.text ∙ ap (λ x. c.args.out.now.items ++ x) (sym (info_parts g.P.PeerSet.peer c.info_is_a_list_inside.ensures c.args.bytes.now c.requires.accepted).canonical)
