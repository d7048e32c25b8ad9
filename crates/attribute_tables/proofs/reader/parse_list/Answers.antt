use Rattle.std.proofs.Common.{◌≡◌, ◌++◌, [], ◌∷◌, ◌<◌, length, map, true, false, sym, ◌∙◌, refl, ap, subst, arith, length-drop, rules}
use Rattle.std.proofs.lemmas.Grind.{elements}
use Rattle.std.proofs.lemmas.Bool.Decides.{nat_tests}
use Rattle.std.proofs.lemmas.List.{map-append}
use Rattle.netlink_packet_core_grammar.specs.Attributes.{nla_align, list_text}
use Rattle.attribute_tables_grammar.specs.Lists.{no_kind_in_force, any, row_of, without_context}
use Rattle.attribute_tables_grammar.specs.LookUps.{rows_rule}
use Rattle.attribute_tables_grammar.specs.Readings.{ReadingSoFar, attribute_reading}
use Rattle.netlink_packet_core_grammar.specs.AttributeViews.{BeginsWithAttribute, viewed_length, viewed_attribute, after_first}
use Rattle.netlink_packet_core.specs.Errors.{is_memory}
use Rattle.attribute_tables.specs.Written.{written_as}
use Rattle.attribute_tables.proofs.Lists.{all_written, entries_written}
use Rattle.attribute_tables.specs.Views.{is_accepted_by}
use Rattle.attribute_tables.specs.Beginnings.{begins_readable}
use Rattle.attribute_tables.proofs.Beginnings.{begins-accepted, begins-allocating}
use Rattle.attribute_tables.proofs.reader.parse_list.Goals as goal

pub returns-in_err-buf-clause-judged : goal.returns-in_err-buf-clause-judged
returns-in_err-buf-clause-judged g c =
    let b = c.loop-rest.rest.now in
    let n : 0 < length b = grind (arith, nat_tests) in
    search rules

pub returns-in_err-read-clause-judged : goal.returns-in_err-read-clause-judged
returns-in_err-read-clause-judged g c =
    let b = c.loop-rest.rest.now in
    let rows = without_context (g.R.Reader.row_of c.args.reader.now) in
    let h : BeginsWithAttribute b = c.in_ok-buf.ensures.whole.0 refl in
    let k : is_memory c.in_err-read.field-0.0 ≡ false → (rows_rule any (g.R.Reader.row_of c.args.reader.now)).accepted c.args.bytes.now ≡ false =
    λ m.
    let was : (row_of rows no_kind_in_force (viewed_attribute b)).rule.accepted (viewed_attribute b).payload ≡ false = rw c.in_ok-buf.ensures.ok at c.in_err-read.ensures.judged m in
    c.readings_determine_rules.ensures.rejects_rows any (g.R.Reader.row_of c.args.reader.now) c.args.bytes.now (c.readings_determine_rules.ensures.of_any _ _ ∙ c.readings_unfold.ensures.refused any rows _ _ no_kind_in_force b h refl was c.loop-rest.invariant.so_far) in
    search rules

pub returns-in_err-read-clause-memory : goal.returns-in_err-read-clause-memory
returns-in_err-read-clause-memory g c =
    let b = c.loop-rest.rest.now in
    let h : BeginsWithAttribute b = c.in_ok-buf.ensures.whole.0 refl in
    let k : is_memory c.in_err-read.field-0.0 ≡ true → begins_readable (g.R.Reader.row_of c.args.reader.now) (g.R.Reader.may_allocate c.args.reader.now) c.args.bytes.now ≡ true =
    λ m.
    let allocates : g.R.Reader.may_allocate c.args.reader.now b ≡ true = rw c.in_ok-buf.ensures.ok at c.in_err-read.ensures.memory m in
    c.loop-rest.invariant.begun (begins-allocating c.first_attributes_are_viewed.ensures (g.R.Reader.row_of c.args.reader.now) (g.R.Reader.may_allocate c.args.reader.now) b h allocates) in
    search rules

pub returns-in_err-push-clause-memory : goal.returns-in_err-push-clause-memory
returns-in_err-push-clause-memory g c =
    let b = c.loop-rest.rest.now in
    let h : BeginsWithAttribute b = c.in_ok-buf.ensures.whole.0 refl in
    let was : is_accepted_by (g.R.Reader.row_of c.args.reader.now) b ≡ true = rw c.in_ok-buf.ensures.ok at c.in_ok-read.ensures.judged in
    let k = c.loop-rest.invariant.begun (begins-accepted c.first_attributes_are_viewed.ensures (g.R.Reader.row_of c.args.reader.now) (g.R.Reader.may_allocate c.args.reader.now) b h was) in
    search rules

pub loop-rest-preserved : goal.loop-rest-preserved
loop-rest-preserved g c =
    let b = c.loop-rest.rest.now in
    let w = written_as g.R.Value.Nla.entry g.R.Value.Nla.inside_fits in
    let rows = without_context (g.R.Reader.row_of c.args.reader.now) in
    let ws = map w c.loop-rest.list.items in
    let v = c.in_ok-read.field-0 in
    let h : BeginsWithAttribute b = c.in_ok-buf.ensures.whole.0 refl in
    let was : (row_of rows no_kind_in_force (viewed_attribute b)).rule.accepted (viewed_attribute b).payload ≡ true = rw c.in_ok-buf.ensures.ok at c.in_ok-read.ensures.judged in
    let entry : g.R.Value.Nla.entry v ≡ (attribute_reading (row_of rows no_kind_in_force (viewed_attribute b)) (viewed_attribute b)).entry = rw c.in_ok-buf.ensures.ok at c.in_ok-read.ensures.written.0 in
    let inside : g.R.Value.Nla.inside_fits v ≡ (attribute_reading (row_of rows no_kind_in_force (viewed_attribute b)) (viewed_attribute b)).inside_fits = rw c.in_ok-buf.ensures.ok at c.in_ok-read.ensures.written.1 in
    let is : w v ≡ attribute_reading (row_of rows no_kind_in_force (viewed_attribute b)) (viewed_attribute b) = λ i. record { entry = entry i; inside_fits = inside i } in
    let so_far = c.readings_unfold.ensures.more any rows c.args.bytes.now ws no_kind_in_force b (w v) h refl was is c.loop-rest.invariant.so_far in
    let items : map w c.push.new.self.items ≡ ws ++ w v ∷ [] = ap (map w) c.in_ok-push.ensures.items ∙ map-append w c.loop-rest.list.items (v ∷ []) in
    let rest : length c.skip_first-rest.result.now ≡ length (after_first b) = ap length c.skip_first-rest.ensures in
    record {
      so_far = subst (λ us. ReadingSoFar any rows c.args.bytes.now us no_kind_in_force c.skip_first-rest.result.now) (sym items) (subst (λ r. ReadingSoFar any rows c.args.bytes.now (ws ++ w v ∷ []) no_kind_in_force r) (sym c.skip_first-rest.ensures) so_far);
      is_row_variant = grind (arith, elements);
      within = omega (arith, rest, length-drop (nla_align (viewed_length b)) b, c.loop-rest.invariant.within);
      begun = λ _. c.loop-rest.invariant.begun (begins-accepted c.first_attributes_are_viewed.ensures (g.R.Reader.row_of c.args.reader.now) (g.R.Reader.may_allocate c.args.reader.now) b h was);
    }

pub returns-clause-read : goal.returns-clause-read
returns-clause-read g c = c.readings_determine_rules.ensures.of_any _ _ ∙ c.readings_unfold.ensures.done any _ _ _ _ c.loop-rest.rest.now (grind (arith, nat_tests)) c.loop-rest.invariant.so_far

pub returns-clause-judged : goal.returns-clause-judged
returns-clause-judged g c = (c.readings_determine_rules.ensures.determines_rows any (g.R.Reader.row_of c.args.reader.now) c.args.bytes.now _ (returns-clause-read g c)).accepted

pub returns-clause-written : goal.returns-clause-written
returns-clause-written g c =
    let reading_determines = c.readings_determine_rules.ensures.determines_rows any (g.R.Reader.row_of c.args.reader.now) c.args.bytes.now _ (returns-clause-read g c) in
    (sym (ap list_text (entries_written g.R.Value.Nla.entry g.R.Value.Nla.inside_fits c.loop-rest.list.items)) ∙ sym reading_determines.canonical, sym (all_written g.R.Value.Nla.entry g.R.Value.Nla.inside_fits c.loop-rest.list.items) ∙ sym reading_determines.fits)
