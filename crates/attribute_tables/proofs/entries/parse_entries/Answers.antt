use Rattle.std.proofs.Common.{◌≡◌, ◌++◌, [], ◌∷◌, ◌<◌, ◌≤◌, length, true, false, sym, refl, ap, subst, ◌∙◌, arith, length-drop, rules}
use Rattle.std.specs.List.{All}
use Rattle.std.proofs.lemmas.Grind.{elements}
use Rattle.std.proofs.lemmas.Bool.Decides.{nat_tests}
use Rattle.netlink_packet_core_grammar.specs.Attributes.{nla_align}
use Rattle.netlink_packet_core_grammar.specs.AttributeViews.{BeginsWithAttribute, viewed_length, viewed_attribute, viewed_payload, after_first}
use Rattle.netlink_packet_core.specs.Errors.{is_memory}
use Rattle.attribute_tables_grammar.specs.Lists.{of_kind_one, is_of_kind_one, canonical_form}
use Rattle.attribute_tables_grammar.specs.LookUps.{rows_rule, only_kind_one}
use Rattle.attribute_tables.specs.Beginnings.{entries_begin_readable}
use Rattle.attribute_tables.proofs.Beginnings.{entries-accepted, entries-allocating, entries-past}
use Rattle.attribute_tables.proofs.KeptEntries.{Entries, EntriesDone, entries_start, entries_more, entries_past, entries_refused, entries_done}
use Rattle.attribute_tables.proofs.entries.parse_entries.Goals.{then-kind-eq-ENTRY+in_ok-read+in_ok-push, else-kind-eq-ENTRY}
use Rattle.attribute_tables.proofs.entries.parse_entries.Given.{Over}
use Rattle.attribute_tables.proofs.entries.parse_entries.Goals as goal

pub loop-rest-init : goal.loop-rest-init
loop-rest-init g c = record {
  so_far = subst (λ vs. Entries (g.R.EntryReader.entry_row c.args.reader.now) g.R.Value.Nla.entry g.R.Value.Nla.inside_fits c.args.bytes.now vs c.args.bytes.now) (sym c.new-list.ensures.items) (entries_start c.readings_unfold.ensures _ _ _ _);
  is_row_variant = grind (arith, elements);
  within = omega arith;
  begun = λ e. e;
}

pub returns-in_err-buf-clause-judged : goal.returns-in_err-buf-clause-judged
returns-in_err-buf-clause-judged g c =
    let b = c.loop-rest.rest.now in
    let n : 0 < length b = grind (arith, nat_tests) in
    search rules

pub returns-in_err-read-clause-judged : goal.returns-in_err-read-clause-judged
returns-in_err-read-clause-judged g c =
    let b = c.loop-rest.rest.now in
    let r = g.R.EntryReader.entry_row c.args.reader.now in
    let h : BeginsWithAttribute b = c.in_ok-buf.ensures.whole.0 refl in
    let one : is_of_kind_one (viewed_attribute b) ≡ true = search rules in
    let k : is_memory c.in_err-read.field-0.0 ≡ false → (rows_rule of_kind_one (only_kind_one r)).accepted c.args.bytes.now ≡ false =
    λ m.
    let was : r.rule.accepted (viewed_payload b) ≡ false = rw c.in_ok-buf.ensures.ok at c.in_err-read.ensures.judged m in
    entries_refused c.readings_unfold.ensures r _ _ _ c.readings_determine_rules.ensures _ b h one was c.loop-rest.invariant.so_far in
    search rules

pub returns-in_err-read-clause-memory : goal.returns-in_err-read-clause-memory
returns-in_err-read-clause-memory g c =
    let b = c.loop-rest.rest.now in
    let r = g.R.EntryReader.entry_row c.args.reader.now in
    let may = g.R.EntryReader.may_allocate c.args.reader.now in
    let h : BeginsWithAttribute b = c.in_ok-buf.ensures.whole.0 refl in
    let one : is_of_kind_one (viewed_attribute b) ≡ true = search rules in
    let k : is_memory c.in_err-read.field-0.0 ≡ true → entries_begin_readable r may c.args.bytes.now ≡ true =
    λ m.
    let allocates : may (viewed_payload b) ≡ true = rw c.in_ok-buf.ensures.ok at c.in_err-read.ensures.memory m in
    c.loop-rest.invariant.begun (entries-allocating c.first_attributes_are_within.ensures c.first_attributes_are_viewed.ensures r may b h one allocates) in
    search rules

pub returns-in_err-push-clause-memory : goal.returns-in_err-push-clause-memory
returns-in_err-push-clause-memory g c =
    let b = c.loop-rest.rest.now in
    let r = g.R.EntryReader.entry_row c.args.reader.now in
    let may = g.R.EntryReader.may_allocate c.args.reader.now in
    let h : BeginsWithAttribute b = c.in_ok-buf.ensures.whole.0 refl in
    let one : is_of_kind_one (viewed_attribute b) ≡ true = search rules in
    let was : r.rule.accepted (viewed_payload b) ≡ true = rw c.in_ok-buf.ensures.ok at c.in_ok-read.ensures.judged in
    let k = c.loop-rest.invariant.begun (entries-accepted c.first_attributes_are_within.ensures c.first_attributes_are_viewed.ensures r may b h one was) in
    search rules

pub loop-rest-preserved : goal.loop-rest-preserved
loop-rest-preserved g c =
    let b = c.loop-rest.rest.now in
    let r = g.R.EntryReader.entry_row c.args.reader.now in
    let may = g.R.EntryReader.may_allocate c.args.reader.now in
    let h : BeginsWithAttribute b = c.in_ok-buf.ensures.whole.0 refl in
    let rest : length c.skip_first-rest.result.now ≡ length (after_first b) = ap length c.skip_first-rest.ensures in
    let within : length c.skip_first-rest.result.now ≤ length c.args.bytes.now = omega (arith, rest, length-drop (nla_align (viewed_length b)) b, c.loop-rest.invariant.within) in
    elim c.if-kind-eq-ENTRY.branch [
      | then-kind-eq-ENTRY+in_ok-read+in_ok-push w ↦
          let v = w.in_ok-read.field-0 in
          let one : is_of_kind_one (viewed_attribute b) ≡ true = search rules in
          let was : r.rule.accepted (viewed_payload b) ≡ true = rw c.in_ok-buf.ensures.ok at w.in_ok-read.ensures.judged in
          let entry : g.R.Value.Nla.entry v ≡ canonical_form r (viewed_attribute b) = rw c.in_ok-buf.ensures.ok at w.in_ok-read.ensures.written.0 in
          let inside : g.R.Value.Nla.inside_fits v ≡ r.rule.fits (viewed_payload b) = rw c.in_ok-buf.ensures.ok at w.in_ok-read.ensures.written.1 in
          let s = entries_more c.readings_unfold.ensures r g.R.Value.Nla.entry g.R.Value.Nla.inside_fits c.args.bytes.now c.loop-rest.list.items b v h one was entry inside c.loop-rest.invariant.so_far in
          let items : c.if-kind-eq-ENTRY.list.items ≡ c.loop-rest.list.items ++ v ∷ [] = ap (λ l. l.items) w.list-is ∙ w.in_ok-push.ensures.items in
          record {
            so_far = subst (λ r'. Entries r g.R.Value.Nla.entry g.R.Value.Nla.inside_fits c.args.bytes.now c.if-kind-eq-ENTRY.list.items r') (sym c.skip_first-rest.ensures)
                (subst (λ vs. Entries r g.R.Value.Nla.entry g.R.Value.Nla.inside_fits c.args.bytes.now vs (after_first b)) (sym items) s);
            is_row_variant = subst (λ vs. All (g.R.EntryReader.is_row_variant c.args.reader.now) vs) (sym items) (grind (arith, elements));
            within = within;
            begun = λ _. c.loop-rest.invariant.begun (entries-accepted c.first_attributes_are_within.ensures c.first_attributes_are_viewed.ensures r may b h one was);
          }
      | else-kind-eq-ENTRY w ↦
          let other : is_of_kind_one (viewed_attribute b) ≡ false = search rules in
          let s = entries_past c.readings_unfold.ensures r g.R.Value.Nla.entry g.R.Value.Nla.inside_fits c.args.bytes.now c.loop-rest.list.items b h other c.loop-rest.invariant.so_far in
          let items : c.if-kind-eq-ENTRY.list.items ≡ c.loop-rest.list.items = ap (λ l. l.items) w.list-is in
          record {
            so_far = subst (λ r'. Entries r g.R.Value.Nla.entry g.R.Value.Nla.inside_fits c.args.bytes.now c.if-kind-eq-ENTRY.list.items r') (sym c.skip_first-rest.ensures)
                (subst (λ vs. Entries r g.R.Value.Nla.entry g.R.Value.Nla.inside_fits c.args.bytes.now vs (after_first b)) (sym items) s);
            is_row_variant = subst (λ vs. All (g.R.EntryReader.is_row_variant c.args.reader.now) vs) (sym items) c.loop-rest.invariant.is_row_variant;
            within = within;
            begun = λ e. c.loop-rest.invariant.begun (entries-past c.first_attributes_are_within.ensures c.first_attributes_are_viewed.ensures r may b h other (ap (entries_begin_readable r may) (sym c.skip_first-rest.ensures) ∙ e));
          }
    ]

ended : (g : Over) (c : goal.After-loop-rest g) → EntriesDone (g.R.EntryReader.entry_row c.args.reader.now) g.R.Value.Nla.entry g.R.Value.Nla.inside_fits c.args.bytes.now c.loop-rest.list.items
ended g c = entries_done c.readings_unfold.ensures _ _ _ _ c.readings_determine_rules.ensures _ c.loop-rest.rest.now (grind (arith, nat_tests)) c.loop-rest.invariant.so_far

pub returns-clause-judged : goal.returns-clause-judged
returns-clause-judged g c = (ended g c).accepted

pub returns-clause-read : goal.returns-clause-read
returns-clause-read g c = (ended g c).read

pub returns-clause-written : goal.returns-clause-written
returns-clause-written g c =
    let done = ended g c in
    (done.canonical, done.fits)
