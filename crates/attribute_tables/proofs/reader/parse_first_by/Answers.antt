use Rattle.std.proofs.Common.{◌≡◌, true, false, refl, rules}
use Rattle.netlink_packet_core_grammar.specs.AttributeViews.{BeginsWithAttribute}
use Rattle.netlink_packet_core.specs.Errors.{is_memory}
use Rattle.attribute_tables_grammar.specs.Lists.{first_only}
use Rattle.attribute_tables_grammar.specs.LookUps.{rows_rule}
use Rattle.attribute_tables.specs.Views.{is_accepted_by, fits_by, rewritten_by}
use Rattle.attribute_tables.specs.Written.{written_as}
use Rattle.attribute_tables.proofs.First.{First, first_of, first_not}
use Rattle.attribute_tables.proofs.reader.parse_first_by.Goals as goal

pub returns-in_err-buf-clause-judged : goal.returns-in_err-buf-clause-judged
returns-in_err-buf-clause-judged g c =
    search rules

pub returns-in_err-value-clause-judged : goal.returns-in_err-value-clause-judged
returns-in_err-value-clause-judged g c =
    let rows = g.R.Reader.row_of c.args.reader.now in
    let b = c.args.bytes.now in
    let h : BeginsWithAttribute b = c.in_ok-buf.ensures.whole.0 refl in
    let k : is_memory c.in_err-value.field-0.0 ≡ false → (rows_rule first_only rows).accepted b ≡ false =
    λ m.
    let was : is_accepted_by rows b ≡ false = rw c.in_ok-buf.ensures.ok at c.in_err-value.ensures.judged m in
    first_not c.single_first_attributes_are_read.ensures c.readings_determine_rules.ensures rows b h was in
    search rules

was_first : (g : _) (c : goal.In_ok-value g) → First (g.R.Reader.row_of c.args.reader.now) c.args.bytes.now (written_as g.R.Value.Nla.entry g.R.Value.Nla.inside_fits c.in_ok-value.value)
was_first g c =
    let rows = g.R.Reader.row_of c.args.reader.now in
    let b = c.args.bytes.now in
    let v = c.in_ok-value.value in
    let h : BeginsWithAttribute b = c.in_ok-buf.ensures.whole.0 refl in
    let a : is_accepted_by rows b ≡ true = rw c.in_ok-buf.ensures.ok at c.in_ok-value.ensures.judged in
    let entry : g.R.Value.Nla.entry v ≡ rewritten_by rows b = rw c.in_ok-buf.ensures.ok at c.in_ok-value.ensures.written.0 in
    let inside : g.R.Value.Nla.inside_fits v ≡ fits_by rows b = rw c.in_ok-buf.ensures.ok at c.in_ok-value.ensures.written.1 in
    first_of c.single_first_attributes_are_read.ensures c.readings_determine_rules.ensures rows b (written_as g.R.Value.Nla.entry g.R.Value.Nla.inside_fits v) h a (λ i. record { entry = entry i; inside_fits = inside i })

pub returns-clause-judged : goal.returns-clause-judged
returns-clause-judged g c = (was_first g c).accepted

pub returns-clause-written : goal.returns-clause-written
returns-clause-written g c =
    let first = was_first g c in
    (first.canonical, first.fits)
