use Rattle.std.proofs.Common.{◌≡◌, sym, ap, ◌∙◌, drop, arith, rules}
use Rattle.std.proofs.lemmas.Bool.Decides.{nat_tests}
use Rattle.link_lines_values.specs.Records.{fields_of, total_size}
use Rattle.link_lines_raw.specs.Attributes.{are_records_after}
use Rattle.link_lines_raw.proofs.Hops.{first_sizes, records_next, records_none, records_refused}
use Rattle.link_lines_raw.proofs.lists.are_records.Goals as goal

pub returns-then-not-is_first_record : goal.returns-then-not-is_first_record
returns-then-not-is_first_record c =
    sym (records_refused (fields_of (λ b. b.now) c.args.fields.now) c.loop-rest.rest.now (grind (arith, nat_tests)) (sym c.is_first_record.ensures ∙ c.if-not-is_first_record.true)) ∙ c.loop-rest.invariant

pub loop-rest-preserved : goal.loop-rest-preserved
loop-rest-preserved c =
    let fs = fields_of (λ b. b.now) c.args.fields.now in
    let first = sym c.is_first_record.ensures ∙ c.if-not-is_first_record.false in
    let sizes = first_sizes fs c.loop-rest.rest.now first in
    let size : c.record_size-size.result ≡ total_size fs = omega (arith, sizes.0, sizes.1) in
    let rest : c.split_at.result.1.now ≡ drop c.record_size-size.result c.loop-rest.rest.now = search rules in
    ap (are_records_after fs 0) rest ∙ ap (λ n. are_records_after fs 0 (drop n c.loop-rest.rest.now)) size ∙ sym (records_next fs c.loop-rest.rest.now (grind (arith, nat_tests)) first) ∙ c.loop-rest.invariant

pub returns : goal.returns
returns c = sym (records_none (fields_of (λ b. b.now) c.args.fields.now) c.loop-rest.rest.now (grind (arith, nat_tests))) ∙ c.loop-rest.invariant
