use Rattle.std.proofs.Common.{ℕ, ◌≡◌, ◌*◌, ◌++◌, ◌∙◌, ap, sym, arith, length, drop, replicate, rules}
use Rattle.std.specs.List.{flat_map}
use Rattle.std.proofs.lemmas.List.{length-replicate}
use Rattle.link_message_records.proofs.Filled.{length_flat}
use Rattle.link_message_records.proofs.Pairs.{whole_text}
use Rattle.link_message_records.proofs.values.values_to_bytes.Goals as goal

pub write_values-requires : goal.write_values-requires
write_values-requires g c =
    let many : length c.args.numbers.now.values ≡ g.row.N = search rules in
    let size = length_flat g.T.Fields.bytes g.T.Fields.size c.args.numbers.now.values g.met.T.Number.has_size in
    let whole : length (flat_map g.T.Fields.bytes c.args.numbers.now.values) ≡ g.row.M = size ∙ ap (λ n. g.T.Fields.size * n) many ∙ c.requires in
    omega (arith, whole, ap (λ v. length (flat_map g.T.Fields.bytes v)) c.as_slice.ensures, length-replicate {A = ℕ} g.row.M 0)

pub returns : goal.returns
returns g c =
    let many : length c.args.numbers.now.values ≡ g.row.N = search rules in
    let size = length_flat g.T.Fields.bytes g.T.Fields.size c.args.numbers.now.values g.met.T.Number.has_size in
    let whole : length (flat_map g.T.Fields.bytes c.args.numbers.now.values) ≡ g.row.M = size ∙ ap (λ n. g.T.Fields.size * n) many ∙ c.requires in
    let old = replicate g.row.M 0 in
    c.write_values.ensures
    ∙ ap (λ v. flat_map g.T.Fields.bytes v ++ drop (length (flat_map g.T.Fields.bytes v)) old) c.as_slice.ensures
    ∙ whole_text (flat_map g.T.Fields.bytes c.args.numbers.now.values) old (length-replicate {A = ℕ} g.row.M 0 ∙ sym whole)
