use Rattle.std.proofs.Common.{List, ℕ, refl}
use Rattle.std.specs.Fmt.{decimal}
use Rattle.std.specs.List.{slice_index}
use Rattle.link_lines_values.proofs.Appending.{start, step, last, as_text}
use Rattle.link_lines_values.proofs.Segments.{dotted}
use Rattle.link_lines_values.proofs.internet.push_octets.Goals as goal

pub returns : goal.returns
returns c =
    let octet : ℕ → List ℕ = λ i. decimal (slice_index c.args.octets i) in
    let first = step _ (start c.args.out.now _) c.in_ok-push_octet.ensures refl in
    let second = step _ first c.in_ok-push_next_octet.ensures refl in
    let third = step _ second c.in_ok-push_next_octet-2.ensures refl in
    as_text (dotted (octet 0) (octet 1) (octet 2) (octet 3)) (last c.push_next_octet-3.result third c.push_next_octet-3.ensures)
