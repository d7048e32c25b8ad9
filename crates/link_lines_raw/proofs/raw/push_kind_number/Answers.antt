use Rattle.std.proofs.Common.{refl}
use Rattle.link_lines_values.proofs.Appending.{added, last, start}
use Rattle.std.specs.Prelude.{codes}
use Rattle.link_lines_raw.proofs.raw.push_kind_number.Goals as goal

pub returns : goal.returns
returns c =
    last c.push_four_digits.result (added c.extend_from_slice.new.self (codes "kind ") _ (start c.args.out.now _) c.in_ok-extend_from_slice.ensures.items c.in_ok-extend_from_slice.ensures.capacity refl)
    c.push_four_digits.ensures
