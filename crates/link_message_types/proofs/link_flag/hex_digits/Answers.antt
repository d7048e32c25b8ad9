use Rattle.std.proofs.Common.{◌≡◌, ◌++◌, ◌∙◌, List, ℕ, ap, false, subst}
use Rattle.std.proofs.Output.{contents_after_writes}
use Rattle.std.specs.Fmt.{WritesText, digits}
use Rattle.arrayvec.specs.ArrayString.{ArrayString}
use Rattle.link_message_types.proofs.link_flag.hex_digits.Goals as goal

-- The effect of a write into the text.
abbrev appends : ArrayString → List ℕ → ArrayString → Type 0
appends old bytes new = new.bytes ≡ old.bytes ++ bytes

pub returns : goal.returns
returns c =
    let written = subst (λ text. WritesText appends c.new-text.result text c.write.new.self) c.in_radix.ensures c.in_ok-write.ensures.writes in
    contents_after_writes appends (λ text. text.bytes) (λ _ _ _ appended. appended) _ _ _ written
    ∙ ap (λ begun. begun ++ digits 16 false c.args.number) c.new-text.ensures
