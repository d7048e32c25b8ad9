use Rattle.std.proofs.Common.{◌∙◌, ◌++◌, ap, codes, refl}
use Rattle.std.specs.Net.Text.{hex_groups_text, ipv4_text}
use Rattle.link_lines_values.proofs.Appending.{as_text}
use Rattle.link_lines_values.proofs.Segments.{mapped, unmapped}
use Rattle.link_lines_values.proofs.internet.push_address.Goals as goal

pub returns-in-Some : goal.returns-in-Some
returns-in-Some c =
    let o = c.octets.ensures ∙ c.in-Some.ensures.value in
    as_text (ap (λ o. codes "::ffff:" ++ ipv4_text o) o ∙ mapped c.args.address.segments (c.in-Some.ensures.found.0 refl)) c.push_mapped.ensures

pub returns-in-None : goal.returns-in-None
returns-in-None c =
    as_text (ap (λ s. hex_groups_text s) c.segments.ensures ∙ unmapped c.args.address.segments (λ e. let h = c.in-None.ensures.found.1 e in absurd cc)) c.push_compressed.ensures
