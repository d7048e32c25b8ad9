use Rattle.std.proofs.Common.{ℕ, List, option_map, sym, ap, ◌∙◌}
use denote.Bor.{Bor}
use Rattle.linkcap_c.specs.Attributes.{name_of}
use Rattle.std.specs.Prelude.{take}
use Rattle.linkcap_c.proofs.AttributeBytes.{at_start, front}
use Rattle.linkcap_c.proofs.attributes.name_of.Goals as goal

pub returns-in-Some : goal.returns-in-Some
returns-in-Some c =
    let n = c.in-Some.name.now in
    c.copy_name.ensures ∙ at_start n (take c.min.result n) (front n c.min.result c.min.ensures)
    ∙ ap (λ o. name_of (option_map (λ (b : Bor (List ℕ)). b.now) o)) (sym c.in-Some.is)
