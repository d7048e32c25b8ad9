-- a quirk whose kind is known, and which has no side, is one
use Rattle.std.proofs.Common.{ℕ, sym, ap, ◌∙◌}
use Rattle.linkcap_c.specs.Findings.{quirk_number}
use Rattle.linkcap_c.specs.declared.findings.LinkcapFinding.{LinkcapFinding}
use Rattle.linkcap_c.proofs.texts.quirk_words.Goals as goal

pub returns-clause-right : goal.returns-clause-right
returns-clause-right c = λ _.
    let at = c.args.quirk.now.offset in
    let as_kind : ℕ → LinkcapFinding = λ n. record { kind = n; side = c.args.quirk.now.side; offset = at } in
    let as_side : ℕ → LinkcapFinding = λ n. record { kind = quirk_number c.in-Some.found; side = n; offset = at } in
    (record { quirk = c.in-Some.found; offset = at }, ap as_kind (sym c.in-Some.ensures.some) ∙ ap as_side c.if-quirk-ne0.false)
