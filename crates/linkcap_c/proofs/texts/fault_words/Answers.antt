-- a fault whose kind and side are known is one
use Rattle.std.proofs.Common.{◌≡◌, ℕ, inl, inr, sym, ap, ◌∙◌}
use Rattle.link_capture_grammar.specs.declared.fault.FaultKind.{FaultKind}
use Rattle.linkcap_c.specs.declared.findings.LinkcapFinding.{LinkcapFinding}
use Rattle.linkcap_c.specs.Findings.{kind_number, fault_of}
use Rattle.linkcap_c.proofs.texts.fault_words.Goals as goal

has_refusal : (f : LinkcapFinding) (kind : FaultKind) (side : ℕ) → kind_number kind ≡ f.kind → f.side ≡ side → f ≡ fault_of side (record { kind = kind; offset = f.offset })
has_refusal f kind side k s =
    let as_kind : ℕ → LinkcapFinding = λ n. record { kind = n; side = f.side; offset = f.offset } in
    let as_side : ℕ → LinkcapFinding = λ n. record { kind = kind_number kind; side = n; offset = f.offset } in
    ap as_kind (sym k) ∙ ap as_side s

pub returns-in-0-clause-right : goal.returns-in-0-clause-right
returns-in-0-clause-right c = λ _. (record { kind = c.in-Some.kind; offset = c.args.fault.now.offset }, inl (has_refusal c.args.fault.now c.in-Some.kind 0 c.in-Some.ensures.some c.in-0.is))

pub returns-in-1-clause-right : goal.returns-in-1-clause-right
returns-in-1-clause-right c = λ _. (record { kind = c.in-Some.kind; offset = c.args.fault.now.offset }, inr (inl (has_refusal c.args.fault.now c.in-Some.kind 1 c.in-Some.ensures.some c.in-1.is)))

pub returns-in-2-clause-right : goal.returns-in-2-clause-right
returns-in-2-clause-right c = λ _. (record { kind = c.in-Some.kind; offset = c.args.fault.now.offset }, inr (inr (has_refusal c.args.fault.now c.in-Some.kind 2 c.in-Some.ensures.some c.in-2.is)))
