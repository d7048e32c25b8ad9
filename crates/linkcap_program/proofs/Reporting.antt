-- What was printed and reported.
use Rattle.std.proofs.Common.{◌≡◌, ℕ, Bool, false, List, [], ◌∷◌, ◌++◌, Result, Ok, sym, ap, subst, ◌∙◌}
use Rattle.link_capture_grammar.specs.declared.fault.FaultKind.TheVariants.{Write}
use Rattle.link_capture_grammar.specs.Faults.{fault_text}
use Rattle.link_capture_checks.specs.declared.sameness.SideFault.{SideFault}
use Rattle.link_capture_reader.specs.States.{IsReported, SinkState, IsReportedUnlessSinkFails}
use Rattle.linkcap_program.specs.Runs.{same_line, same_error}

-- the result of a comparison couldn't be printed
pub unprinted : (before after : SinkState) (line : List ℕ) (o : Result Bool SideFault) (is_same : Bool) → IsReported before after line false → line ≡ same_line (Ok is_same) → o ≡ Ok is_same → IsReported before after (same_line o) false
unprinted before after line o is_same h l q = subst (λ t. IsReported before after t false) (l ∙ sym (ap same_line q)) h

-- and the error writer gets a line that says so
pub unprinted_reported : (before after : SinkState) (line text : List ℕ) (complete : Bool) (o : Result Bool SideFault) (is_same : Bool) → IsReported before after line complete → line ≡ text ++ 10 ∷ [] → text ≡ fault_text (record { kind = Write; offset = 0 }) → o ≡ Ok is_same → IsReportedUnlessSinkFails before after (same_error false o)
unprinted_reported before after line text complete o is_same h e t q =
    (complete, subst (λ x. IsReported before after x complete) (e ∙ ap (λ x. x ++ 10 ∷ []) t ∙ sym (ap (same_error false) q)) h)
