-- What a status says of the parameter `fault`.
use Rattle.std.specs.Prelude.{◌≡◌, ℕ, ◌⊎◌, List}
use Rattle.link_capture_grammar.specs.Captures.{IsLegal}
use Rattle.linkcap_c.specs.Findings.{ReportsFault}
use Rattle.linkcap_c.specs.declared.findings.LinkcapFinding.{LinkcapFinding}
use Rattle.link_capture_grammar.specs.Body.{link_body}

-- The capture is legal; or its first fault is reported.
pub record Judges (limit : ℕ) (c : List ℕ) (status : ℕ) (fault : LinkcapFinding) : Type 0 where
  pub legal : status ≡ 0 → IsLegal link_body limit c
  pub faulty : status ≡ 2 → ReportsFault 0 limit c fault

-- A fault is written only if one is reported, be it out of memory; otherwise the caller's struct is unchanged.
abbrev pub KeepsFault : ℕ → LinkcapFinding → LinkcapFinding → Type 0
KeepsFault status old new = (status ≡ 0) ⊎ (status ≡ 1) ⊎ (status ≡ 3) ⊎ (status ≡ 4) ⊎ (status ≡ 6) → new ≡ old
