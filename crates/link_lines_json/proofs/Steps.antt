-- Steps of loops that a search doesn't take by itself.
use Rattle.std.proofs.Common.{◌≡◌, ◌-◌, ◌<◌, ◌++◌, ◌∷◌, ℕ, zero, suc, Bool, true, List, [], drop, ap, ◌∙◌, arith}
use Rattle.std.specs.Prelude.{codes}
use Rattle.link_lines_json.specs.Json.{closing}
use Rattle.link_lines_json.specs.Tokens.{TermText}
use Rattle.link_lines_json.specs.Values.{assignment_json, assignments_json, field_json, fields_json, first_assignment_json, separator}

-- One end is written before the others.
pub closing_step : (n : ℕ) → 0 < n → closing n ≡ codes "]}" ++ closing (n - 1)
closing_step zero l = absurd (omega (arith, l))
closing_step (suc n) l = ap (λ m. codes "]}" ++ closing m) {x = n} {y = suc n - 1} (omega arith)

-- The first field of a record is written before the others.
pub assignments_step : (after : Bool) (ts us : List TermText) → us ≡ drop 1 ts → first_assignment_json after ts ++ assignments_json true us ≡ assignments_json after ts
assignments_step after [] us e = ap (assignments_json true) e
assignments_step after (t ∷ ts) us e = ap (λ vs. (separator after ++ assignment_json t) ++ assignments_json true vs) e

-- One field is written before the others.
pub fields_step : (after : Bool) (name value : TermText) (ts us vs : List TermText) → ts ≡ name ∷ us → us ≡ value ∷ vs
    → fields_json after ts ≡ (separator after ++ field_json name value) ++ fields_json true vs
fields_step after name value ts us vs e d = ap (fields_json after) (e ∙ ap (λ ws. name ∷ ws) d)
