-- Non-empty bytes, and one attribute after none.
use Rattle.std.proofs.Common.{◌≡◌, ◌<◌, ℕ, Bool, true, false, eqb, List, [], ◌∷◌, length, Some, sym, ◌∙◌, arith}
use Rattle.std.proofs.Math.Nat.{zero-add}
use Rattle.attribute_tables_grammar.specs.Walks.{Measure, plus, none_yet, with_header}

pub some_bytes : (xs : List ℕ) (b : Bool) → b ≡ false → b ≡ eqb (length xs) 0 → 0 < length xs
some_bytes [] b p q = absurd (let e : true ≡ false = sym q ∙ p in cc)
some_bytes (x ∷ xs) b p q = omega arith

-- one attribute after none
pub plus_start : (m : Measure) → Some (plus none_yet (with_header m)) ≡ Some (with_header m)
plus_start m = λ i. Some (record { size = zero-add (with_header m).size i; attributes = zero-add (with_header m).attributes i; fits = (with_header m).fits; empty_ports = m.empty_ports })
