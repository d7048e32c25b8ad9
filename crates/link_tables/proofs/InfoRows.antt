-- The rows of link info, by the names in force.
use Rattle.std.proofs.Common.{◌≡◌, ℕ, List, Some, sym, ap, ◌∙◌}
use Rattle.attribute_tables_grammar.specs.Rules.{Rule}
use Rattle.attribute_tables_grammar.specs.Lists.{Context}
use Rattle.attribute_tables_grammar.specs.Tables.{info_row, row_in_force}

pub data_row : (d q : List ℕ → Rule) (c : Context) (k : ℕ) (n : List ℕ) → k ≡ 2 → c.kind ≡ Some n → d n ≡ (info_row d q c k).rule
data_row d q c k n e f = ap (λ o. (row_in_force o d).rule) (sym f) ∙ ap (λ k. (info_row d q c k).rule) (sym e)

pub port_row : (d q : List ℕ → Rule) (c : Context) (k : ℕ) (n : List ℕ) → k ≡ 5 → c.port_kind ≡ Some n → q n ≡ (info_row d q c k).rule
port_row d q c k n e f = ap (λ o. (row_in_force o q).rule) (sym f) ∙ ap (λ k. (info_row d q c k).rule) (sym e)
