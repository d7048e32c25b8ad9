-- Lists of names of kinds (rtnl_link_ops.kind of their drivers).
use Rattle.std.specs.Prelude.{ℕ, Bool, true, ◌&&◌, not, List, [], ◌∷◌, bytes_eq}
use Rattle.attribute_tables_grammar.specs.Tables.{Names, Names.others, Names.name}

-- The name is not in the list.
abbrev pub is_unlisted : List (List ℕ) → List ℕ → Bool
is_unlisted [] n = true
is_unlisted (m ∷ names) n = not (bytes_eq n m) && is_unlisted names n

-- Each name in the table is in the list.
abbrev pub are_listed : Names → List (List ℕ) → Bool
are_listed others names = true
are_listed (name m s ns) names = not (is_unlisted names m) && are_listed ns names
