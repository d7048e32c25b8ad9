-- Whether two lists are equivalent, as a loop over both decides it.
use Rattle.std.specs.Prelude.{ℕ, ◌==◌, ◌&&◌, ◌||◌, Bool, false, List, ◌∷◌, Option, option_map}
use Rattle.std.specs.Option.{option_map_or}
use Rattle.netlink_packet_core_grammar.specs.Attributes.{Attribute, proper_kind, attributes_of}
use Rattle.attribute_tables_grammar.specs.Lists.{Context, Row, Grammar, ListForm, kept, all_same}

-- Of the attributes of the rest of a list of this kind, those that it keeps; None if the rest is no list.
unfoldable pub kept_of : ListForm → List ℕ → Option (List Attribute)
kept_of form bytes = option_map (kept form) (attributes_of bytes)

-- The attributes that two lists keep are pairwise equivalent, each list in the context at its start.
unfoldable pub same_kept : Grammar → Context → Context → Option (List Attribute) → Option (List Attribute) → Bool
same_kept g c d left right = option_map_or (λ es. option_map_or (λ fs. all_same g c d es fs) right false) left false

-- The rests of two lists are equivalent, in one context.
unfoldable pub same_rests : ListForm → Grammar → Context → List ℕ → List ℕ → Bool
same_rests form g c left right = same_kept g c c (kept_of form left) (kept_of form right)

-- An attribute, followed by those that the rest of the list keeps.
abbrev pub continues : ListForm → Attribute → List ℕ → Option (List Attribute)
continues form e after = option_map (λ es. e ∷ es) (kept_of form after)

-- The kinds are equal; if the first attribute's row is typed, only the kinds proper have to be.
abbrev pub same_kind_by_first_row : Row → ℕ → ℕ → Bool
same_kind_by_first_row r k l = (k == l) || (r.is_typed && (proper_kind k == proper_kind l))
