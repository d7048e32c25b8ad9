-- Bytes that are already canonical, decided attribute by attribute.
use Rattle.std.specs.Prelude.{◌≡◌, ℕ, List, Option, Some, option_map}
use Rattle.netlink_packet_core_grammar.specs.Attributes.{list_text, attributes_of}
use Rattle.attribute_tables_grammar.specs.Lists.{Context, no_kind_in_force, Grammar, ListForm, kept, canonical_forms}

-- The canonical encoding of the rest of a list, in the context at its start; None if the rest is no list.
unfoldable pub text_from : ListForm → Grammar → Context → List ℕ → Option (List ℕ)
text_from form g c bytes = option_map (λ es. list_text (canonical_forms g c (kept form es))) (attributes_of bytes)

-- If the rest is already canonical, so is the whole list.
pub record CanonicalSoFar (form : ListForm) (g : Grammar) (bytes : List ℕ) (c : Context) (rest : List ℕ) : Type 0 where
  pub whole : text_from form g c rest ≡ Some rest → text_from form g no_kind_in_force bytes ≡ Some bytes
