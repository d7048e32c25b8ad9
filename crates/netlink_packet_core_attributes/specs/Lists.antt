-- Lists of values, each of which is written as an attribute.
use Rattle.std.specs.Prelude.{ℕ, Bool, ◌&&◌, List, map, sum_by}
use Rattle.std.specs.List.{list_all}
use Rattle.netlink_packet_core_grammar.specs.Attributes.{nla_align, Attribute, attribute_length, list_text}
use Rattle.netlink_packet_core_grammar.specs.Fits.{attribute_fits}

-- The encoding of the values, one attribute after another.
abbrev pub text_by : {V : Type 0} → (V → Attribute) → List V → List ℕ
text_by entry vs = list_text (map entry vs)

-- The length of that encoding.
abbrev pub size_by : {V : Type 0} → (V → Attribute) → List V → ℕ
size_by entry vs = sum_by (λ v. nla_align (attribute_length (entry v))) vs

-- Each value fits its header, and so does everything inside it.
abbrev pub all_fit_by : {V : Type 0} → (V → Attribute) → (V → Bool) → List V → Bool
all_fit_by entry inside vs = list_all (λ v. attribute_fits (entry v) && inside v) vs
