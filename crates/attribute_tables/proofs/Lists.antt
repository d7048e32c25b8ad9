-- Lists of values and their encoding.
use Rattle.std.proofs.Common.{◌≡◌, ◌+◌, Bool, List, [], ◌∷◌, length, map, refl, sym, ap, ◌∙◌}
use Rattle.std.specs.Prelude.{◌&&◌}
use Rattle.std.proofs.lemmas.List.Sums.{sum_by-cons}
use Rattle.netlink_packet_core_grammar.specs.Attributes.{Attribute, nla_align, attribute_length, list_size}
use Rattle.netlink_packet_core_grammar.specs.Fits.{attribute_fits}
use Rattle.netlink_packet_core_grammar.proofs.Sizes.{length-list_text, length-attribute_text}
use Rattle.netlink_packet_core.specs.Lists.{text_by, size_by, all_fit_by}
use Rattle.attribute_tables_grammar.specs.Readings.{AttributeReading, all_readings_fit}
use Rattle.attribute_tables.specs.Written.{written_as}

pub all_written : {V : Type 0} (entry : V → Attribute) (inside : V → Bool) (vs : List V) → all_readings_fit (map (written_as entry inside) vs) ≡ all_fit_by entry inside vs
unfolding all_readings_fit
all_written entry inside [] = refl
all_written entry inside (v ∷ vs) = ap (λ b. (attribute_fits (entry v) && inside v) && b) (all_written entry inside vs)

pub entries_written : {V : Type 0} (entry : V → Attribute) (inside : V → Bool) (vs : List V) → map (λ (w : AttributeReading). w.entry) (map (written_as entry inside) vs) ≡ map entry vs
entries_written entry inside [] = refl
entries_written entry inside (v ∷ vs) = ap (λ r. entry v ∷ r) (entries_written entry inside vs)

size_by-list : {V : Type 0} (entry : V → Attribute) (vs : List V) → list_size (map entry vs) ≡ size_by entry vs
size_by-list entry [] = refl
size_by-list entry (v ∷ vs) = ap (λ n. nla_align (attribute_length (entry v)) + n) (size_by-list entry vs) ∙ sym (sum_by-cons (λ w. nla_align (attribute_length (entry w))) v vs)

-- the length of the values' encoding is their size
pub length-text_by : {V : Type 0} (entry : V → Attribute) (vs : List V) → length (text_by entry vs) ≡ size_by entry vs
length-text_by entry vs = length-list_text (map entry vs) ∙ size_by-list entry vs

pub ruleset lists = (length-text_by, length-attribute_text)
