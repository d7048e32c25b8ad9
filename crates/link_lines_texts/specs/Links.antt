-- The line of a link's header, in a message and in a peer.
use Rattle.std.specs.Prelude.{ℕ, List, [], ◌∷◌, ◌++◌, codes, decimal, slice_index}
use Rattle.netlink_packet_core_grammar.specs.Numbers.{u16_at, u32_at}
use Rattle.link_lines_values.specs.declared.flag_names.TheConstants.{LINK_FLAGS}
use Rattle.link_lines_values.specs.declared.number_texts.TheConstants.{ADDRESS_FAMILY, LINK_LAYER_TYPE}
use Rattle.link_lines_values.specs.Flags.{word_flags}
use Rattle.link_lines_values.specs.Indents.{indent}
use Rattle.link_lines_values.specs.Names.{Text, named_number}
use Rattle.link_lines_values.specs.NumberTexts.{number_texts}

-- The names of address families.
abbrev pub address_families : List Text
address_families = number_texts ADDRESS_FAMILY

-- The names of layer types.
abbrev pub layer_types : List Text
layer_types = number_texts LINK_LAYER_TYPE

-- The names of a link's flags.
abbrev pub link_flag_names : List Text
link_flag_names = number_texts LINK_FLAGS

-- A label followed by a text.
abbrev pub labelled : List ℕ → List ℕ → List ℕ
labelled label text = label ++ text

-- A link's address family, layer type and index.
unfoldable pub link_numbers : List ℕ → List ℕ
link_numbers b =
    labelled (codes "ifinfomsg family ") (named_number address_families (slice_index b 0)) ++
    (labelled (codes " type ") (named_number layer_types (u16_at 2 b))
    ++ labelled (codes " index ") (decimal (u32_at 4 b)))

-- A link's flags and change mask, and the end of the line.
unfoldable pub link_flags : List ℕ → List ℕ
link_flags b =
    labelled (codes " flags ") (word_flags link_flag_names (u32_at 8 b)) ++
    (labelled (codes " change ") (word_flags link_flag_names (u32_at 12 b)) ++ 10 ∷ [])

-- The line of a link's header at a level.
abbrev pub link_header_line : ℕ → List ℕ → List ℕ
link_header_line level b = indent level ++ (link_numbers b ++ link_flags b)
