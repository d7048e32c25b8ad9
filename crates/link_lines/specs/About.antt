-- Whether the lines of a message are about a link.
use Rattle.std.specs.Prelude.{ℕ, ◌==◌, ◌&&◌, ◌||◌, Bool, true, false, codes, bytes_eq, List, [], ◌∷◌, ◌++◌, flat_map}
use Rattle.std.specs.List.{list_any}
use Rattle.link_lines_values.specs.Bytes.{escaped}
use Rattle.link_lines_parts.specs.Lines.{after_first_word, first_word, level, lines_of, words_of}
use Rattle.link_lines_parts.specs.Remaining.{is_header, is_index_field}

-- What follows the opening quote of a word: the escaped word, the closing quote, and the end of the line.
abbrev pub quoted_end : List ℕ → List ℕ
quoted_end word = flat_map escaped word ++ codes "\"\n"

-- Whether a line is that of a name of a link: of its only one, an alternative one, or one in a list of these; or of a
-- link's name in a rule.
abbrev pub is_name_line : List ℕ → List ℕ → Bool
is_name_line link line =
    bytes_eq line (codes "  IFLA_IFNAME \"" ++ quoted_end link) ||
    (bytes_eq line (codes "  IFLA_ALT_IFNAME \"" ++ quoted_end link) ||
    (bytes_eq line (codes "    IFLA_ALT_IFNAME \"" ++ quoted_end link) ||
    (bytes_eq line (codes "  FRA_IIFNAME \"" ++ quoted_end link) ||
    bytes_eq line (codes "  FRA_OIFNAME \"" ++ quoted_end link))))

-- Whether a field with an index has this value; `after_name` says whether the first word is the value of one.
abbrev pub has_index : List ℕ → Bool → List (List ℕ) → Bool
has_index link after_name [] = false
has_index link after_name (word ∷ words) =
    (after_name && bytes_eq word (32 ∷ link)) || has_index link (is_index_field word) words

-- Whether a line is that of a next hop in a route.
abbrev pub is_next_hop : List ℕ → Bool
is_next_hop line = (level line == 2) && bytes_eq (first_word line) (codes "rtnexthop")

-- Whether a line is that of a header at level 1, or of a next hop, with this index.
abbrev pub is_index_line : List ℕ → List ℕ → Bool
is_index_line link line =
    (((level line == 1) && is_header line) || is_next_hop line) && has_index link false (words_of line)

-- Whether an attribute with this name, of routes, next hops or netconf, has a link's index.
abbrev pub is_index_name : List ℕ → Bool
is_index_name name =
    bytes_eq name (codes "RTA_OIF") || (bytes_eq name (codes "RTA_IIF") ||
    (bytes_eq name (codes "NHA_OIF") || bytes_eq name (codes "NETCONFA_IFINDEX")))

-- Whether a line is that of an attribute with such a name, with this index.
abbrev pub is_index_attribute : List ℕ → List ℕ → Bool
is_index_attribute link line =
    (level line == 1) && (is_index_name (first_word line) && has_index link true (words_of (after_first_word line)))

-- Whether a line says that its message is about the link with this name or index.
abbrev pub is_about_line : List ℕ → List ℕ → Bool
is_about_line link line = is_name_line link line || (is_index_line link line || is_index_attribute link line)

-- Whether the lines of a message are about the link with this name or index.
abbrev pub is_about : List ℕ → List ℕ → Bool
is_about text link = list_any (is_about_line link) (lines_of text)
