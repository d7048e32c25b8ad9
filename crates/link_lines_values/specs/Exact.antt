-- Payloads of raw attributes as text: a value that determines the payload, or the word `bytes` and the bytes.
use Rattle.std.specs.Prelude.{ℕ, zero, suc, ◌/◌, ◌%◌, ◌==◌, ◌&&◌, ◌||◌, not, nat_lt, Bool, true, false, cond}
use Rattle.std.specs.Prelude.{List, [], ◌∷◌, ◌++◌, codes, length, take, drop}
use Rattle.std.specs.Fmt.{decimal}
use Rattle.std.specs.List.{list_all}
use Rattle.std.specs.Net.Addr.{segments_of}
use Rattle.std.specs.Net.Text.{ipv4_text, ipv6_text}
use Rattle.link_lines_values.specs.declared.exact.ExactBy.{ExactBy}
use Rattle.link_lines_values.specs.declared.exact.ExactBy.TheVariants as E
use Rattle.link_lines_values.specs.declared.fields.Layout.{Layout}
use Rattle.link_lines_values.specs.declared.number_tables.Numbers.{Numbers}
use Rattle.link_lines_values.specs.Digits.{big_endian}
use Rattle.link_lines_values.specs.Bytes.{address_text, bytes_text, hardware_text, hex_text, is_zero, quoted}
use Rattle.link_lines_values.specs.Layouts.{layout_fields}
use Rattle.link_lines_values.specs.Names.{Text}
use Rattle.link_lines_values.specs.Records.{Field, counters_determine, counters_text, fields_determine, fields_text}
use Rattle.link_lines_values.specs.Records.{has_no_booleans, is_counters, is_padding, is_record, is_size}
use Rattle.link_lines_values.specs.Values.{are_fields_on_a_line, determines_sized, format_of, is_shown_on_a_line}
use Rattle.link_lines_values.specs.Values.{number_value, value_text}

-- How the payload of a raw attribute is shown: numbers with their names, records with their fields.
abbrev pub Exact : Type 0
Exact = ExactBy (List Text) (List Field)

-- The format that a value in code represents.
abbrev pub exact_of : ExactBy Numbers Layout → Exact
exact_of (E.Number n) = E.Number n
exact_of (E.Sized n shown) = E.Sized n (format_of shown)
exact_of E.Bytes = E.Bytes
exact_of E.HardwareAddress = E.HardwareAddress
exact_of E.Address = E.Address
exact_of E.Text = E.Text
exact_of E.Uint = E.Uint
exact_of (E.Numbers n) = E.Numbers n
exact_of E.BridgeId = E.BridgeId
exact_of E.Labels = E.Labels
exact_of E.Via = E.Via
exact_of (E.Record layout) = E.Record (layout_fields layout)
exact_of (E.Counters layout) = E.Counters (layout_fields layout)

-- ---- which payloads are shown by their value

-- Whether the last byte is a NUL.
abbrev pub ends_with_nul : List ℕ → Bool
ends_with_nul [] = false
ends_with_nul (b ∷ []) = b == 0
ends_with_nul (b ∷ c ∷ p) = ends_with_nul (c ∷ p)

-- Whether there are 4 bytes, or 8 of which the last four aren't all zero.
abbrev pub is_uint : List ℕ → Bool
is_uint p = (length p == 4) || ((length p == 8) && not (is_zero (drop 4 p)))

-- Whether the number of bytes is a multiple of a size that isn't zero.
abbrev pub is_multiple : ℕ → List ℕ → Bool
is_multiple n p = nat_lt 0 n && (length p % n == 0)

-- Whether the bytes begin with a family below 256, as a little-endian number of 2 bytes.
abbrev pub has_family : ℕ → List ℕ → Bool
has_family family (low ∷ high ∷ p) = (low == family) && (high == 0)
has_family family p = false

-- Whether the bytes are the family 2 (AF_INET) and 4 bytes, or the family 10 (AF_INET6) and 16 bytes.
abbrev pub is_via : List ℕ → Bool
is_via p = cond (length p == 6) (has_family 2 p) ((length p == 18) && has_family 10 p)

-- Whether the bytes are counters, and fewer than 2 ^ 64.
abbrev pub are_counters : List Field → List ℕ → Bool
are_counters fs p = is_counters fs p && nat_lt (length p) 18446744073709551616

-- Whether a payload is shown by its value.
abbrev pub takes : Exact → List ℕ → Bool
takes (E.Number n) p = length p == n
takes (E.Sized n shown) p = length p == n
takes E.Bytes p = true
takes E.HardwareAddress p = true
takes E.Address p = (length p == 4) || (length p == 16)
takes E.Text p = ends_with_nul p
takes E.Uint p = is_uint p
takes (E.Numbers n) p = is_multiple n p
takes E.BridgeId p = length p == 8
takes E.Labels p = nat_lt 0 (length p) && (length p % 4 == 0)
takes E.Via p = is_via p
takes (E.Record fs) p = is_record fs p
takes (E.Counters fs) p = are_counters fs p

-- ---- values

-- The texts of the first k pieces of n bytes, one after the other.
abbrev pub pieces_text : (List ℕ → List ℕ) → ℕ → ℕ → List ℕ → List ℕ
pieces_text f n zero p = []
pieces_text f n (suc k) p = f (take n p) ++ pieces_text f n k (drop n p)

-- Little-endian numbers of n bytes each, with a space before each; bytes if n is 0.
abbrev pub numbers_text : ℕ → List ℕ → List ℕ
numbers_text n p = cond (n == 0) (bytes_text p) (pieces_text (number_value []) n (length p / n) p)

-- The identifier of a bridge, of 8 bytes, as in `8000.3e4f7d5bd0f4`; other sizes as bytes.
abbrev pub bridge_id_text : List ℕ → List ℕ
bridge_id_text p = cond (length p == 8) (32 ∷ (hex_text (take 2 p) ++ 46 ∷ hex_text (drop 2 p))) (bytes_text p)

-- An MPLS label by its number, as in `100 tc 0 s 1 ttl 0`: parts of 20, 3, 1 and 8 bits.
abbrev pub label_text : ℕ → List ℕ
label_text n =
    decimal (n / 4096) ++ (codes " tc " ++ (decimal (n / 512 % 8) ++ (codes " s " ++
    (decimal (n / 256 % 2) ++ (codes " ttl " ++ decimal (n % 256))))))

-- An MPLS label of 4 bytes; other sizes in hex.
abbrev pub label_value : List ℕ → List ℕ
label_value part = cond (length part == 4) (label_text (big_endian part)) (hex_text part)

-- An MPLS label after the one before it.
abbrev pub label_after : List ℕ → List ℕ
label_after part = codes " / " ++ label_value part

-- MPLS labels with ` / ` before each.
abbrev pub more_labels_text : List ℕ → List ℕ
more_labels_text p = pieces_text label_after 4 (length p / 4) p

-- A stack of MPLS labels.
abbrev pub labels_text : List ℕ → List ℕ
labels_text p = 32 ∷ (label_value (take 4 p) ++ more_labels_text (drop 4 p))

-- A gateway with its family, by the number of bytes: 6 for IPv4, 18 for IPv6; other sizes as bytes.
abbrev pub via_text : List ℕ → List ℕ
via_text p =
    cond (length p == 6) (codes " family=2 (AF_INET) addr=" ++ ipv4_text (drop 2 p))
    (cond (length p == 18) (codes " family=10 (AF_INET6) addr=" ++ ipv6_text (segments_of (drop 2 p))) (bytes_text p))

-- The value of a payload, with a space before it if there is anything to show.
abbrev pub exact_text : Exact → List ℕ → List ℕ
exact_text (E.Number n) p = number_value [] p
exact_text (E.Sized n shown) p = value_text shown p
exact_text E.Bytes p = bytes_text p
exact_text E.HardwareAddress p = hardware_text p
exact_text E.Address p = address_text p
exact_text E.Text p = 32 ∷ quoted p
exact_text E.Uint p = number_value [] p
exact_text (E.Numbers n) p = numbers_text n p
exact_text E.BridgeId p = bridge_id_text p
exact_text E.Labels p = labels_text p
exact_text E.Via p = via_text p
exact_text (E.Record fs) p = fields_text 61 false fs p
exact_text (E.Counters fs) p = counters_text fs p

-- The payload of a raw attribute: its value, or else the word `bytes` and the bytes.
abbrev pub raw_value : Exact → List ℕ → List ℕ
raw_value x p = cond (takes x p) (exact_text x p) (codes " bytes" ++ bytes_text p)

-- ---- whether a value determines the payload

-- Whether a text has no space.
abbrev pub has_no_space : List ℕ → Bool
has_no_space s = list_all (λ c. not (c == 32)) s

-- Whether the first field is shown, and its name has no space.
abbrev pub begins_with_word : List Field → Bool
begins_with_word [] = false
begins_with_word (f ∷ fs) = not (is_padding f.2) && has_no_space f.0

-- Whether the value determines the payloads that are shown by it, and is on one line; of a record also whether its
-- first field is shown, with a name that has no space.
abbrev pub determines_exact : Exact → Bool
determines_exact (E.Number n) = is_size n
determines_exact (E.Sized n shown) = determines_sized n shown && is_shown_on_a_line shown
determines_exact (E.Numbers n) = (n == 2) || (n == 4)
determines_exact (E.Record fs) =
    fields_determine 61 fs && (has_no_booleans fs && (begins_with_word fs && are_fields_on_a_line fs))
determines_exact (E.Counters fs) = counters_determine fs && are_fields_on_a_line fs
determines_exact x = true
