-- The kinds of attributes in lists as words.
use Rattle.std.specs.Prelude.{ℕ, ◌/◌, ◌%◌, ◌==◌, Bool, cond, List, [], ◌++◌, Option, Some, None, codes}
use Rattle.std.specs.Fmt.{decimal}

-- Whether a kind has the flag bit 0x4000 (netlink.h, NLA_F_NET_BYTEORDER).
abbrev pub has_byte_order_bit : ℕ → Bool
has_byte_order_bit kind = kind / 0x4000 % 2 == 1

-- Whether a kind has the flag bit 0x8000 (netlink.h, NLA_F_NESTED).
abbrev pub has_nested_bit : ℕ → Bool
has_nested_bit kind = kind / 0x8000 % 2 == 1

-- The name of an index, as in `[3]`.
abbrev pub index_name : ℕ → List ℕ
index_name kind = codes "[" ++ (decimal kind ++ codes "]")

-- A name, or that of an index.
abbrev pub name_or_index : {N : Type 0} → (N → List ℕ) → ℕ → Option N → List ℕ
name_or_index f kind None = index_name kind
name_or_index f kind (Some name) = f name

-- The word ` nested` for a kind with the nested bit.
abbrev pub nested_word : ℕ → List ℕ
nested_word kind = cond (has_nested_bit kind) (codes " nested") []
