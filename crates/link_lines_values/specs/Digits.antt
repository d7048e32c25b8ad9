-- Numbers as digits, and bytes as numbers.
use Rattle.std.specs.Prelude.{ℕ, ◌+◌, ◌-◌, ◌/◌, ◌%◌, ◌==◌, ◌||◌, Bool, false, List, [], ◌∷◌, ◌++◌, codes, cond}
use Rattle.std.specs.Prelude.{length, nat_lt, reverse}
use Rattle.std.specs.Fmt.{decimal, digits, digit_glyph}
use Rattle.attribute_tables_grammar.specs.Shapes.{number}

-- The big-endian number of some bytes.
abbrev pub big_endian : List ℕ → ℕ
big_endian bytes = number (reverse bytes)

-- Whether bytes have the size of a number: 1, 2, 3, 4 or 8.
abbrev pub is_number : List ℕ → Bool
is_number bytes =
    (length bytes == 1) ||
    ((length bytes == 2) || ((length bytes == 3) || ((length bytes == 4) || (length bytes == 8))))

-- A byte as two hex digits.
abbrev pub hex_byte : ℕ → List ℕ
hex_byte byte = digit_glyph false (byte / 16) ∷ digit_glyph false (byte % 16) ∷ []

-- A number as in `0x1f`, without leading zeros.
abbrev pub hex_number : ℕ → List ℕ
hex_number n = codes "0x" ++ digits 16 false n

-- A number of 2 bytes as in `0xc046`.
abbrev pub four_digits : ℕ → List ℕ
four_digits n = codes "0x" ++ (hex_byte (n / 256) ++ hex_byte (n % 256))

-- A number with its sign: from half on it is the number minus twice the half.
abbrev pub signed_by : ℕ → ℕ → List ℕ
signed_by half n = cond (nat_lt n half) (decimal n) (45 ∷ decimal (half + half - n))

-- Half of the numbers of 1, 2 or 8 bytes, or of 4 for any other size.
abbrev pub half_of : ℕ → ℕ
half_of size =
    cond (size == 1) 128 (cond (size == 2) 32768 (cond (size == 8) 9223372036854775808 2147483648))

-- The sizes that signed numbers have.
abbrev pub is_signed_size : ℕ → Bool
is_signed_size n = (n == 1) || ((n == 2) || ((n == 4) || (n == 8)))
