-- Numbers as bytes, in either byte order, and the number at an offset of a byte string.
use Rattle.std.specs.Prelude.{ℕ, ℤ, suc, pos, negsuc, ◌+◌, ◌-◌, ◌*◌, ◌/◌, ◌^◌, cond, nat_lt, List, [], ◌∷◌, min}
use Rattle.std.specs.Prelude.{slice_index}
use Rattle.std.specs.Int.{w16, w32, w128, byte_at, from_le_bytes, to_le_bytes, to_be_bytes}

-- A number as 2 bytes, little-endian. In `le2`, `le4` and `le8` the last byte is the rest of the number, unreduced: it
-- is above 255 if the number is too large for the bytes. So the encoding determines a number of any size, which laws
-- may range over.
unfoldable pub le2 : ℕ → List ℕ
le2 n = byte_at 0 n ∷ n / 256 ^ 1 ∷ []

-- A number as 4 bytes, little-endian.
unfoldable pub le4 : ℕ → List ℕ
le4 n = byte_at 0 n ∷ byte_at 1 n ∷ byte_at 2 n ∷ n / 256 ^ 3 ∷ []

-- A number as 8 bytes, little-endian.
unfoldable pub le8 : ℕ → List ℕ
le8 n = byte_at 0 n ∷ byte_at 1 n ∷ byte_at 2 n ∷ byte_at 3 n ∷ byte_at 4 n ∷ byte_at 5 n ∷ byte_at 6 n ∷ n / 256 ^ 7 ∷
    []

-- A number as 16 bytes, little-endian.
unfoldable pub le16 : ℕ → List ℕ
le16 n = to_le_bytes w128 n

-- A number as 2 bytes, big-endian.
unfoldable pub be2 : ℕ → List ℕ
be2 n = n / 256 ^ 1 ∷ byte_at 0 n ∷ []

-- A number as 4 bytes, big-endian.
unfoldable pub be4 : ℕ → List ℕ
be4 n = n / 256 ^ 3 ∷ byte_at 2 n ∷ byte_at 1 n ∷ byte_at 0 n ∷ []

-- A number as 8 bytes, big-endian.
unfoldable pub be8 : ℕ → List ℕ
be8 n = n / 256 ^ 7 ∷ byte_at 6 n ∷ byte_at 5 n ∷ byte_at 4 n ∷ byte_at 3 n ∷ byte_at 2 n ∷ byte_at 1 n ∷ byte_at 0 n ∷
    []

-- A number as 16 bytes, big-endian.
unfoldable pub be16 : ℕ → List ℕ
be16 n = to_be_bytes w128 n

-- The bits of a signed number of 4 bytes. A number out of range gets a number of its own, too large for 4 bytes.
unfoldable pub signed_bits : ℤ → ℕ
signed_bits (pos n) = cond (nat_lt n 2147483648) n (4294967296 + 2 * n)
signed_bits (negsuc n) = cond (nat_lt n 2147483648) (4294967296 - suc n) (4294967297 + 2 * n)

-- The little-endian number of 2 bytes at offset i. A byte after the end counts as 0.
unfoldable pub u16_at : ℕ → List ℕ → ℕ
u16_at i b = from_le_bytes w16 (slice_index b i ∷ slice_index b (i + 1) ∷ [])

-- The little-endian number of 4 bytes at offset i. A byte after the end counts as 0.
unfoldable pub u32_at : ℕ → List ℕ → ℕ
u32_at i b = from_le_bytes w32 (slice_index b i ∷ slice_index b (i + 1) ∷ slice_index b (i + 2) ∷
    slice_index b (i + 3) ∷ [])

-- A length as a `usize`; a greater one saturates.
abbrev pub as_usize : ℕ → ℕ
as_usize n = min n 18446744073709551615
