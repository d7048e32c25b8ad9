-- The laws of the numbers' bytes, as the functions of `laws` state them.
use Rattle.std.specs.Prelude.{◌≡◌, ℕ, ◌<◌, ◌^◌, List, length}
use Rattle.netlink_packet_core_grammar.specs.Numbers.{le2, le4, le8, le16, be2, be4, be8, be16}

-- Numbers with equal bytes are equal.
abbrev pub IsDetermined : (ℕ → List ℕ) → Type 0
IsDetermined bytes_of = (m n : ℕ) → bytes_of m ≡ bytes_of n → m ≡ n

-- Numbers below 2 to the power `bits` with equal bytes are equal.
abbrev pub OneNumber : ℕ → (ℕ → List ℕ) → Type 0
OneNumber bits bytes_of = (m n : ℕ) → m < 2 ^ bits → n < 2 ^ bits → bytes_of m ≡ bytes_of n → m ≡ n

-- The bytes of a number determine it, for each size and byte order.
pub record NumbersAreDetermined : Type 0 where
  pub le2_determined : IsDetermined le2
  pub le4_determined : IsDetermined le4
  pub le8_determined : IsDetermined le8
  pub le16_determined : OneNumber 128 le16
  pub be2_determined : IsDetermined be2
  pub be4_determined : IsDetermined be4
  pub be8_determined : IsDetermined be8
  pub be16_determined : OneNumber 128 be16

-- A number is written as `size` bytes.
abbrev pub HasSize : ℕ → (ℕ → List ℕ) → Type 0
HasSize size bytes_of = (n : ℕ) → length (bytes_of n) ≡ size

-- A number is written as 2, 4, 8 or 16 bytes, in either byte order.
pub record NumbersHaveSizes : Type 0 where
  pub le2_size : HasSize 2 le2
  pub le4_size : HasSize 4 le4
  pub le8_size : HasSize 8 le8
  pub le16_size : HasSize 16 le16
  pub be2_size : HasSize 2 be2
  pub be4_size : HasSize 4 be4
  pub be8_size : HasSize 8 be8
  pub be16_size : HasSize 16 be16
