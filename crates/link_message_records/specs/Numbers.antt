-- The sizes of numbers in bytes.
use Rattle.std.specs.Prelude.{◌≡◌, ℕ, length, refl}
use Rattle.netlink_packet_core.specs.Numbers.{le4, le8}

-- A number of 4 bytes has 4 bytes.
pub le4_size : (n : ℕ) → length (le4 n) ≡ 4
unfolding le4
le4_size n = refl

-- A number of 8 bytes has 8 bytes.
pub le8_size : (n : ℕ) → length (le8 n) ≡ 8
unfolding le8
le8_size n = refl
