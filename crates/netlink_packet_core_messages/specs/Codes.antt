-- Codes at the start of the bodies of DONE and ERROR messages (netlink.h, struct nlmsgerr): signed, 32 bits,
-- little-endian.
use Rattle.std.specs.Prelude.{◌≢◌, ℕ, ℤ, Option, None, Some, List, pos, cond}
use Rattle.std.specs.Ordering.{int_eq}
use Rattle.std.specs.Int.{w32, cast_signed, cast_unsigned}
use Rattle.std.specs.Int.RustNames.{FitsSigned}
use Rattle.netlink_packet_core_grammar.specs.Numbers.{u32_at, le4}

-- The code at the start of a body.
abbrev pub code_of : List ℕ → ℤ
code_of b = cast_signed w32 (u32_at 0 b)

-- The bytes of a code.
abbrev pub code_text : ℤ → List ℕ
code_text z = le4 (cast_unsigned w32 z)

-- The code, if it isn't 0.
abbrev pub nonzero_code : ℤ → Option ℤ
nonzero_code z = cond (int_eq z (pos 0)) None (Some z)

-- The code, or 0 if there is none.
abbrev pub raw_code : Option ℤ → ℤ
raw_code None = pos 0
raw_code (Some z) = z

-- The invariant of an optional code: it fits 32 bits, and isn't 0.
abbrev pub IsCode : Option ℤ → Type 0
IsCode None = Unit {0}
IsCode (Some z) = FitsSigned w32 z × (z ≢ pos 0)
