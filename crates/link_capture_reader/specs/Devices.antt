-- What sources and sinks count, and prefixes of what they read and write.
use Rattle.std.specs.Prelude.{◌≡◌, ℕ, ◌+◌, ◌-◌, ◌^◌, ◌&&◌, min, List, ◌++◌, Option, Result, Ok, Err, nat_lt, nat_eq, cond}
use Rattle.std.specs.Prelude.{Bool, false, true}
use Rattle.std.specs.Io.KnownBytes.{IsAtEnd}
use Rattle.link_capture_reader.specs.declared.devices.DeviceFailed.{DeviceFailed}

-- A count increased by one; the greatest number of 64 bits stays.
abbrev pub risen : ℕ → ℕ
risen n = min (n + 1) (2 ^ 64 - 1)

-- A count, increased by one if the condition holds.
abbrev pub counted : Bool → ℕ → ℕ
counted b n = cond b (risen n) n

-- The result of a read reports the end: nothing was read, although the buffer had capacity.
abbrev pub is_end : Result ℕ DeviceFailed → ℕ → Bool
is_end (Ok n) capacity = nat_eq n 0 && nat_lt 0 capacity
is_end (Err e) capacity = false

-- A source failed: it returned an error.
abbrev pub read_failed : Result ℕ DeviceFailed → Bool
read_failed (Ok n) = false
read_failed (Err e) = true

-- A sink failed: it returned an error, or took nothing of some bytes.
abbrev pub write_failed : Result ℕ DeviceFailed → ℕ → Bool
write_failed (Ok n) size = nat_eq n 0 && nat_lt 0 size
write_failed (Err e) size = true

-- A count was increased by one, such as that of the failures of a device that failed.
abbrev pub Rises : ℕ → ℕ → Type 0
Rises old new = new ≡ risen old

-- The source reported its end, and if the bytes to come are known, there are none.
abbrev pub ReportsItsEnd : ℕ → ℕ → Option (List ℕ) → Type 0
ReportsItsEnd old new to_come = Rises old new × IsAtEnd to_come

-- One string of bytes is a prefix of another.
abbrev pub IsPrefix : List ℕ → List ℕ → Type 0
IsPrefix prefix whole = (rest : List ℕ) × (whole ≡ prefix ++ rest)
