-- Known bytes of devices.
use Rattle.std.proofs.Common.{ℕ, ◌+◌, ◌-◌, Option, List, length, take, drop, sym, subst}
use Rattle.std.proofs.lemmas.List.{take_rest}
use Rattle.std.proofs.Math.Seq.{take-add}
use Rattle.std.proofs.KnownBytes.{Appends-trans}
use Rattle.std.specs.Io.KnownBytes.{Appends}

-- more bytes of a slice are read
pub Appends-slice : (a b c : Option (List ℕ)) (bytes : List ℕ) (m n : ℕ) → Appends a b (take m bytes) → Appends b c (take n (take (length bytes - m) (drop m bytes))) → Appends a c (take (m + n) bytes)
Appends-slice a b c bytes m n h k =
    subst (Appends a c) (sym (take-add m n bytes)) (Appends-trans a b c (take m bytes) (take n (drop m bytes)) h (subst (λ x. Appends b c (take n x)) (take_rest bytes m) k))
