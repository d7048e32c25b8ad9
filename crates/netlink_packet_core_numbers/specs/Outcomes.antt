-- Outcomes of reading and writing numbers, for contracts.
use Rattle.std.specs.Prelude.{◌≡◌, ◌≤◌, ◌↔◌, ◌++◌, ℕ, List, ⊤, Result, false, length, drop, IsOk, IfOk, IfErr, OnOk, OnErr}
use Rattle.netlink_packet_core_numbers.specs.declared.error.DecodeError.{DecodeError}
use Rattle.netlink_packet_core_numbers.specs.Errors.{is_memory}

-- A payload was read as the value with this encoding: if and only if it has `len` bytes. No allocation fails.
pub record IsReadAs {T : Type 0} (result : Result T DecodeError) (len : ℕ) (encoding : T → List ℕ) (payload : List ℕ) :
    Type 0 where
  pub size : IsOk result ↔ (length payload ≡ len)
  pub ok : IfOk result (λ v. encoding v ≡ payload)
  pub err : IfErr result (λ e. is_memory e ≡ false)

-- The `len` bytes of a value were written at the start of a buffer: if and only if the buffer has `len` bytes or more;
-- otherwise it is unchanged. No allocation fails.
pub record IsEmitted (result : Result ⊤ DecodeError) (len : ℕ) (bytes old new : List ℕ) : Type 0 where
  pub size : IsOk result ↔ (len ≤ length old)
  pub ok : OnOk result (new ≡ bytes ++ drop len old)
  pub err : OnErr result (new ≡ old)
  pub cause : IfErr result (λ e. is_memory e ≡ false)
