-- What calls that append a text promise.
use Rattle.std.specs.Prelude.{◌≡◌, ◌+◌, ◌<◌, ◌≤◌, ◌++◌, ℕ, List, length, take, Vec, vec_capacity, Result, OnOk, OnErr}
use Rattle.std.specs.Global.{Global}
use Rattle.std.specs.declared.alloc.AllocError.{AllocError}

-- The text is appended, or memory ran out, as the vector lacked capacity for it. Either way the vector begins with what
-- it held, and keeps its capacity.
pub record Appends {V : Type 0} (old new : Vec ℕ Global) (result : Result V AllocError) (text : List ℕ) : Type 0 where
  pub ok : OnOk result (new.items ≡ old.items ++ text)
  pub memory : OnErr result (vec_capacity old < length old.items + length text)
  pub capacity : vec_capacity old ≤ vec_capacity new
  pub kept : take (length old.items) new.items ≡ old.items

-- Of a text, all but the rest is appended. It is for invariants of loops.
pub record AppendsAllBut (old new : Vec ℕ Global) (whole rest : List ℕ) : Type 0 where
  pub text : new.items ++ rest ≡ old.items ++ whole
  pub size : length new.items + length rest ≡ length old.items + length whole
  pub capacity : vec_capacity old ≤ vec_capacity new
  pub kept : take (length old.items) new.items ≡ old.items
