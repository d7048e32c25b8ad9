-- What calls promise that append a text, and look at a peer inside a peer by writing it at the end of the vector.
use Rattle.std.specs.Prelude.{◌≡◌, ◌+◌, ◌<◌, ◌≤◌, ◌++◌, ℕ, List, length, take, Vec, vec_capacity, Result, OnOk, OnErr}
use Rattle.std.specs.Global.{Global}
use Rattle.std.specs.declared.alloc.AllocError.{AllocError}

-- The text is appended, or memory ran out, as the vector lacked capacity for it and `spare` bytes more. Either way the
-- vector begins with what it held, and keeps its capacity.
pub record AppendsWith {V : Type 0} (spare : ℕ) (old new : Vec ℕ Global) (result : Result V AllocError) (text : List ℕ) :
    Type 0 where
  pub ok : OnOk result (new.items ≡ old.items ++ text)
  pub memory : OnErr result (vec_capacity old < length old.items + (length text + spare))
  pub capacity : vec_capacity old ≤ vec_capacity new
  pub kept : take (length old.items) new.items ≡ old.items
