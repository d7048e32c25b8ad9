-- The first of two values, of which the first one is in code.
use Rattle.std.proofs.Common.{◌≡◌, true, false, Option, Some, None, refl}
use Rattle.std.specs.Prelude.{is_some, option_map}
use Rattle.link_capture_walks.specs.Walks.{or_else}

module _ {A B : Type 0} (f : B → A) where
  pub some_taken : (o : Option B) (q : Option A) → is_some o ≡ true → or_else (option_map f o) q ≡ option_map f o
  some_taken None q h = absurd cc
  some_taken (Some x) q h = refl

  pub none_taken : (o : Option B) (q : Option A) → is_some o ≡ false → or_else (option_map f o) q ≡ q
  none_taken None q h = refl
  none_taken (Some x) q h = absurd cc
