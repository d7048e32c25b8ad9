-- Rows of kinds and their names, with any information attached to a name.
use Rattle.std.specs.Prelude.{ℕ, ◌&&◌, not, nat_le, nat_lt, Bool, true, false, List, [], ◌∷◌, Option, Some, None}
use Rattle.std.specs.Prelude.{bytes_eq, option_map}

-- A name, with the information attached to it.
abbrev pub Named : Type 0 → Type 0
Named B = List ℕ × B

-- A kind, with its name if it has one.
abbrev pub NameRowOf : Type 0 → Type 0
NameRowOf B = ℕ × Option (Named B)

-- The name that a value in code represents.
abbrev pub named_of : {N A B : Type 0} → (N → List ℕ) → (A → B) → N × A → Named B
named_of f g n = (f n.0, g n.1)

-- The rows that a constant in code represents.
abbrev pub rows_in_code : {N A B : Type 0} → (N → List ℕ) → (A → B) → List (ℕ × Option (N × A)) → List (NameRowOf B)
rows_in_code f g [] = []
rows_in_code f g (t ∷ ts) = (t.0, option_map (named_of f g) t.1) ∷ rows_in_code f g ts

-- ---- tests of whole tables

-- A property of a kind and its name, true for a kind without one.
abbrev pub if_named : {B : Type 0} → (ℕ → Named B → Bool) → NameRowOf B → Bool
if_named f (k, None) = true
if_named f (k, Some n) = f k n

-- Whether a property holds for each kind that has a name, and its name.
abbrev pub all_named_rows : {B : Type 0} → (ℕ → Named B → Bool) → List (NameRowOf B) → Bool
all_named_rows f [] = true
all_named_rows f (t ∷ ts) = if_named f t && all_named_rows f ts

-- Whether no byte of a string is below the digits, so that a space or a newline ends it.
abbrev pub is_word : List ℕ → Bool
is_word [] = true
is_word (c ∷ s) = nat_le 48 c && is_word s

-- Whether a byte string is a word that begins with a byte from `A` up to the one before `a`.
abbrev pub is_name : List ℕ → Bool
is_name [] = false
is_name (c ∷ s) = nat_le 65 c && (nat_lt c 97 && is_word s)

-- Whether a name is a word that begins so, whatever its kind.
abbrev pub has_name : {B : Type 0} → ℕ → Named B → Bool
has_name k n = is_name n.0

-- Whether a name differs from this one, whatever its kind.
abbrev pub is_other : {B : Type 0} → List ℕ → ℕ → Named B → Bool
is_other s k n = not (bytes_eq s n.0)

-- Whether no later row has the name of this row.
abbrev pub is_new : {B : Type 0} → NameRowOf B → List (NameRowOf B) → Bool
is_new (k, None) ts = true
is_new (k, Some n) ts = all_named_rows (is_other n.0) ts

-- Whether no two rows have one name.
abbrev pub names_apart : {B : Type 0} → List (NameRowOf B) → Bool
names_apart [] = true
names_apart (t ∷ ts) = is_new t ts && names_apart ts
