-- A property of all names in rows holds for one that is found, and no two kinds have one name.
use Rattle.std.proofs.Common.{◌≡◌, ℕ, ◌<◌, ◌≤◌, Bool, true, false, cond, List, [], ◌∷◌, Option, Some, None, refl, sym, ap, ◌∙◌, arith}
use Rattle.std.specs.Prelude.{◌==◌, ◌&&◌, not, nat_lt, nat_le, get_or, bytes_eq}
use Rattle.std.proofs.lemmas.Bool.{and_parts, cond_both, eqb-true, leb-true, ltb-true, not-true, true≢false}
use Rattle.std.proofs.lemmas.Option.{same_Some}
use Rattle.std.proofs.lemmas.Slice.Eq.{bytes_eq-Decides}
use Rattle.link_lines_values.specs.DenseRows.{find}
use Rattle.link_lines_raw.specs.Names.{Named, NameRowOf, all_named_rows, if_named, is_name, is_new, is_other, is_word, names_apart}
use Rattle.link_lines_raw.proofs.Words.{IsWord, Starts, message_label}

found_by : {B : Type 0} (f : ℕ → Named B → Bool) (k j : ℕ) (t : Named B) (o more : Option (Named B)) (b : Bool) → (j == k) ≡ b → if_named f (j, o) ≡ true → (more ≡ Some t → f k t ≡ true) → cond b o more ≡ Some t → f k t ≡ true
found_by f k j t None more true h i rest e = absurd cc
found_by f k j t (Some n) more true h i rest e = ap (f k) (sym (same_Some n t e)) ∙ ap (λ l. f l n) (sym (eqb-true j k h)) ∙ i
found_by f k j t o more false h i rest e = rest e

pub found_in : {B : Type 0} (f : ℕ → Named B → Bool) (k : ℕ) (ts : List (NameRowOf B)) (t : Named B) → all_named_rows f ts ≡ true → find k ts ≡ Some t → f k t ≡ true
found_in f k [] t h e = absurd cc
found_in f k (x ∷ ts) t h e =
    let parts = and_parts (if_named f x) (all_named_rows f ts) h in
    found_by f k x.0 t x.1 (find k ts) (x.0 == k) refl parts.0 (found_in f k ts t parts.1) e

-- ---- two kinds with one name

not_other : {B : Type 0} (s : List ℕ) (n : Named B) → s ≡ n.0 → not (bytes_eq s n.0) ≡ true → ⊥
not_other s n e h = true≢false (sym ((bytes_eq-Decides s n.0).1 e) ∙ not-true (bytes_eq s n.0) h)

name_taken : {B : Type 0} (l : ℕ) (n t u : Named B) (ts : List (NameRowOf B)) → n ≡ t → t.0 ≡ u.0 → all_named_rows (is_other n.0) ts ≡ true → find l ts ≡ Some u → ⊥
name_taken l n t u ts same e h f = not_other n.0 u (ap (λ z. z.0) same ∙ e) (found_in (is_other n.0) l ts u h f)

apart_by : {B : Type 0} (k l j : ℕ) (o : Option (Named B)) (t u : Named B) (ts : List (NameRowOf B)) (a b : Bool) → (j == k) ≡ a → (j == l) ≡ b → is_new (j, o) ts ≡ true → t.0 ≡ u.0 → (find k ts ≡ Some t → find l ts ≡ Some u → k ≡ l) →
    cond a o (find k ts) ≡ Some t → cond b o (find l ts) ≡ Some u → k ≡ l
apart_by k l j o t u ts true true h i n e more f g = sym (eqb-true j k h) ∙ eqb-true j l i
apart_by k l j None t u ts true false h i n e more f g = absurd cc
apart_by k l j (Some x) t u ts true false h i n e more f g = absurd (name_taken l x t u ts (same_Some x t f) e n g)
apart_by k l j None t u ts false true h i n e more f g = absurd cc
apart_by k l j (Some x) t u ts false true h i n e more f g = absurd (name_taken k x u t ts (same_Some x u g) (sym e) n f)
apart_by k l j o t u ts false false h i n e more f g = more f g

pub apart_in : {B : Type 0} (k l : ℕ) (t u : Named B) (ts : List (NameRowOf B)) → names_apart ts ≡ true → t.0 ≡ u.0 → find k ts ≡ Some t → find l ts ≡ Some u → k ≡ l
apart_in k l t u [] h e f g = absurd cc
apart_in k l t u (x ∷ ts) h e f g =
    let parts = and_parts (is_new x ts) (names_apart ts) h in
    apart_by k l x.0 x.1 t u ts (x.0 == k) (x.0 == l) refl refl parts.0 e (apart_in k l t u ts parts.1 e) f g

-- ---- properties of each of some lists

pub chosen : {A : Type 0} (f : A → Bool) (b : Bool) (x y : A) → f x ≡ true → f y ≡ true → f (cond b x y) ≡ true
chosen f b x y h k = cond_both b x y (λ z. f z ≡ true) (λ e. h) (λ e. k)

pub first_holds : (x y : Bool) → (x && y) ≡ true → x ≡ true
first_holds x y h = (and_parts x y h).0

pub others_hold : (x y : Bool) → (x && y) ≡ true → y ≡ true
others_hold x y h = (and_parts x y h).1

-- ---- names of a table

over_digits : (c : ℕ) → 65 ≤ c → 48 ≤ c
over_digits c h = omega arith

pub name_of : (s : List ℕ) → is_name s ≡ true → IsWord s × (Starts s × (get_or s 0 0 < 97))
name_of [] h = absurd cc
name_of (c ∷ s) h =
    let parts = and_parts (nat_le 65 c) (nat_lt c 97 && is_word s) h in
    let more = and_parts (nat_lt c 97) (is_word s) parts.1 in
    let low = leb-true 65 c parts.0 in
    ((over_digits c low, message_label s more.1), (low, ltb-true c 97 more.0))
