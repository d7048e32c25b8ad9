-- Each type with a name is read by its name.
use Rattle.std.proofs.Common.{◌≡◌, ℕ, Bool, true, false, cond, List, [], ◌∷◌, Option, Some, None, refl, ap, subst, ◌∙◌, ◌⊎◌, inl, inr}
use Rattle.std.specs.Prelude.{◌&&◌, ◌||◌, ◌==◌, Contains}
use Rattle.std.proofs.lemmas.Bool.{and_parts}
use Rattle.std.proofs.lemmas.Bool.Decides.{Decides-eqb}
use Rattle.std.proofs.lemmas.List.Sums.{AllPass-from_list_all}
use Rattle.std.proofs.lemmas.Slice.Eq.{bytes_eq-Decides}
use Rattle.std.specs.List.{list_all, after_first}
use Rattle.std.specs.Str.{bytes_eq, str_to_ascii_lowercase}
use Rattle.link_lines_values.specs.Names.{Text}
use Rattle.link_lines_values.specs.NumberTexts.{number_texts}
use Rattle.link_lines_values.specs.declared.number_texts.TheConstants.{MESSAGE_TYPE}
use Rattle.linkcap_tests.specs.Laws.{TypesHaveNames}
use Rattle.link_lines.specs.Types.{is_underscore, is_word_of, named_in, named_type}

abbrev lower : List ℕ → List ℕ
lower w = str_to_ascii_lowercase w

-- The number of the first row whose name is this word of lower case.
abbrev found : List Text → List ℕ → Option ℕ
found [] l = None
found (r ∷ rows) l = cond (bytes_eq (lower r.1) l || bytes_eq (lower (after_first is_underscore r.1)) l) (Some r.0) (found rows l)

found_in : (rows : List Text) (w : List ℕ) → named_in rows w ≡ found rows (lower w)
found_in [] w = refl
found_in (r ∷ rows) w = ap (λ z. cond (is_word_of r.1 w) (Some r.0) z) (found_in rows w)

abbrev is_number : Option ℕ → ℕ → Bool
is_number None n = false
is_number (Some m) n = m == n

abbrev is_read : List Text → Text → Bool
is_read rows r = is_number (found rows (lower r.1)) r.0 && is_number (found rows (lower (after_first is_underscore r.1))) r.0

all_read : List Text → Bool
all_read rows = list_all (is_read rows) rows

types_are_read : all_read (number_texts MESSAGE_TYPE) ≡ true
unfolding all_read number_texts
types_are_read = refl

is_some : (o : Option ℕ) (n : ℕ) → is_number o n ≡ true → o ≡ Some n
is_some None n e = absurd cc
is_some (Some m) n e = ap Some ((Decides-eqb m n).0 e)

one_of : (a b : Bool) → (a || b) ≡ true → (a ≡ true) ⊎ (b ≡ true)
one_of true b e = inl refl
one_of false b e = inr e

found_by : (rows : List Text) (r : Text) (w : List ℕ) → is_read rows r ≡ true → (lower r.1 ≡ lower w) ⊎ (lower (after_first is_underscore r.1) ≡ lower w) → found rows (lower w) ≡ Some r.0
found_by rows r w e (inl same) = subst (λ l. found rows l ≡ Some r.0) same (is_some (found rows (lower r.1)) r.0 (and_parts (is_number (found rows (lower r.1)) r.0) _ e).0)
found_by rows r w e (inr same) = subst (λ l. found rows l ≡ Some r.0) same (is_some (found rows (lower (after_first is_underscore r.1))) r.0 (and_parts (is_number (found rows (lower r.1)) r.0) _ e).1)

same_lower : (r : Text) (w : List ℕ) → is_word_of r.1 w ≡ true → (lower r.1 ≡ lower w) ⊎ (lower (after_first is_underscore r.1) ≡ lower w)
same_lower r w e = equal_by r w (one_of (bytes_eq (lower r.1) (lower w)) (bytes_eq (lower (after_first is_underscore r.1)) (lower w)) e) where
  equal_by : (r : Text) (w : List ℕ) → (bytes_eq (lower r.1) (lower w) ≡ true) ⊎ (bytes_eq (lower (after_first is_underscore r.1)) (lower w) ≡ true) → (lower r.1 ≡ lower w) ⊎ (lower (after_first is_underscore r.1) ≡ lower w)
  equal_by r w (inl e) = inl ((bytes_eq-Decides _ _).0 e)
  equal_by r w (inr e) = inr ((bytes_eq-Decides _ _).0 e)

each_read : (rows : List Text) (r : Text) (w : List ℕ) → all_read rows ≡ true → Contains rows r → is_word_of r.1 w ≡ true → named_in rows w ≡ Some r.0
unfolding all_read
each_read rows r w e c h =
    let passes : is_read rows r ≡ true = subst (λ x. is_read rows x ≡ true) c.2 (AllPass-from_list_all (is_read rows) rows e c.0 r c.1) in
    found_in rows w ∙ found_by rows r w passes (same_lower r w h)

by_name : (r : Text) (w : List ℕ) → Contains (number_texts MESSAGE_TYPE) r → is_word_of r.1 w ≡ true → named_type w ≡ Some r.0
unfolding named_type
by_name r w c h = each_read (number_texts MESSAGE_TYPE) r w types_are_read c h

pub types_have_names : TypesHaveNames
types_have_names = record { by_name = by_name }
