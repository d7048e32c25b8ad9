-- Names that end otherwise than those of a list.
use Rattle.std.proofs.Common.{◌≡◌, Bool, ℕ, List, [], ◌∷◌, true, false, refl, ap, arith}
use Rattle.std.specs.Prelude.{◌||◌, bytes_eq}
use Rattle.std.specs.List.{list_all}
use Rattle.std.proofs.lemmas.Slice.Eq.{bytes_eq-Decides}
use Rattle.link_lines_parts.specs.Names.{is_among}
use Rattle.link_lines_json.specs.Names.{bytes_names, has_end_of_bytes, has_letter_of_object, object_fields}

-- A name isn't one of those that all pass a test which it fails.
not_among : (p : List ℕ → Bool) (names : List (List ℕ)) (name : List ℕ) → list_all p names ≡ true → p name ≡ false → is_among names name ≡ false
not_among p [] name all fails = refl
not_among p (other ∷ names) name all fails =
    elim (bytes_eq other name) as (λ b. bytes_eq other name ≡ b → (b || is_among names name) ≡ false) [
      | true ↦ (λ e. absurd (let same = ap p ((bytes_eq-Decides other name).0 e) in cc))
      | false ↦ (λ e. not_among p names name (let rest : list_all p names ≡ true = grind arith in rest) fails)
    ] refl

-- What doesn't end as the names do isn't one of them.
pub ends_differ : (name : List ℕ) → has_end_of_bytes name ≡ false → is_among bytes_names name ≡ false
unfolding bytes_names
ends_differ name fails = not_among has_end_of_bytes bytes_names name refl fails

-- What has another letter before its last one than the names of that list isn't one of them.
pub letters_differ : (name : List ℕ) → has_letter_of_object name ≡ false → is_among object_fields name ≡ false
unfolding object_fields
letters_differ name fails = not_among has_letter_of_object object_fields name refl fails
