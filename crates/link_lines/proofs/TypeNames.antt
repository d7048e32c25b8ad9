-- The names of message types.
use Rattle.std.proofs.Common.{◌≡◌, ℕ, ◌<◌, ◌^◌, Bool, true, false, cond, List, [], ◌∷◌, Some, refl, arith}
use Rattle.std.specs.Prelude.{◌&&◌, nat_lt}
use Rattle.std.specs.List.{list_all}
use Rattle.std.proofs.lemmas.Bool.{ltb-true}
use Rattle.link_lines_values.specs.Names.{Text}
use Rattle.link_lines_values.specs.NumberTexts.{number_texts}
use Rattle.link_lines_values.specs.declared.number_texts.TheConstants.{MESSAGE_TYPE}
use Rattle.link_lines.specs.Types.{is_word_of, named_in, named_type}

-- ---- every type with a name is below 65536

are_small : List Text → Bool
are_small rows = list_all (λ r. nat_lt r.0 65536) rows

types_are_small : are_small (number_texts MESSAGE_TYPE) ≡ true
unfolding are_small number_texts
types_are_small = refl

both : (a b : Bool) → (a && b) ≡ true → (a ≡ true) × (b ≡ true)
both true b e = (refl, e)
both false b e = absurd cc

small_by : (r : Text) (rows : List Text) (w : List ℕ) (n : ℕ) (b : Bool) → nat_lt r.0 65536 ≡ true → (named_in rows w ≡ Some n → n < 2 ^ 16) → cond b (Some r.0) (named_in rows w) ≡ Some n → n < 2 ^ 16
small_by r rows w n true s h e = let same : r.0 ≡ n = cc in omega (arith, ltb-true r.0 65536 s, same)
small_by r rows w n false s h e = h e

small_in : (rows : List Text) (w : List ℕ) (n : ℕ) → are_small rows ≡ true → named_in rows w ≡ Some n → n < 2 ^ 16
unfolding are_small
small_in [] w n s e = absurd cc
small_in (r ∷ rows) w n s e =
    let each = both (nat_lt r.0 65536) (are_small rows) s in
    small_by r rows w n (is_word_of r.1 w) each.0 (small_in rows w n each.1) e

-- The type with a name is a number of two bytes.
pub type_is_small : (w : List ℕ) (n : ℕ) → named_type w ≡ Some n → n < 2 ^ 16
unfolding named_type
type_is_small w n e = small_in (number_texts MESSAGE_TYPE) w n types_are_small e
