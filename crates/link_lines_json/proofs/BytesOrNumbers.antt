-- Whether a value is bytes counts only if it looks like a number.
use Rattle.std.proofs.Common.{◌≡◌, ◌++◌, ◌∷◌, [], Bool, ℕ, List, true, false, not, cond, refl, ap}
use Rattle.std.specs.Prelude.{◌&&◌, bytes_eq, codes}
use Rattle.link_lines_json.specs.Attributes.{mask_json, several_json, value_or_several}
use Rattle.link_lines_json.specs.Strings.{requoted}
use Rattle.link_lines_json.specs.Tokens.{TermText}
use Rattle.link_lines_json.specs.Values.{is_hex, is_number, is_quoted, key, members_json, next_key, set_json, text_json, word_json}

chosen : {A : Type 0} (n b : Bool) (x y : A) → cond (not (n && b) && n) x y ≡ cond (not b && n) x y
chosen true b x y = refl
chosen false true x y = refl
chosen false false x y = refl

word_by_number : (b : Bool) (w : List ℕ) → word_json (is_number w && b) w ≡ word_json b w
unfolding word_json
word_by_number b w = chosen (is_number w) b _ _

members_by_number : (b : Bool) (t : TermText) → members_json (is_number t.0 && b) t ≡ members_json b t
unfolding members_json
members_by_number b (w, names) = ap (λ x. cond (is_hex w) (set_json (codes "value") (codes "flags") (w, names)) (key (codes "value") ++ (cond (is_quoted w) (requoted w ++ (next_key (codes "quoted") ++ codes "true")) x ++ text_json names))) (word_by_number b w)

-- The value of an attribute, of which it is said only for numbers whether it is bytes.
pub first_value : (b : Bool) (t : TermText) (ts : List TermText) → value_or_several (is_number t.0 && b) t ts ≡ value_or_several b t ts
unfolding value_or_several
first_value b t [] = members_by_number b t
first_value b t (next ∷ ts) = ap (λ x. cond (bytes_eq next.0 (codes "mask")) (x ++ mask_json ts) (key (codes "value") ++ several_json (t ∷ next ∷ ts))) (members_by_number b t)
