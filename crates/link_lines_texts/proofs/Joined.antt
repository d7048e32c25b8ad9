-- Two lists of the same kinds merged into one, and a name in them.
use Rattle.std.proofs.Common.{◌≡◌, ℕ, zero, suc, ◌-◌, ◌<◌, ◌≤◌, Bool, true, false, cond, List, [], ◌∷◌, get_or, Option, refl, sym, ap, ◌∙◌, arith}
use Rattle.std.specs.Prelude.{◌==◌, ◌&&◌, nat_lt}
use Rattle.std.proofs.lemmas.Bool.{and_parts, eqb-true, le-ltb, lt-ltb}
use Rattle.link_lines_values.specs.DenseRows.{find}
use Rattle.link_tables.specs.declared.kinds.TheConstants.{AMT}
use Rattle.link_tables.specs.declared.table.TheConstants.{LINK_INFO, LINK_UNSPEC}
use Rattle.link_lines_texts.specs.AttributeNames.{Name, AttributeRow, data_names, first_name, info_attribute_names, joined, link_rows, link_names, nested_names, family_names, attribute_names_of}

abbrev alike : List AttributeRow → List AttributeRow → Bool
alike [] [] = true
alike (t ∷ ts) (u ∷ us) = (t.0 == u.0) && alike ts us
alike ts us = false

found_by : (a b more other : Option Name) (x : Bool) → more ≡ other → (c d : Option Name) → other ≡ first_name c d → cond x (first_name a b) more ≡ first_name (cond x a c) (cond x b d)
found_by a b more other true h c d e = refl
found_by a b more other false h c d e = h ∙ e

find_joined : (k : ℕ) (ts us : List AttributeRow) → alike ts us ≡ true → find k (joined ts us) ≡ first_name (find k ts) (find k us)
find_joined k [] [] h = refl
find_joined k [] (u ∷ us) h = absurd cc
find_joined k (t ∷ ts) [] h = absurd cc
find_joined k (t ∷ ts) (u ∷ us) h =
    let parts = and_parts (t.0 == u.0) (alike ts us) h in
    found_by t.1 u.1 (find k (joined ts us)) _ (t.0 == k) (find_joined k ts us parts.1) (find k ts) (find k us) refl
    ∙ ap (λ n. first_name (cond (t.0 == k) t.1 (find k ts)) (cond (n == k) u.1 (find k us))) (eqb-true t.0 u.0 parts.0)

are_alike : (n : ℕ) → n < 4 → alike link_rows (get_or family_names n []) ≡ true
unfolding family_names link_rows
are_alike zero h = refl
are_alike (suc zero) h = refl
are_alike (suc (suc zero)) h = refl
are_alike (suc (suc (suc zero))) h = refl
are_alike (suc (suc (suc (suc n)))) h = absurd (omega (arith, h))

-- A name in the entries of a link.
link_is : (n : ℕ) → n < 4 → get_or link_names n [] ≡ joined link_rows (get_or family_names n [])
unfolding link_names family_names
link_is zero h = refl
link_is (suc zero) h = refl
link_is (suc (suc zero)) h = refl
link_is (suc (suc (suc zero))) h = refl
link_is (suc (suc (suc (suc n)))) h = absurd (omega (arith, h))

pub link_found : (k n : ℕ) → n < 4 → find k (get_or link_names n []) ≡ first_name (find k link_rows) (find k (get_or family_names n []))
link_found k n h = ap (find k) (link_is n h) ∙ find_joined k link_rows (get_or family_names n []) (are_alike n h)

-- The entries of a link's table.
pub of_family : (n : ℕ) → LINK_UNSPEC.0 ≤ n → n < LINK_INFO.0 → attribute_names_of n ≡ get_or link_names (n - LINK_UNSPEC.0) []
unfolding attribute_names_of
of_family n h l =
    ap (λ b. cond b (get_or nested_names n []) (cond (nat_lt n AMT.0) (get_or link_names (n - LINK_UNSPEC.0) []) (get_or data_names (n - AMT.0) []))) (le-ltb n LINK_UNSPEC.0 h)
    ∙ ap (λ b. cond b (get_or link_names (n - LINK_UNSPEC.0) []) (get_or data_names (n - AMT.0) [])) (lt-ltb n AMT.0 (omega (arith, l)))

-- The entries of link info.
pub of_info : (n : ℕ) → n ≡ LINK_INFO.0 → info_attribute_names ≡ attribute_names_of n
unfolding attribute_names_of link_names family_names
of_info n h = ap attribute_names_of (sym h)
