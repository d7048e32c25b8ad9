-- One attribute written after others.
use Rattle.std.proofs.Common.{◌≡◌, Bool, true, false, refl, map, ℕ, ◌+◌, ◌-◌, ◌≤◌, List, [], ◌∷◌, ◌++◌, length, take, drop, sym, ap, ◌∙◌, arith, append_assoc, append-nil, length-drop, ◌<◌, get_or}
use Rattle.std.specs.Prelude.{◌&&◌}
use Rattle.std.proofs.lemmas.List.{take_at, drop_at, drop-drop, drop_all, take_more, map-append}
use Rattle.std.proofs.lemmas.List.Sums.{sum_by_more, sum_by_more_le}
use Rattle.std.proofs.lemmas.List.Folds.{list_all_at}
use Rattle.std.proofs.lemmas.Bool.{true_from_ne_false}
use borrow.Rule.Slice.PartMut.{put_mid}
use Rattle.netlink_packet_core_grammar.specs.Attributes.{nla_align, Attribute, attribute_length, attribute_text, list_text}
use Rattle.netlink_packet_core_grammar.specs.Fits.{attribute_fits}
use Rattle.netlink_packet_core_grammar.specs.Numbers.{u16_at}
use Rattle.netlink_packet_core_attributes.specs.Lists.{text_by, size_by, all_fit_by}

pub emitted : (at n : ℕ) (prefix text init buf new : List ℕ) → length prefix ≡ at → buf ≡ prefix ++ drop at init → new ≡ text ++ drop n (drop at buf) → put_mid at (length buf - at) buf new ≡ (prefix ++ text) ++ drop (at + n) init
emitted at n prefix text init buf new e b w =
    let f : take at buf ≡ prefix = rw b (take_at prefix (drop at init) at e) in
    let d : drop at buf ≡ drop at init = rw b (drop_at prefix (drop at init) at e) in
    let z : drop (length buf - at) (drop at buf) ≡ [] = drop_all (length buf - at) (drop at buf) (omega (arith, length-drop at buf)) in
    let x : drop n (drop at init) ≡ drop (at + n) init = drop-drop n at init in
    rw (f, z, w, d, x) (simp (append_assoc, append-nil))

list_text-append : (es fs : List Attribute) → list_text (es ++ fs) ≡ list_text es ++ list_text fs
unfolding list_text
list_text-append [] fs = refl
list_text-append (e ∷ es) fs = ap (λ r. attribute_text e ++ r) (list_text-append es fs) ∙ sym (append_assoc (attribute_text e) (list_text es) (list_text fs))

list_text-one : (e : Attribute) → list_text (e ∷ []) ≡ attribute_text e
unfolding list_text
list_text-one e = append-nil (attribute_text e)

-- one more value
pub text_by-more : {V : Type 0} (entry : V → Attribute) (xs : List V) (i : ℕ) (v : V) → i < length xs → v ≡ get_or xs i v → text_by entry (take (i + 1) xs) ≡ text_by entry (take i xs) ++ attribute_text (entry v)
text_by-more entry xs i v l h =
    let e : take (i + 1) xs ≡ take i xs ++ v ∷ [] = take_more xs i v l ∙ ap (λ y. take i xs ++ y ∷ []) (sym h) in
    ap (λ ys. list_text (map entry ys)) e ∙ ap list_text (map-append entry (take i xs) (v ∷ [])) ∙ list_text-append (map entry (take i xs)) (entry v ∷ [])
    ∙ ap (λ r. text_by entry (take i xs) ++ r) (list_text-one (entry v))

pub size_by-more : {V : Type 0} (entry : V → Attribute) (xs : List V) (i : ℕ) (v : V) → i < length xs → v ≡ get_or xs i v → size_by entry (take (i + 1) xs) ≡ size_by entry (take i xs) + nla_align (attribute_length (entry v))
size_by-more entry xs i v l h =
    sum_by_more (λ y. nla_align (attribute_length (entry y))) xs i v l ∙ ap (λ y. size_by entry (take i xs) + nla_align (attribute_length (entry y))) (sym h)

pub fits-at : {V : Type 0} (entry : V → Attribute) (inside : V → Bool) (xs : List V) (i : ℕ) (v : V) → i < length xs → v ≡ get_or xs i v → all_fit_by entry inside xs ≡ true → (attribute_fits (entry v) && inside v) ≡ true
fits-at entry inside xs i v l h a = ap (λ x. attribute_fits (entry x) && inside x) h ∙ true_from_ne_false _ (λ f. let e : true ≡ false = sym a ∙ list_all_at (λ x. attribute_fits (entry x) && inside x) xs i v l f in absurd cc)

pub capacity-at : {V : Type 0} (entry : V → Attribute) (xs : List V) (i : ℕ) (v : V) → i < length xs → v ≡ get_or xs i v → size_by entry (take i xs) + nla_align (attribute_length (entry v)) ≤ size_by entry xs
capacity-at entry xs i v l h =
    let k : size_by entry (take i xs) + nla_align (attribute_length (entry (get_or xs i v))) ≤ size_by entry xs = sum_by_more_le (λ y. nla_align (attribute_length (entry y))) xs i v l in
    rw (sym h) at k

-- the length in the header of a written attribute is that of the attribute
pub length_in_header : (e : Attribute) (text : List ℕ) → u16_at 0 (attribute_text e ++ text) ≡ attribute_length e
unfolding u16_at attribute_text
length_in_header e text = omega arith
