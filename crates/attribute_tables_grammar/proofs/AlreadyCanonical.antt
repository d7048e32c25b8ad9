-- An attribute that is padded with zeros is already canonical, and a list is if its attributes are.
use Rattle.std.proofs.Common.{◌≡◌, ℕ, ◌+◌, ◌-◌, ◌*◌, ◌/◌, ◌%◌, ◌<◌, ◌++◌, true, List, [], ◌∷◌, length, take, drop, get_or, Option, Some, None, refl, sym, ap, subst, ◌∙◌, append_assoc, arith}
use Rattle.std.specs.Prelude.{option_map}
use Rattle.std.proofs.lemmas.List.{take-append-drop, drop-drop, length-take-le}
use Rattle.std.specs.Option.{option_map_or}
use Rattle.netlink_packet_core_grammar.specs.Attributes.{nla_align, zeros, Attribute, attribute_length, attribute_text, list_text, first_attribute, attributes_within, attributes_of}
use Rattle.netlink_packet_core_grammar.proofs.Attributes.{IsCut, headed}
use Rattle.netlink_packet_core_grammar.proofs.FirstAttribute.{attributes_step}
use Rattle.attribute_tables_grammar.specs.Lists.{Context, no_kind_in_force, Grammar, row_of, canonical_form, canonical_forms, canonical_kind, ListForm, is_kept, kept, list_rule}
use Rattle.attribute_tables_grammar.specs.Walks.{IsWalked}
use Rattle.attribute_tables_grammar.specs.AlreadyCanonical.{text_from}
use Rattle.attribute_tables_grammar.specs.Laws.{CanonicalListsUnfold}
use Rattle.attribute_tables_grammar.proofs.Kept.{kept_more, kept_none, read_walked}

-- bytes after a header are the payload, the padding and the rest
parts : (tail : List ℕ) (m p n : ℕ) → m + p ≡ n → take p (drop m tail) ≡ zeros p → tail ≡ take m tail ++ (zeros p ++ drop n tail)
parts tail m p n e z =
    sym (take-append-drop m tail)
    ∙ ap (λ x. take m tail ++ x) (sym (take-append-drop p (drop m tail)) ∙ ap (λ x. x ++ drop p (drop m tail)) z ∙ ap (λ x. zeros p ++ x) (drop-drop p m tail ∙ ap (λ k. drop k tail) e))

canonical_parts : (a b c d : ℕ) (tail : List ℕ) (e : Attribute) (after : List ℕ) → a < 256 → c < 256 → IsCut (a + 256 * b) (c + 256 * d) tail e after → take (nla_align (attribute_length e) - attribute_length e) (drop (attribute_length e) (a ∷ b ∷ c ∷ d ∷ tail)) ≡ zeros (nla_align (attribute_length e) - attribute_length e) → a ∷ b ∷ c ∷ d ∷ tail ≡ attribute_text e ++ after
unfolding attribute_text
canonical_parts a b c d tail e after al cl f z =
    let s = a + 256 * b in
    let l = attribute_length e in
    let p = nla_align l - l in
    let lp : length e.payload ≡ s - 4 = ap length (sym f.payload_is) ∙ length-take-le (s - 4) tail (omega (arith, f.large)) in
    let se : l ≡ s = omega (arith, f.small, lp) in
    let hs : l % 256 ≡ a = omega (arith, se, al) in
    let ht : l / 256 ≡ b = omega (arith, se, al) in
    let k = f.kind_is in
    let hk : e.kind % 256 ≡ c = omega (arith, k, cl) in
    let hl : e.kind / 256 ≡ d = omega (arith, k, cl) in
    let four : 4 + (l - 4) ≡ l = omega (arith, se, f.small) in
    let at : drop (l - 4) tail ≡ drop l (a ∷ b ∷ c ∷ d ∷ tail) = drop-drop (l - 4) 4 (a ∷ b ∷ c ∷ d ∷ tail) ∙ ap (λ n. drop n (a ∷ b ∷ c ∷ d ∷ tail)) four in
    let sum : (l - 4) + p ≡ nla_align l - 4 = omega (arith, se, f.small) in
    let cut = parts tail (l - 4) p (nla_align l - 4) sum (ap (take p) at ∙ z) in
    let pay : take (l - 4) tail ≡ e.payload = ap (λ n. take (n - 4) tail) se ∙ f.payload_is in
    let rest : drop (nla_align l - 4) tail ≡ after = ap (λ n. drop (nla_align n - 4) tail) se ∙ f.rest_is in
    ap (λ x. a ∷ b ∷ c ∷ d ∷ x) cut
    ∙ (λ i. sym hs i ∷ sym ht i ∷ sym hk i ∷ sym hl i ∷ (pay i ++ (zeros p ++ rest i)))
    ∙ ap (λ x. l % 256 ∷ l / 256 ∷ e.kind % 256 ∷ e.kind / 256 ∷ x) (sym (append_assoc e.payload (zeros p) after))

canonical_attribute : (bytes : List ℕ) (e : Attribute) (after : List ℕ) → ((i : ℕ) → get_or bytes i 0 < 256) → first_attribute bytes ≡ Some (e, after) → take (nla_align (attribute_length e) - attribute_length e) (drop (attribute_length e) bytes) ≡ zeros (nla_align (attribute_length e) - attribute_length e) → bytes ≡ attribute_text e ++ after
canonical_attribute bytes e after b f z =
    let k = headed bytes e after f in
    let al : k.a < 256 = subst (λ x. get_or x 0 0 < 256) k.is (b 0) in
    let cl : k.c < 256 = subst (λ x. get_or x 2 0 < 256) k.is (b 2) in
    k.is ∙ canonical_parts k.a k.b k.c k.d k.tail e after al cl k.is_cut (ap (λ x. take (nla_align (attribute_length e) - attribute_length e) (drop (attribute_length e) x)) (sym k.is) ∙ z)

-- ---- the steps of a list

-- the encoding of an attribute before that of others
with_first : (form : ListForm) (g : Grammar) (c : Context) (e : Attribute) → is_kept form e ≡ true → (o : Option (List Attribute)) → option_map (λ es. list_text (canonical_forms g c (kept form es))) (option_map (λ es. e ∷ es) o) ≡ option_map (λ t. attribute_text (canonical_form (row_of g c e) e) ++ t) (option_map (λ es. list_text (canonical_forms g (g.next c e) (kept form es))) o)
unfolding canonical_forms list_text
with_first form g c e k None = refl
with_first form g c e k (Some es) = ap (λ ks. Some (list_text (canonical_forms g c ks))) (kept_more form e es k)

pub step : (form : ListForm) (g : Grammar) (c : Context) (rest : List ℕ) (e : Attribute) (after : List ℕ) → first_attribute rest ≡ Some (e, after) → is_kept form e ≡ true → text_from form g c rest ≡ option_map (λ t. attribute_text (canonical_form (row_of g c e) e) ++ t) (text_from form g (g.next c e) after)
unfolding text_from
step form g c rest e after f k = ap (option_map (λ es. list_text (canonical_forms g c (kept form es)))) (attributes_step rest e after f) ∙ with_first form g c e k (attributes_of after)

pub at_end : (form : ListForm) (g : Grammar) (c : Context) (rest : List ℕ) → length rest ≡ 0 → text_from form g c rest ≡ Some rest
unfolding text_from attributes_within canonical_forms list_text
at_end form g c [] l = ap (λ ks. Some (list_text (canonical_forms g c ks))) (kept_none form)
at_end form g c (b ∷ rest) l = absurd (omega arith)

-- an attribute whose kind and payload are already canonical
already_canonical : (g : Grammar) (c : Context) (e : Attribute) → canonical_kind (row_of g c e) e.kind ≡ e.kind → (row_of g c e).rule.canonical e.payload ≡ e.payload → canonical_form (row_of g c e) e ≡ e
already_canonical g c e n p = λ i. record { kind = n i; payload = p i }

unfoldable pub text_or : Option (List ℕ) → List ℕ
text_or None = []
text_or (Some t) = t

-- the canonical encoding of a list that is walked
canonical_of : (form : ListForm) (g : Grammar) (o : Option (List Attribute)) → text_or (option_map (λ es. list_text (canonical_forms g no_kind_in_force (kept form es))) o) ≡ option_map_or (λ es. list_text (canonical_forms g no_kind_in_force (kept form es))) o []
unfolding text_or
canonical_of form g None = refl
canonical_of form g (Some es) = refl

pub canonical_text : (form : ListForm) (g : Grammar) (bytes : List ℕ) → IsWalked form bytes → text_or (text_from form g no_kind_in_force bytes) ≡ (list_rule form g).canonical bytes
unfolding text_from
canonical_text form g bytes w =
    canonical_of form g (attributes_of bytes) ∙ ap (λ o. option_map_or (λ es. list_text (canonical_forms g no_kind_in_force (kept form es))) o []) (sym (read_walked form bytes w))

text_end : (e : Attribute) (after : List ℕ) → length after ≡ 0 → attribute_text e ++ [] ≡ attribute_text e ++ after
text_end e [] l = refl
text_end e (b ∷ after) l = absurd (omega arith)

pub canonical_lists_unfold : CanonicalListsUnfold
unfolding text_or canonical_forms list_text
canonical_lists_unfold = record {
  padded = canonical_attribute;
  start = λ form g bytes. record { whole = λ h. h };
  more = λ form g bytes rest c e after f k n p t s. record {
    whole = λ h. s.whole (step form g c rest e after f k ∙ ap (option_map (λ x. attribute_text (canonical_form (row_of g c e) e) ++ x)) h ∙ ap (λ x. Some (attribute_text x ++ after)) (already_canonical g c e n p) ∙ ap Some (sym t));
  };
  done = λ form g bytes rest c w l s. sym (canonical_text form g bytes w) ∙ ap text_or (s.whole (at_end form g c rest l));
  -- the first attribute only
  single = λ g bytes e after f l n p t.
      ap (λ o. option_map_or (λ es. list_text (canonical_forms g no_kind_in_force es)) (option_map (λ (x : Attribute × List ℕ). x.0 ∷ []) o) []) f
      ∙ ap (λ x. attribute_text x ++ []) (already_canonical g no_kind_in_force e n p) ∙ text_end e after l ∙ sym t;
}
