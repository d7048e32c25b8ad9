-- What another attribute of a list chooses, attribute by attribute.
use Rattle.std.proofs.Common.{◌≡◌, ℕ, zero, suc, ◌-◌, ◌≤◌, Bool, true, false, cond, List, [], ◌∷◌, drop, Option, Some, None, refl, sym, ap, ◌∙◌, arith}
use Rattle.std.specs.Prelude.{bytes_eq}
use Rattle.std.specs.List.{list_all}
use Rattle.std.proofs.lemmas.Bool.{and_parts}
use Rattle.std.proofs.lemmas.Option.{same_Some}
use Rattle.netlink_packet_core_grammar.specs.Attributes.{Attribute, attribute_length, first_attribute, nla_align}
use Rattle.netlink_packet_core_grammar.proofs.Attributes.{sized}
use Rattle.link_lines_raw.specs.declared.rows.Choice.{Choice}
use Rattle.link_lines_raw.specs.declared.rows.Choice.TheVariants as C
use Rattle.link_lines_raw.specs.declared.rows.RawBy.TheVariants as R
use Rattle.link_lines_raw.specs.Attributes.{padded_length}
use Rattle.link_lines_raw.specs.Choices.{ChoiceRow, choices_of, chosen_for, chosen_in, is_of_kind, payload_after, payload_or, raw_or, resolved}
use Rattle.link_lines_raw.specs.Coverage.{in_each_choice}
use Rattle.link_lines_raw.specs.Rows.{Raw}
use Rattle.link_lines_raw.proofs.Whole.{AreItems, Item, rest_is}

-- The bytes after some that are skipped.
skipped : (k skip : ℕ) (p : List ℕ) → payload_after k skip p ≡ payload_after k 0 (drop skip p)
unfolding payload_after
skipped k zero p = refl
skipped k (suc n) [] = refl
skipped k (suc n) (b ∷ p) = skipped k n p

aligned : (n : ℕ) → n ≤ nla_align n
aligned n = omega arith

-- The first attribute has the payload, or what follows it.
pub first_payload : (k : ℕ) (p : List ℕ) (e : Attribute) (rest : List ℕ) → first_attribute p ≡ Some (e, rest) → payload_after k 0 p ≡ cond (is_of_kind k e) (Some e.payload) (payload_after k 0 rest)
unfolding payload_after
first_payload k [] e rest h = absurd (let s = (sized [] e rest h).within in omega (arith, s))
first_payload k (b ∷ p) e rest h =
    let n = nla_align (attribute_length e) in
    let a = aligned (attribute_length e) in
    let more : drop (n - 1) p ≡ rest = ap (λ m. drop m (b ∷ p)) {x = suc (n - 1)} {y = n} (omega (arith, a)) ∙ sym (rest_is (b ∷ p) e rest h) in
    ap (λ o. payload_or k o (payload_after k (padded_length o - 1) p)) h
    ∙ ap (λ z. cond (is_of_kind k e) (Some e.payload) z) (skipped k (n - 1) p ∙ ap (payload_after k 0) more)

pub no_payload : (k : ℕ) (p : List ℕ) → first_attribute p ≡ None → payload_after k 0 p ≡ None
unfolding payload_after
no_payload k [] h = refl
no_payload k (b ∷ p) h = ap (λ o. payload_or k o (payload_after k (padded_length o - 1) p)) h

empty_payload : (k : ℕ) → payload_after k 0 [] ≡ None
unfolding payload_after
empty_payload k = refl

-- The payload among attributes.
abbrev pub payload_among : ℕ → List Item → Option (List ℕ)
payload_among k [] = None
payload_among k (x ∷ items) = cond (is_of_kind k x.0) (Some x.0.payload) (payload_among k items)

pub payloads_are : (k : ℕ) (p : List ℕ) (items : List Item) → AreItems p items → payload_after k 0 p ≡ payload_among k items
payloads_are k p [] h = ap (payload_after k 0) h ∙ empty_payload k
payloads_are k p (x ∷ items) h =
    first_payload k p x.0 h.0 h.1 ∙ ap (λ z. cond (is_of_kind k x.0) (Some x.0.payload) z) (payloads_are k h.0 items h.3)

-- What a payload, if there is one, chooses, or else what is given.
abbrev pub chosen_or : Raw → Choice → Option (List ℕ) → Raw
chosen_or raw choice o = raw_or raw (chosen_for choice o)

-- Two lists with one payload that chooses have one choice.
pub same_choice : (choice : Choice) (k : ℕ) (p q : List ℕ) (xs ys : List Item) → AreItems p xs → AreItems q ys → payload_among k xs ≡ payload_among k ys → resolved (R.Chosen choice k) p ≡ resolved (R.Chosen choice k) q
unfolding resolved
same_choice choice k p q xs ys a b h = ap (chosen_or (R.Chosen choice k) choice) (payloads_are k p xs a ∙ h ∙ sym (payloads_are k q ys b))

-- ---- what holds for all choices

chosen_by : (f : Raw → Bool) (b : Bool) (row : ChoiceRow) (raw : Raw) (more : Option Raw) → f row.1 ≡ true → (more ≡ Some raw → f raw ≡ true) → cond b (Some row.1) more ≡ Some raw → f raw ≡ true
chosen_by f true row raw more h k e = ap f (sym (same_Some row.1 raw e)) ∙ h
chosen_by f false row raw more h k e = k e

chosen_holds : (f : Raw → Bool) (rows : List ChoiceRow) (p : List ℕ) (raw : Raw) → list_all (λ row. f row.1) rows ≡ true → chosen_in p rows ≡ Some raw → f raw ≡ true
chosen_holds f [] p raw h e = absurd cc
chosen_holds f (row ∷ rows) p raw h e =
    let parts = and_parts (f row.1) (list_all (λ r. f r.1) rows) h in
    chosen_by f (bytes_eq row.0 p) row raw (chosen_in p rows) parts.0 (chosen_holds f rows p raw parts.1) e

choice_holds : (f : Raw → Bool) (choice : Choice) → in_each_choice f ≡ true → list_all (λ row. f row.1) (choices_of choice) ≡ true
choice_holds f C.Encapsulation h = (and_parts (list_all (λ row. f row.1) (choices_of C.Encapsulation)) _ h).0
choice_holds f C.Options h = (and_parts (list_all (λ row. f row.1) (choices_of C.Options)) _ (and_parts (list_all (λ row. f row.1) (choices_of C.Encapsulation)) _ h).1).0
choice_holds f C.ActionOptions h = (and_parts (list_all (λ row. f row.1) (choices_of C.Options)) _ (and_parts (list_all (λ row. f row.1) (choices_of C.Encapsulation)) _ h).1).1

or_holds : (f : Raw → Bool) (raw : Raw) (rows : List ChoiceRow) (p : List ℕ) (o : Option Raw) → list_all (λ row. f row.1) rows ≡ true → f raw ≡ true → chosen_in p rows ≡ o → f (raw_or raw o) ≡ true
or_holds f raw rows p None h k e = k
or_holds f raw rows p (Some other) h k e = chosen_holds f rows p other h e

-- What holds for what is given and for a set of choices holds for what is chosen.
pub chosen_or_holds : (f : Raw → Bool) (raw : Raw) (choice : Choice) (o : Option (List ℕ)) → list_all (λ row. f row.1) (choices_of choice) ≡ true → f raw ≡ true → f (chosen_or raw choice o) ≡ true
chosen_or_holds f raw choice None h k = k
chosen_or_holds f raw choice (Some p) h k = or_holds f raw (choices_of choice) p (chosen_in p (choices_of choice)) h k refl

-- What holds for a row and for all choices holds for what the row's attribute holds.
pub resolved_holds : (f : Raw → Bool) (raw : Raw) (list : List ℕ) → in_each_choice f ≡ true → f raw ≡ true → f (resolved raw list) ≡ true
unfolding resolved
resolved_holds f (R.Chosen choice kind) list h k = chosen_or_holds f (R.Chosen choice kind) choice (payload_after kind 0 list) (choice_holds f choice h) k
resolved_holds f (R.Value shown) list h k = k
resolved_holds f (R.List table) list h k = k
resolved_holds f (R.Head line table) list h k = k
resolved_holds f (R.HeadAndRecords head line) list h k = k
resolved_holds f (R.Hops table) list h k = k
resolved_holds f (R.Records line) list h k = k
