-- Writing the canonical encoding of an accepted list that fits, attribute by attribute.
use Rattle.std.proofs.Common.{◌≡◌, ℕ, ◌+◌, ◌-◌, ◌≤◌, ◌++◌, Bool, true, false, List, [], ◌∷◌, length, Option, Some, None, refl, sym, ap, ◌∙◌, append_assoc, append-nil, arith, length-append}
use Rattle.std.specs.Prelude.{◌&&◌, nat_le, option_map}
use Rattle.std.proofs.lemmas.Bool.{and_parts, leb-true}
use Rattle.std.specs.Option.{option_and_then, option_map_or}
use Rattle.netlink_packet_core_grammar.specs.Attributes.{nla_align, Attribute, attribute_text, list_text, first_attribute, attributes_of}
use Rattle.netlink_packet_core_grammar.proofs.Sizes.{length-attribute_text}
use Rattle.netlink_packet_core_grammar.proofs.FirstAttribute.{attributes_step}
use Rattle.attribute_tables_grammar.specs.Rules.{Rule}
use Rattle.attribute_tables_grammar.specs.Lists.{Context, no_kind_in_force, Grammar, row_of, canonical_form, canonical_forms, ListForm, first_only, is_kept, kept, list_rule}
use Rattle.attribute_tables_grammar.specs.Walks.{Measure, measure, with_header, dropped, both, whole_measure, measure_of_rest, list_measure, IsWalked}
use Rattle.attribute_tables_grammar.specs.AlreadyCanonical.{text_from}
use Rattle.attribute_tables_grammar.specs.Writing.{IsWritable, WrittenSoFar}
use Rattle.attribute_tables_grammar.specs.Laws.{WritingUnfolds}
use Rattle.attribute_tables_grammar.proofs.Kept.{kept_past}
use Rattle.attribute_tables_grammar.proofs.Walks.{walk_list, walk_step, walk_stop}
use Rattle.attribute_tables_grammar.proofs.MeasureSteps.{whole_by, determines, rejects, first_some, first_none}
use Rattle.attribute_tables_grammar.proofs.AlreadyCanonical.{step, at_end, canonical_text, text_or}

-- ---- from the sum of two measures to each

fits_or : Option Measure → Bool
fits_or None = true
fits_or (Some m) = m.fits

-- what was measured, and fits
record Fitting (q : Option Measure) : Type 0 where
  rest_measure : Measure
  walked : q ≡ Some rest_measure
  fits : rest_measure.fits ≡ true

record FirstAndRest (o q : Option Measure) : Type 0 where
  inside : Fitting o
  short : nat_le (4 + inside.rest_measure.size) 65535 ≡ true
  following : Fitting q

with_first : (o q : Option Measure) (m : Measure) → both (option_map with_header o) q ≡ Some m → m.fits ≡ true → FirstAndRest o q
unfolding fits_or
with_first None q m h f = absurd cc
with_first (Some x) None m h f = absurd cc
with_first (Some x) (Some y) m h f =
    let a = and_parts (nat_le (4 + x.size) 65535 && x.fits) y.fits (ap fits_or h ∙ f) in
    let b = and_parts (nat_le (4 + x.size) 65535) x.fits a.0 in
    record { inside = record { rest_measure = x; walked = refl; fits = b.1 }; short = b.0; following = record { rest_measure = y; walked = refl; fits = a.1 } }

following : (q : Option Measure) (m : Measure) → both (Some dropped) q ≡ Some m → m.fits ≡ true → Fitting q
unfolding fits_or
following None m h f = absurd cc
following (Some y) m h f = record { rest_measure = y; walked = refl; fits = ap fits_or h ∙ f }

-- ---- the bytes after an attribute

record Split (e : List ℕ) (o : Option (List ℕ)) (t : List ℕ) : Type 0 where
  text : List ℕ
  rest_text : o ≡ Some text
  whole : t ≡ e ++ text

split : (e : List ℕ) (o : Option (List ℕ)) (t : List ℕ) → option_map (λ x. e ++ x) o ≡ Some t → Split e o t
unfolding text_or
split e None t h = absurd cc
split e (Some x) t h = record { text = x; rest_text = refl; whole = sym (ap text_or h) }

past_first : (form : ListForm) (g : Grammar) (c : Context) (e : Attribute) → is_kept form e ≡ false → (o : Option (List Attribute)) → option_map (λ es. list_text (canonical_forms g c (kept form es))) (option_map (λ es. e ∷ es) o) ≡ option_map (λ es. list_text (canonical_forms g c (kept form es))) o
past_first form g c e k None = refl
past_first form g c e k (Some es) = ap (λ ks. Some (list_text (canonical_forms g c ks))) (kept_past form e es k)

text_past : (form : ListForm) (g : Grammar) (c : Context) (rest : List ℕ) (e : Attribute) (after : List ℕ) → first_attribute rest ≡ Some (e, after) → is_kept form e ≡ false → text_from form g c rest ≡ text_from form g c after
unfolding text_from
text_past form g c rest e after f k = ap (option_map (λ es. list_text (canonical_forms g c (kept form es)))) (attributes_step rest e after f) ∙ past_first form g c e k (attributes_of after)

-- ---- the start of a walk

closed_fits : (form : ListForm) (m : Measure) → (whole_measure form m).fits ≡ m.fits
closed_fits ListForm.ports m = refl
closed_fits form m = refl

begins_by : (form : ListForm) (g : Grammar) (bytes : List ℕ) (o : Option Measure) → measure_of_rest form g no_kind_in_force bytes ≡ o → option_map (whole_measure form) o ≡ measure (list_rule form g) bytes → (list_rule form g).accepted bytes ≡ true → (list_rule form g).fits bytes ≡ true → Fitting (measure_of_rest form g no_kind_in_force bytes)
begins_by form g bytes None w h a f = let n = rejects (list_rule form g) bytes h in absurd (let x : true ≡ false = sym a ∙ n in cc)
begins_by form g bytes (Some m) w h a f =
    let t = determines (list_rule form g) bytes (whole_measure form m) h in
    record { rest_measure = m; walked = w; fits = sym (closed_fits form m) ∙ t.fits ∙ f }

begins : (form : ListForm) (g : Grammar) (bytes : List ℕ) → IsWalked form bytes → (list_rule form g).accepted bytes ≡ true → (list_rule form g).fits bytes ≡ true → Fitting (measure_of_rest form g no_kind_in_force bytes)
begins form g bytes w = begins_by form g bytes (measure_of_rest form g no_kind_in_force bytes) refl (whole_by form g bytes w ∙ walk_list form g bytes)

-- a list that is walked has an encoding
has_text_by : (form : ListForm) (g : Grammar) (c : Context) (o : Option (List Attribute)) (m : Measure) → option_and_then (list_measure form g c) o ≡ Some m → (t : List ℕ) × (option_map (λ es. list_text (canonical_forms g c (kept form es))) o ≡ Some t)
has_text_by form g c None m h = absurd cc
has_text_by form g c (Some es) m h = (list_text (canonical_forms g c (kept form es)), refl)

has_text : (form : ListForm) (g : Grammar) (c : Context) (rest : List ℕ) (m : Measure) → measure_of_rest form g c rest ≡ Some m → (t : List ℕ) × (text_from form g c rest ≡ Some t)
unfolding measure_of_rest text_from
has_text form g c rest m h = has_text_by form g c (attributes_of rest) m h

-- ---- one more attribute

record Next (form : ListForm) (g : Grammar) (c : Context) (e : Attribute) (after text : List ℕ) : Type 0 where
  first_measure : FirstAndRest (measure (row_of g c e).rule e.payload) (measure_of_rest form g (g.next c e) after)
  split : Split (attribute_text (canonical_form (row_of g c e) e)) (text_from form g (g.next c e) after) text

next : (form : ListForm) (g : Grammar) (bytes old out rest : List ℕ) (c : Context) (e : Attribute) (after : List ℕ) → first_attribute rest ≡ Some (e, after) → is_kept form e ≡ true → (w : WrittenSoFar form g bytes old out c rest) → Next form g c e after w.text
next form g bytes old out rest c e after f k w = record {
  first_measure = with_first (measure (row_of g c e).rule e.payload) (measure_of_rest form g (g.next c e) after) w.rest_measure (sym (walk_step form g c rest e after true f k) ∙ w.walked) w.fits;
  split = split (attribute_text (canonical_form (row_of g c e) e)) (text_from form g (g.next c e) after) w.text (sym (step form g c rest e after f k) ∙ w.rest_text);
}

is_writable : (r : Rule) (p : List ℕ) (capacity : ℕ) (m : Measure) → measure r p ≡ Some m → nat_le (4 + m.size) 65535 ≡ true → m.fits ≡ true → nla_align (4 + length (r.canonical p)) ≤ capacity → IsWritable r p capacity
is_writable r p capacity m h s f l =
    let t = determines r p m (sym h) in
    record { accepted = t.accepted; fits = sym t.fits ∙ f; short = omega (arith, t.size, leb-true (4 + m.size) 65535 s); within = l }

nothing_left : (rest : List ℕ) → length rest ≡ 0 → rest ≡ []
nothing_left [] l = refl
nothing_left (b ∷ rest) l = absurd (omega arith)

-- ---- the first attribute only

single_text : (g : Grammar) (bytes : List ℕ) (e : Attribute) (after : List ℕ) → first_attribute bytes ≡ Some (e, after) → (list_rule first_only g).canonical bytes ≡ attribute_text (canonical_form (row_of g no_kind_in_force e) e)
unfolding canonical_forms list_text
single_text g bytes e after f =
    ap (λ o. option_map_or (λ es. list_text (canonical_forms g no_kind_in_force es)) (option_map (λ (x : Attribute × List ℕ). x.0 ∷ []) o) []) f
    ∙ append-nil (attribute_text (canonical_form (row_of g no_kind_in_force e) e))

header_fits : (o : Option Measure) (r : Rule) (p : List ℕ) → option_map with_header o ≡ measure r p → r.accepted p ≡ true → r.fits p ≡ true → (m : Measure) × (o ≡ Some m) × (nat_le (4 + m.size) 65535 ≡ true) × (m.fits ≡ true)
header_fits None r p h a f = let n = rejects r p h in absurd (let x : true ≡ false = sym a ∙ n in cc)
header_fits (Some m) r p h a f =
    let t = determines r p (with_header m) h in
    let b = and_parts (nat_le (4 + m.size) 65535) m.fits (t.fits ∙ f) in
    (m, refl, b.0, b.1)

pub writing_unfolds : WritingUnfolds
unfolding text_or
writing_unfolds = record {
  start = λ form g bytes old w a f.
      let b = begins form g bytes w a f in
      let t = has_text form g no_kind_in_force bytes b.rest_measure b.walked in
      record { rest_measure = b.rest_measure; walked = b.walked; fits = b.fits; text = t.0; rest_text = t.1; whole = ap (λ x. old ++ x) (sym (ap text_or t.1) ∙ canonical_text form g bytes w) };
  writable = λ form g bytes old out rest c e after f k w.
      let n = next form g bytes old out rest c e after f k w in
      let x = n.first_measure in
      let l = length-attribute_text (canonical_form (row_of g c e) e) in
      let whole = ap length w.whole in
      let left = length-append out w.text in
      let right = length-append old ((list_rule form g).canonical bytes) in
      let t = ap length n.split.whole in
      let u = length-append (attribute_text (canonical_form (row_of g c e) e)) n.split.text in
      is_writable (row_of g c e).rule e.payload (length old + length ((list_rule form g).canonical bytes) - length out) x.inside.rest_measure x.inside.walked x.short x.inside.fits (omega (arith, l, whole, left, right, t, u));
  more = λ form g bytes old out new rest c e after f k is w.
      let n = next form g bytes old out rest c e after f k w in
      let a = attribute_text (canonical_form (row_of g c e) e) in
      record {
        rest_measure = n.first_measure.following.rest_measure;
        walked = n.first_measure.following.walked;
        fits = n.first_measure.following.fits;
        text = n.split.text;
        rest_text = n.split.rest_text;
        whole = ap (λ x. x ++ n.split.text) is ∙ append_assoc out a n.split.text ∙ ap (λ x. out ++ x) (sym n.split.whole) ∙ w.whole;
      };
  past = λ form g bytes old out rest c e after f k w.
      let b = following (measure_of_rest form g c after) w.rest_measure (sym (walk_step form g c rest e after false f k) ∙ w.walked) w.fits in
      record { rest_measure = b.rest_measure; walked = b.walked; fits = b.fits; text = w.text; rest_text = sym (text_past form g c rest e after f k) ∙ w.rest_text; whole = w.whole };
  stopped = λ form g bytes old out rest c f l w. let n = sym (walk_stop form g c rest f l) ∙ w.walked in absurd cc;
  done = λ form g bytes old out rest c l w.
      let e : w.text ≡ [] = ap text_or (sym w.rest_text ∙ at_end form g c rest l) ∙ nothing_left rest l in
      sym (append-nil out) ∙ ap (λ x. out ++ x) (sym e) ∙ w.whole;
  single = λ g bytes e after f a fit.
      let r = (row_of g no_kind_in_force e).rule in
      let t = single_text g bytes e after f in
      let h = header_fits (measure r e.payload) (list_rule first_only g) bytes (first_some g bytes e after (measure r e.payload) f refl) a fit in
      let l = length-attribute_text (canonical_form (row_of g no_kind_in_force e) e) in
      let s = ap length t in
      (is_writable r e.payload (length ((list_rule first_only g).canonical bytes)) h.0 h.1 h.2 h.3 (omega (arith, l, s)), t);
  none_single = λ g bytes f a. let x : true ≡ false = sym a ∙ rejects (list_rule first_only g) bytes (first_none g bytes f) in absurd cc;
}
