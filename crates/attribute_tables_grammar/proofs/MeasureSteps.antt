-- The state of a loop that measures a list, attribute by attribute, over any rows and in the context at the start of
-- the rest.
use Rattle.std.proofs.Common.{◌≡◌, ℕ, ◌+◌, ◌<◌, Bool, true, false, cond, List, [], ◌∷◌, length, Option, Some, None, refl, sym, ap, ◌∙◌, arith}
use Rattle.std.specs.Prelude.{◌==◌, option_map}
use Rattle.std.proofs.Math.Bool.{and-true, or-false}
use Rattle.std.proofs.Math.Nat.{add-zero, zero-add}
use Rattle.std.proofs.lemmas.Bool.{ne_eqb}
use Rattle.std.proofs.lemmas.Option.{cond_some}
use Rattle.std.specs.Option.{option_and_then, option_map_or}
use Rattle.netlink_packet_core_grammar.specs.Attributes.{nla_align, list_text, Attribute, first_attribute, attributes_of}
use Rattle.netlink_packet_core_grammar.proofs.Attributes.{sized}
use Rattle.attribute_tables_grammar.specs.Rules.{Rule}
use Rattle.attribute_tables_grammar.specs.Lists.{Context, no_kind_in_force, Grammar, ListForm, any, non_empty, ports, first_only, is_kept, kept, is_empty_ports, row_of, list_rule, all_accepted, canonical_forms, attributes_inside, all_fit, some_empty_ports}
use Rattle.attribute_tables_grammar.specs.Walks.{Measure, measure, plus, none_yet, dropped, with_header, both, list_measure, measure_of_rest, or_empty, measure_as, whole_measure, IsWalked, RequiresAttribute, IsMeasure}
use Rattle.attribute_tables_grammar.specs.Laws.{MeasuresUnfold, MeasuresDetermineRules}
use Rattle.attribute_tables_grammar.proofs.Kept.{kept_more, kept_past, bytes_not_empty, read_walked, read_none}
use Rattle.attribute_tables_grammar.proofs.Walks.{both_assoc, walk_list, walk_end, walk_stop, walk_step}

both_start : (o : Option Measure) → both (Some none_yet) o ≡ o
both_start None = refl
both_start (Some m) = λ i. Some (record { size = zero-add m.size i; attributes = zero-add m.attributes i; fits = m.fits; empty_ports = m.empty_ports })

plus_end : (m : Measure) → plus m none_yet ≡ m
plus_end m = λ i. record { size = add-zero m.size i; attributes = add-zero m.attributes i; fits = and-true m.fits i; empty_ports = or-false m.empty_ports i }

size_or : Option Measure → ℕ
size_or None = 0
size_or (Some m) = m.size

kept_size : (o q : Option Measure) (m : Measure) → both (option_map with_header o) q ≡ Some m → 0 < m.size
unfolding size_or
kept_size None q m h = absurd cc
kept_size (Some x) None m h = absurd cc
kept_size (Some x) (Some y) m h = let e : nla_align (4 + x.size) + y.size ≡ m.size = ap size_or h in omega (arith, e)

dropped_size : (q : Option Measure) (m : Measure) → both (Some dropped) q ≡ Some m → (y : Measure) × (q ≡ Some y) × (y.size ≡ m.size)
unfolding size_or
dropped_size None m h = absurd cc
dropped_size (Some y) m h = let e : 0 + y.size ≡ m.size = ap size_or h in (y, refl, omega (arith, e))

-- a list of ports keeps no entry if and only if its encoding is empty
abbrev EmptyBy : Grammar → List Attribute → Type 0
EmptyBy g es = (c : Context) (m : Measure) → list_measure ports g c es ≡ Some m → is_empty_ports ports (kept ports es) ≡ (m.size == 0)

empty_step : (g : Grammar) (c : Context) (e : Attribute) (es : List Attribute) (m : Measure) (b : Bool) → is_kept ports e ≡ b → EmptyBy g es → list_measure ports g c (e ∷ es) ≡ Some m → is_empty_ports ports (kept ports (e ∷ es)) ≡ (m.size == 0)
unfolding list_measure
empty_step g c e es m true k more h =
    let r = measure (row_of g c e).rule e.payload in
    let s = ap (λ b. cond b (both (option_map with_header r) (list_measure ports g (g.next c e) es)) (both (Some dropped) (list_measure ports g c es))) (sym k) ∙ h in
    let n = kept_size r (list_measure ports g (g.next c e) es) m s in
    ap (is_empty_ports ports) (kept_more ports e es k) ∙ sym (ne_eqb m.size 0 (λ z. absurd (omega (arith, n, z))))
empty_step g c e es m false k more h =
    let r = measure (row_of g c e).rule e.payload in
    let s = ap (λ b. cond b (both (option_map with_header r) (list_measure ports g (g.next c e) es)) (both (Some dropped) (list_measure ports g c es))) (sym k) ∙ h in
    let y = dropped_size (list_measure ports g c es) m s in
    ap (is_empty_ports ports) (kept_past ports e es k) ∙ more c y.0 y.1 ∙ ap (λ n. n == 0) y.2

empty_by : (g : Grammar) (es : List Attribute) → EmptyBy g es
unfolding list_measure size_or
empty_by g [] c m h = let e : 0 ≡ m.size = ap size_or h in ap (λ n. n == 0) e
empty_by g (e ∷ es) c m h = empty_step g c e es m (is_kept ports e) refl (empty_by g es) h

-- a list that may be empty
plain_whole : (o : Option (List Attribute)) (f : List Attribute → Option Measure) → option_map (λ m. m) (option_and_then f o) ≡ option_and_then (λ es. option_map (or_empty false) (f es)) o
plain_whole None f = refl
plain_whole (Some es) f = by (f es) where
  by : (q : Option Measure) → option_map (λ m. m) q ≡ option_map (or_empty false) q
  by None = refl
  by (Some m) = refl

ports_whole : (g : Grammar) (o : Option (List Attribute)) → option_map (whole_measure ports) (option_and_then (list_measure ports g no_kind_in_force) o) ≡ option_and_then (λ es. option_map (or_empty (is_empty_ports ports (kept ports es))) (list_measure ports g no_kind_in_force es)) o
ports_whole g None = refl
ports_whole g (Some es) = by (list_measure ports g no_kind_in_force es) refl where
  by : (q : Option Measure) → list_measure ports g no_kind_in_force es ≡ q → option_map (whole_measure ports) q ≡ option_map (or_empty (is_empty_ports ports (kept ports es))) q
  by None h = refl
  by (Some m) h = ap (λ b. Some (or_empty b m)) (sym (empty_by g es no_kind_in_force m h))

whole_of_attributes : (form : ListForm) (g : Grammar) (o : Option (List Attribute)) → option_map (whole_measure form) (option_and_then (list_measure form g no_kind_in_force) o) ≡ option_and_then (λ es. option_map (or_empty (is_empty_ports form (kept form es))) (list_measure form g no_kind_in_force es)) o
whole_of_attributes ports g o = ports_whole g o
whole_of_attributes form g o = plain_whole o (list_measure form g no_kind_in_force)

pub whole_by : (form : ListForm) (g : Grammar) (bytes : List ℕ) → IsWalked form bytes → option_map (whole_measure form) (measure_of_rest form g no_kind_in_force bytes) ≡ measure_as form g bytes
unfolding measure_of_rest measure_as
whole_by form g bytes w =
    whole_of_attributes form g (attributes_of bytes)
    ∙ ap (λ o. option_and_then (λ es. option_map (or_empty (is_empty_ports form (kept form es))) (list_measure form g no_kind_in_force es)) o) (sym (read_walked form bytes w))

-- the measure of the whole list, once the walk ends
ended : (form : ListForm) (g : Grammar) (bytes : List ℕ) (o : Option Measure) → IsWalked form bytes → measure_of_rest form g no_kind_in_force bytes ≡ o → option_map (whole_measure form) o ≡ measure (list_rule form g) bytes
ended form g bytes o w h = ap (option_map (whole_measure form)) (sym h) ∙ whole_by form g bytes w ∙ walk_list form g bytes

-- ---- how a measure determines the results of the rule

pub determines : (r : Rule) (p : List ℕ) (m : Measure) → Some m ≡ measure r p → IsMeasure r p m
determines r p m h =
    let k = cond_some (r.accepted p) (record { size = length (r.canonical p); attributes = r.attributes p; fits = r.fits p; empty_ports = r.empty_ports p }) m (sym h) in
    record {
      accepted = k.0;
      size = ap (λ (x : Measure). x.size) (sym k.1);
      attributes = ap (λ (x : Measure). x.attributes) (sym k.1);
      fits = ap (λ (x : Measure). x.fits) (sym k.1);
      empty_ports = ap (λ (x : Measure). x.empty_ports) (sym k.1);
    }

rejects_by : (b : Bool) (m : Measure) → None ≡ cond b (Some m) None → b ≡ false
rejects_by true m h = absurd cc
rejects_by false m h = refl

pub rejects : (r : Rule) (p : List ℕ) → None ≡ measure r p → r.accepted p ≡ false
rejects r p h = rejects_by (r.accepted p) (record { size = length (r.canonical p); attributes = r.attributes p; fits = r.fits p; empty_ports = r.empty_ports p }) h

-- ---- the first attribute only, and list kinds that require one

single : (g : Grammar) → Option (Attribute × List ℕ) → Option Measure
single g o = option_and_then (λ es. option_map (or_empty (is_empty_ports first_only (kept first_only es))) (list_measure first_only g no_kind_in_force es)) (option_map (λ x. x.0 ∷ []) o)

single_is : (g : Grammar) (bytes : List ℕ) (o : Option (Attribute × List ℕ)) → first_attribute bytes ≡ o → single g o ≡ measure (list_rule first_only g) bytes
unfolding measure_as single
single_is g bytes o f = ap (single g) (sym f) ∙ walk_list first_only g bytes

closed_single : (q : Option Measure) → option_map with_header q ≡ option_map (or_empty false) (both (option_map with_header q) (Some none_yet))
closed_single None = refl
closed_single (Some m) = ap Some (sym (plus_end (with_header m)))

pub first_some : (g : Grammar) (bytes : List ℕ) (e : Attribute) (after : List ℕ) (q : Option Measure) → first_attribute bytes ≡ Some (e, after) → q ≡ measure (row_of g no_kind_in_force e).rule e.payload → option_map with_header q ≡ measure (list_rule first_only g) bytes
unfolding single list_measure
first_some g bytes e after q f is = ap (option_map with_header) is ∙ closed_single (measure (row_of g no_kind_in_force e).rule e.payload) ∙ single_is g bytes (Some (e, after)) f

pub first_none : (g : Grammar) (bytes : List ℕ) → first_attribute bytes ≡ None → None ≡ measure (list_rule first_only g) bytes
unfolding single
first_none g bytes f = single_is g bytes None f

none_there : (form : ListForm) (g : Grammar) (bytes : List ℕ) → length bytes ≡ 0 → RequiresAttribute form → None ≡ measure (list_rule form g) bytes
unfolding measure_as
none_there form g bytes l w =
    sym (ap (λ o. option_and_then (λ es. option_map (or_empty (is_empty_ports form (kept form es))) (list_measure form g no_kind_in_force es)) o) (read_none form bytes l w)) ∙ walk_list form g bytes

-- the same bytes have the same measure, whether or not the list kind requires an attribute
whole_of : Grammar → Option (List Attribute) → Option Measure
whole_of g o = measure (record {
  accepted = λ b. option_map_or (λ es. all_accepted g no_kind_in_force es) o false;
  same = λ a b. true;
  canonical = λ b. option_map_or (λ es. list_text (canonical_forms g no_kind_in_force es)) o [];
  attributes = λ b. option_map_or (λ es. length es + attributes_inside g no_kind_in_force es) o 0;
  fits = λ b. option_map_or (λ es. all_fit g no_kind_in_force es) o true;
  empty_ports = λ b. option_map_or (λ es. some_empty_ports g no_kind_in_force es) o false;
}) []

non_empty_any : (g : Grammar) (bytes : List ℕ) → 0 < length bytes → measure (list_rule non_empty g) bytes ≡ measure (list_rule any g) bytes
unfolding whole_of
non_empty_any g bytes l = ap (whole_of g) (bytes_not_empty bytes l)

-- ---- the laws

pub measures_unfold : MeasuresUnfold
measures_unfold = record {
  start = λ form g bytes. record { whole = sym (both_start (measure_of_rest form g no_kind_in_force bytes)) };
  more = λ form g bytes rest c e after so_far m f k is h. record {
    whole = h.whole
        ∙ ap (both (Some so_far)) (walk_step form g c rest e after true f k ∙ ap (λ o. both (option_map with_header o) (measure_of_rest form g (g.next c e) after)) (sym is))
        ∙ sym (both_assoc (Some so_far) (Some (with_header m)) (measure_of_rest form g (g.next c e) after));
  };
  past = λ form g bytes rest c e after so_far f k h. record {
    whole = h.whole ∙ ap (both (Some so_far)) (walk_step form g c rest e after false f k) ∙ sym (both_assoc (Some so_far) (Some dropped) (measure_of_rest form g c after));
  };
  refused = λ form g bytes rest c e after so_far w f k is h.
      ended form g bytes None w (h.whole ∙ ap (both (Some so_far)) (walk_step form g c rest e after true f k ∙ ap (λ o. both (option_map with_header o) (measure_of_rest form g (g.next c e) after)) (sym is)));
  stopped = λ form g bytes rest c so_far w f l h. ended form g bytes None w (h.whole ∙ ap (both (Some so_far)) (walk_stop form g c rest f l));
  done = λ form g bytes rest c so_far w l h. ended form g bytes (Some so_far) w (h.whole ∙ ap (both (Some so_far)) (walk_end form g c rest l) ∙ ap Some (plus_end so_far));
  small = λ r lawful rest e after m f is.
      let s = sized rest e after f in
      let t = determines r e.payload m is in
      record {
        within = omega (arith, s.within, s.rest_length, t.size, lawful.bounded e.payload t.accepted);
        few = omega (arith, s.within, s.rest_length, t.attributes, lawful.counted e.payload t.accepted);
        shorter = omega (arith, s.within, s.rest_length);
      };
}

pub measures_determine_rules : MeasuresDetermineRules
measures_determine_rules = record {
  walked = walk_list;
  determines = determines;
  rejects = rejects;
  first_some = first_some;
  first_none = first_none;
  no_bytes = none_there;
  non_empty = non_empty_any;
}
