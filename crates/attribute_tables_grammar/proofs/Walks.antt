-- A walk determines the results of a list's rule, and unfolds attribute by attribute.
use Rattle.std.proofs.Common.{◌≡◌, ℕ, suc, ◌+◌, ◌<◌, Bool, true, false, cond, List, [], ◌∷◌, length, Option, Some, None, refl, sym, ap, ◌∙◌, arith, add_assoc}
use Rattle.std.proofs.Math.Bool.{and_assoc, or_assoc}
use Rattle.std.proofs.Math.Nat.{zero-add}
use Rattle.std.specs.Prelude.{◌&&◌, ◌||◌, nat_le, option_map}
use Rattle.std.specs.Option.{option_and_then, option_map_or}
use Rattle.netlink_packet_core_grammar.specs.Attributes.{nla_align, Attribute, list_text, list_size, first_attribute, attributes_within, attributes_of}
use Rattle.netlink_packet_core_grammar.proofs.FirstAttribute.{attributes_step, attributes_stop}
use Rattle.netlink_packet_core_grammar.proofs.Sizes.{length-list_text}
use Rattle.attribute_tables_grammar.specs.Lists.{Context, no_kind_in_force, Grammar, row_of, canonical_forms, all_accepted, all_fit, attributes_inside, some_empty_ports, ListForm, read_as, is_kept, kept, is_empty_ports, list_rule}
use Rattle.attribute_tables_grammar.specs.Walks.{Measure, measure, plus, none_yet, dropped, with_header, both, list_measure, measure_of_rest, or_empty, measure_as}
use Rattle.attribute_tables_grammar.proofs.Kept.{kept_more, kept_past, kept_none}

-- ---- sums

plus_assoc : (l m n : Measure) → plus (plus l m) n ≡ plus l (plus m n)
plus_assoc l m n = λ i. record {
  size = add_assoc l.size m.size n.size i;
  attributes = add_assoc l.attributes m.attributes n.attributes i;
  fits = and_assoc l.fits m.fits n.fits i;
  empty_ports = or_assoc l.empty_ports m.empty_ports n.empty_ports i;
}

pub both_assoc : (l m n : Option Measure) → both (both l m) n ≡ both l (both m n)
both_assoc None m n = refl
both_assoc (Some l) None n = refl
both_assoc (Some l) (Some m) None = refl
both_assoc (Some l) (Some m) (Some n) = ap Some (plus_assoc l m n)

both_none : (m : Option Measure) → both m None ≡ None
both_none None = refl
both_none (Some m) = refl

-- ---- the steps of a walk

-- the measure with that of the first attribute added
with_first : (form : ListForm) (g : Grammar) (c : Context) (e : Attribute) → Option Measure → Option Measure → Option Measure
with_first form g c e more past = cond (is_kept form e) (both (option_map with_header (measure (row_of g c e).rule e.payload)) more) (both (Some dropped) past)

with_first_none : (form : ListForm) (g : Grammar) (c : Context) (e : Attribute) (b : Bool) → is_kept form e ≡ b → None ≡ with_first form g c e None None
unfolding with_first
with_first_none form g c e true h = sym (ap (λ b. cond b (both (option_map with_header (measure (row_of g c e).rule e.payload)) None) None) h ∙ both_none (option_map with_header (measure (row_of g c e).rule e.payload)))
with_first_none form g c e false h = sym (ap (λ b. cond b (both (option_map with_header (measure (row_of g c e).rule e.payload)) None) None) h)

if_some_map : (form : ListForm) (o : Option (List Attribute)) (g : Grammar) (c : Context) (e : Attribute) → option_and_then (list_measure form g c) (option_map (λ es. e ∷ es) o) ≡ with_first form g c e (option_and_then (list_measure form g (g.next c e)) o) (option_and_then (list_measure form g c) o)
unfolding list_measure with_first
if_some_map form None g c e = with_first_none form g c e (is_kept form e) refl
if_some_map form (Some es) g c e = refl

-- by whether the first attribute is kept
pub walk_step : (form : ListForm) (g : Grammar) (c : Context) (bytes : List ℕ) (e : Attribute) (rest : List ℕ) (b : Bool) → first_attribute bytes ≡ Some (e, rest) → is_kept form e ≡ b →
    measure_of_rest form g c bytes ≡ cond b (both (option_map with_header (measure (row_of g c e).rule e.payload)) (measure_of_rest form g (g.next c e) rest)) (both (Some dropped) (measure_of_rest form g c rest))
unfolding measure_of_rest with_first
walk_step form g c bytes e rest b f k =
    ap (λ o. option_and_then (list_measure form g c) o) (attributes_step bytes e rest f)
    ∙ if_some_map form (attributes_of rest) g c e
    ∙ ap (λ b. cond b (both (option_map with_header (measure (row_of g c e).rule e.payload)) (measure_of_rest form g (g.next c e) rest)) (both (Some dropped) (measure_of_rest form g c rest))) k

pub walk_end : (form : ListForm) (g : Grammar) (c : Context) (bytes : List ℕ) → length bytes ≡ 0 → measure_of_rest form g c bytes ≡ Some none_yet
unfolding measure_of_rest attributes_within list_measure
walk_end form g c [] h = refl
walk_end form g c (b ∷ bytes) h = absurd (omega arith)

pub walk_stop : (form : ListForm) (g : Grammar) (c : Context) (bytes : List ℕ) → first_attribute bytes ≡ None → 0 < length bytes → measure_of_rest form g c bytes ≡ None
unfolding measure_of_rest
walk_stop form g c bytes f l = ap (λ o. option_and_then (list_measure form g c) o) (attributes_stop bytes f l)

-- ---- a walk of a whole list

found_step : (a b : Bool) (s t h i : ℕ) (f r p q : Bool) →
    both (option_map with_header (cond a (Some (record { size = s; attributes = h; fits = f; empty_ports = p })) None)) (cond b (Some (record { size = t; attributes = i; fits = r; empty_ports = q })) None)
    ≡ cond (a && b) (Some (record { size = nla_align (4 + s) + t; attributes = 1 + h + i; fits = (nat_le (4 + s) 65535 && f) && r; empty_ports = p || q })) None
found_step true true s t h i f r p q = refl
found_step true false s t h i f r p q = refl
found_step false b s t h i f r p q = refl

dropped_step : (b : Bool) (t n : ℕ) (l h : ℕ) (r q : Bool) → n ≡ suc l + h → both (Some dropped) (cond b (Some (record { size = t; attributes = l + h; fits = r; empty_ports = q })) None) ≡ cond b (Some (record { size = t; attributes = n; fits = r; empty_ports = q })) None
dropped_step true t n l h r q e = let sum : 1 + (l + h) ≡ n = omega (arith, e) in λ i. Some (record { size = zero-add t i; attributes = sum i; fits = r; empty_ports = q })
dropped_step false t n l h r q e = refl

regroup : (l h n : ℕ) → 1 + h + (l + n) ≡ suc l + (h + n)
regroup l h n = omega arith

module _ (form : ListForm) (g : Grammar) where
  -- the attributes of a list, and those that are kept
  found_of : Context → ℕ → List Attribute → Option Measure
  found_of c n ks = cond (all_accepted g c ks) (Some (record { size = list_size (canonical_forms g c ks); attributes = n + attributes_inside g c ks; fits = all_fit g c ks; empty_ports = some_empty_ports g c ks })) None

  measures_by : (c : Context) (e : Attribute) (es : List Attribute) (b : Bool) → is_kept form e ≡ b → ((d : Context) → list_measure form g d es ≡ found_of d (length es) (kept form es)) → list_measure form g c (e ∷ es) ≡ found_of c (suc (length es)) (kept form (e ∷ es))
  unfolding list_measure found_of all_accepted canonical_forms attributes_inside all_fit some_empty_ports
  measures_by c e es true k more =
      let r = (row_of g c e).rule in
      let d = g.next c e in
      let p = e.payload in
      let ks = kept form es in
      ap (λ b. cond b (both (option_map with_header (measure r p)) (list_measure form g d es)) (both (Some dropped) (list_measure form g c es))) k
      ∙ ap (both (option_map with_header (measure r p))) (more d)
      ∙ found_step (r.accepted p) (all_accepted g d ks) (length (r.canonical p)) (list_size (canonical_forms g d ks)) (r.attributes p) (length es + attributes_inside g d ks) (r.fits p) (all_fit g d ks) (r.empty_ports p) (some_empty_ports g d ks)
      ∙ ap (λ n. cond (r.accepted p && all_accepted g d ks) (Some (record { size = nla_align (4 + length (r.canonical p)) + list_size (canonical_forms g d ks); attributes = n; fits = (nat_le (4 + length (r.canonical p)) 65535 && r.fits p) && all_fit g d ks; empty_ports = r.empty_ports p || some_empty_ports g d ks })) None) (regroup (length es) (r.attributes p) (attributes_inside g d ks))
      ∙ ap (found_of c (suc (length es))) (sym (kept_more form e es k))
  measures_by c e es false k more =
      let r = (row_of g c e).rule in
      let ks = kept form es in
      ap (λ b. cond b (both (option_map with_header (measure r e.payload)) (list_measure form g (g.next c e) es)) (both (Some dropped) (list_measure form g c es))) k
      ∙ ap (both (Some dropped)) (more c)
      ∙ dropped_step (all_accepted g c ks) (list_size (canonical_forms g c ks)) (suc (length es) + attributes_inside g c ks) (length es) (attributes_inside g c ks) (all_fit g c ks) (some_empty_ports g c ks) refl
      ∙ ap (found_of c (suc (length es))) (sym (kept_past form e es k))

  measures_found : (c : Context) (es : List Attribute) → list_measure form g c es ≡ found_of c (length es) (kept form es)
  unfolding list_measure found_of all_accepted canonical_forms attributes_inside all_fit some_empty_ports
  measures_found c [] = sym (ap (found_of c 0) (kept_none form))
  measures_found c (e ∷ es) = measures_by c e es (is_kept form e) refl (λ d. measures_found d es)

  closed : (a b : Bool) (s h : ℕ) (f p : Bool) → option_map (or_empty b) (cond a (Some (record { size = s; attributes = h; fits = f; empty_ports = p })) None) ≡ cond a (Some (record { size = s; attributes = h; fits = f; empty_ports = b || p })) None
  closed true b s h f p = refl
  closed false b s h f p = refl

  whole : (o : Option (List Attribute)) → option_and_then (λ es. option_map (or_empty (is_empty_ports form (kept form es))) (list_measure form g no_kind_in_force es)) o ≡ cond (option_map_or (λ es. all_accepted g no_kind_in_force (kept form es)) o false) (Some (record { size = length (option_map_or (λ es. list_text (canonical_forms g no_kind_in_force (kept form es))) o []); attributes = option_map_or (λ es. length es + attributes_inside g no_kind_in_force (kept form es)) o 0; fits = option_map_or (λ es. all_fit g no_kind_in_force (kept form es)) o true; empty_ports = option_map_or (λ es. is_empty_ports form (kept form es) || some_empty_ports g no_kind_in_force (kept form es)) o false })) None
  unfolding found_of
  whole None = refl
  whole (Some es) =
      let ks = kept form es in
      ap (option_map (or_empty (is_empty_ports form ks))) (measures_found no_kind_in_force es)
      ∙ closed (all_accepted g no_kind_in_force ks) (is_empty_ports form ks) (list_size (canonical_forms g no_kind_in_force ks)) (length es + attributes_inside g no_kind_in_force ks) (all_fit g no_kind_in_force ks) (some_empty_ports g no_kind_in_force ks)
      ∙ ap (λ n. cond (all_accepted g no_kind_in_force ks) (Some (record { size = n; attributes = length es + attributes_inside g no_kind_in_force ks; fits = all_fit g no_kind_in_force ks; empty_ports = is_empty_ports form ks || some_empty_ports g no_kind_in_force ks })) None) (sym (length-list_text (canonical_forms g no_kind_in_force ks)))

  -- a walk of whole bytes has the measure of their rule, for any list kind
  pub walk_list : (bytes : List ℕ) → measure_as form g bytes ≡ measure (list_rule form g) bytes
  unfolding measure_as
  walk_list bytes = whole (read_as form bytes)
