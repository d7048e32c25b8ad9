-- A canonical list is the text of canonical attributes.
use Rattle.std.proofs.Common.{◌≡◌, ℕ, suc, ◌-◌, ◌%◌, ◌/◌, ◌<◌, ◌≤◌, Bool, true, false, cond, List, [], ◌∷◌, ◌++◌, length, drop, Option, Some, None, refl, sym, ap, subst, ◌∙◌, arith}
use Rattle.std.specs.Prelude.{filter, option_map, ⊤}
use Rattle.std.proofs.lemmas.Bool.{and_parts}
use Rattle.std.proofs.lemmas.Option.{same_Some}
use Rattle.std.specs.Option.{option_and_then, option_map_or}
use Rattle.netlink_packet_core_grammar.specs.Attributes.{Attribute, attribute_header, attribute_length, attribute_text, first_attribute, list_text, nla_align, zeros}
use Rattle.netlink_packet_core_grammar.specs.Bytes.{AreBytes}
use Rattle.netlink_packet_core_grammar.proofs.Attributes.{attributes_of_text, first_attribute_text}
use Rattle.attribute_tables_grammar.specs.Lists.{Context, Grammar, ListForm, Row, all_accepted, any, first_only, is_of_kind_one, kept, list_rule, non_empty, unless_empty, no_kind_in_force, of_kind_one, ports, read_as, canonical_form, canonical_forms, row_of, canonical_kind}
use Rattle.link_lines_texts.specs.Determination.{IsCanonical}

-- An attribute that its row accepts and leaves unchanged.
pub record CanonicalAttribute (r : Row) (e : Attribute) : Type 0 where
  pub small : e.kind < 65536
  pub kind : canonical_kind r e.kind ≡ e.kind
  pub payload : IsCanonical r.rule e.payload

-- Attributes in order, each under its row.
abbrev pub AllCanonical : Grammar → Context → List Attribute → Type 0
AllCanonical g c [] = ⊤
AllCanonical g c (e ∷ es) = CanonicalAttribute (row_of g c e) e × AllCanonical g (g.next c e) es

pub record CanonicalList (g : Grammar) (p : List ℕ) : Type 0 where
  pub attributes : List Attribute
  pub is : p ≡ list_text attributes
  pub own : AllCanonical g no_kind_in_force attributes

-- ---- bytes

prefix_bytes : (a b : List ℕ) → AreBytes (a ++ b) → AreBytes a
prefix_bytes [] b h = record {}
prefix_bytes (x ∷ a) b h = (h.0, prefix_bytes a b h.1)

back_bytes : (a b : List ℕ) → AreBytes (a ++ b) → AreBytes b
back_bytes [] b h = h
back_bytes (x ∷ a) b h = back_bytes a b h.1

two_bytes : (k : ℕ) → k % 256 < 256 → k / 256 < 256 → k < 65536
two_bytes k h l = omega arith

record HasBytes (e : Attribute) (es : List Attribute) : Type 0 where
  small : e.kind < 65536
  payload : AreBytes e.payload
  rest : AreBytes (list_text es)

bytes_of : (e : Attribute) (es : List Attribute) → AreBytes (list_text (e ∷ es)) → HasBytes e es
unfolding list_text attribute_text
bytes_of e es h =
    let n = attribute_length e in
    let first = prefix_bytes (attribute_text e) (list_text es) h in
    let inside = back_bytes (attribute_header n e.kind) (e.payload ++ zeros (nla_align n - n)) first in
    record {
      small = two_bytes e.kind first.1.1.0 first.1.1.1.0;
      payload = prefix_bytes e.payload (zeros (nla_align n - n)) inside;
      rest = back_bytes (attribute_text e) (list_text es) h;
    }

-- ---- attributes that are as they are written

abbrev first_or : Attribute → List Attribute → Attribute
first_or d [] = d
first_or d (e ∷ es) = e

all_canonical : (g : Grammar) (c : Context) (es : List Attribute) → es ≡ canonical_forms g c es → all_accepted g c es ≡ true → AreBytes (list_text es) → AllCanonical g c es
unfolding canonical_forms all_accepted
all_canonical g c [] h a b = record {}
all_canonical g c (e ∷ es) h a b =
    let r = row_of g c e in
    let same : e ≡ canonical_form r e = ap (first_or e) h in
    let parts = and_parts (r.rule.accepted e.payload) (all_accepted g (g.next c e) es) a in
    let bytes = bytes_of e es b in (
      record {
        small = bytes.small;
        kind = ap (λ f. f.kind) (sym same);
        payload = record { bytes = bytes.payload; accepted = parts.0; canonical = ap (λ f. f.payload) (sym same) };
      },
      all_canonical g (g.next c e) es (ap (drop 1) h) parts.1 bytes.rest,
    )

-- ---- the attributes read from such a list are those that are written

rewritten_length : (g : Grammar) (c : Context) (es : List Attribute) → length (canonical_forms g c es) ≡ length es
unfolding canonical_forms
rewritten_length g c [] = refl
rewritten_length g c (e ∷ es) = ap suc (rewritten_length g (g.next c e) es)

filtered_by : (f : Attribute → Bool) (e : Attribute) (es : List Attribute) (t : Bool) → length (filter f es) ≤ length es → length (cond t (e ∷ filter f es) (filter f es)) ≤ suc (length es)
filtered_by f e es true h = omega arith
filtered_by f e es false h = omega arith

filtered_length : (f : Attribute → Bool) (es : List Attribute) → length (filter f es) ≤ length es
filtered_length f [] = omega arith
filtered_length f (e ∷ es) = filtered_by f e es (f e) (filtered_length f es)

-- A filter that keeps the length keeps everything.
kept_by : (f : Attribute → Bool) (e : Attribute) (es : List Attribute) (t : Bool) → length (filter f es) ≤ length es → (length (filter f es) ≡ length es → filter f es ≡ es) →
    length (cond t (e ∷ filter f es) (filter f es)) ≡ suc (length es) → cond t (e ∷ filter f es) (filter f es) ≡ e ∷ es
kept_by f e es true h same l = ap (λ z. e ∷ z) (same (omega arith))
kept_by f e es false h same l = absurd (omega arith)

all_kept : (f : Attribute → Bool) (es : List Attribute) → length (filter f es) ≡ length es → filter f es ≡ es
all_kept f [] l = refl
all_kept f (e ∷ es) l = kept_by f e es (f e) (filtered_length f es) (all_kept f es) l

filled : (gs es : List Attribute) → unless_empty gs ≡ Some es → gs ≡ es
filled [] es h = absurd cc
filled (g ∷ gs) es h = same_Some (g ∷ gs) es h

none_or_one : (o : Option (Attribute × List ℕ)) (es : List Attribute) → option_map (λ x. x.0 ∷ []) o ≡ Some es → (e : Attribute) × (es ≡ e ∷ [])
none_or_one None es h = absurd cc
none_or_one (Some x) es h = (x.0, sym (same_Some (x.0 ∷ []) es h))

same_implies_equal_text : (e : Attribute) → list_text (e ∷ []) ≡ attribute_text e ++ []
unfolding list_text
same_implies_equal_text e = refl

one_rewritten : (g : Grammar) (e : Attribute) → canonical_forms g no_kind_in_force (e ∷ []) ≡ canonical_form (row_of g no_kind_in_force e) e ∷ []
unfolding canonical_forms
one_rewritten g e = refl

single : (g : Grammar) (es gs : List Attribute) → gs ≡ canonical_forms g no_kind_in_force es → option_map (λ x. x.0 ∷ []) (first_attribute (list_text gs)) ≡ Some es → gs ≡ es
single g es gs w h =
    let one = none_or_one (first_attribute (list_text gs)) es h in
    let f = canonical_form (row_of g no_kind_in_force one.0) one.0 in
    let is : gs ≡ f ∷ [] = w ∙ ap (λ z. canonical_forms g no_kind_in_force z) one.1 ∙ one_rewritten g one.0 in
    let read : first_attribute (list_text gs) ≡ Some (f, []) = ap (λ z. first_attribute (list_text z)) is ∙ ap (λ z. first_attribute z) (same_implies_equal_text f) ∙ first_attribute_text f [] in
    is ∙ same_Some (f ∷ []) es (ap (λ o. option_map (λ x. x.0 ∷ []) o) (sym read) ∙ h)

read_back : (form : ListForm) (g : Grammar) (es gs : List Attribute) → gs ≡ canonical_forms g no_kind_in_force (kept form es) → read_as form (list_text gs) ≡ Some es → gs ≡ es
read_back any g es gs w h = same_Some gs es (sym (attributes_of_text gs) ∙ h)
read_back of_kind_one g es gs w h = same_Some gs es (sym (attributes_of_text gs) ∙ h)
read_back non_empty g es gs w h = filled gs es (ap (λ o. option_and_then unless_empty o) (sym (attributes_of_text gs)) ∙ h)
read_back ports g es gs w h = filled gs es (ap (λ o. option_and_then unless_empty o) (sym (attributes_of_text gs)) ∙ h)
read_back first_only g es gs w h = single g es gs w h

-- Such a list kind keeps all of them.
nothing_dropped : (form : ListForm) (g : Grammar) (es : List Attribute) → canonical_forms g no_kind_in_force (kept form es) ≡ es → kept form es ≡ es
nothing_dropped any g es h = refl
nothing_dropped non_empty g es h = refl
nothing_dropped first_only g es h = refl
nothing_dropped of_kind_one g es h = all_kept is_of_kind_one es (sym (rewritten_length g no_kind_in_force (filter is_of_kind_one es)) ∙ ap length h)
nothing_dropped ports g es h = all_kept is_of_kind_one es (sym (rewritten_length g no_kind_in_force (filter is_of_kind_one es)) ∙ ap length h)

module _ (form : ListForm) (g : Grammar) (p : List ℕ) (bytes : AreBytes p) where
  canonical_attribute_by : (o : Option (List Attribute)) → read_as form p ≡ o → option_map_or (λ es. all_accepted g no_kind_in_force (kept form es)) o false ≡ true → option_map_or (λ es. list_text (canonical_forms g no_kind_in_force (kept form es))) o [] ≡ p → CanonicalList g p
  canonical_attribute_by None r a c = absurd cc
  canonical_attribute_by (Some es) r a c =
      let gs = canonical_forms g no_kind_in_force (kept form es) in
      let same : gs ≡ es = read_back form g es gs refl (ap (read_as form) c ∙ r) in
      let whole : kept form es ≡ es = nothing_dropped form g es same in
      let is : p ≡ list_text es = sym c ∙ ap list_text same in
      record {
        attributes = es;
        is = is;
        own = all_canonical g no_kind_in_force es (sym same ∙ ap (canonical_forms g no_kind_in_force) whole) (ap (all_accepted g no_kind_in_force) (sym whole) ∙ a) (subst AreBytes is bytes);
      }

pub canonical_list : (form : ListForm) (g : Grammar) (p : List ℕ) → IsCanonical (list_rule form g) p → CanonicalList g p
canonical_list form g p o = canonical_attribute_by form g p o.bytes (read_as form p) refl o.accepted o.canonical
