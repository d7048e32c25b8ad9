-- Two lists are compared attribute by attribute, over any rows.
use Rattle.std.proofs.Common.{◌≡◌, ℕ, Bool, true, false, cond, List, [], ◌∷◌, length, Option, Some, None, inl, inr, refl, sym, ap, ◌∙◌, arith}
use Rattle.std.specs.Prelude.{◌==◌, ◌&&◌, ◌||◌, option_map}
use Rattle.std.proofs.lemmas.Bool.{eqb-true, ne_eqb, and_parts}
use Rattle.std.proofs.lemmas.Bool.Decides.{eqb_tells}
use Rattle.std.proofs.lemmas.Slice.Eq.{bytes_eq-Decides}
use Rattle.std.specs.Option.{option_map_or}
use Rattle.netlink_packet_core_grammar.specs.Attributes.{Attribute, proper_kind, first_attribute, attributes_within, attributes_of}
use Rattle.netlink_packet_core_grammar.specs.Texts.{without_nul}
use Rattle.netlink_packet_core_grammar.proofs.FirstAttribute.{attributes_step, attributes_stop}
use Rattle.attribute_tables_grammar.specs.Shapes.{text}
use Rattle.attribute_tables_grammar.specs.Rules.{Rule, shape_rule}
use Rattle.attribute_tables_grammar.specs.Lists.{Context, no_kind_in_force, Row, Grammar, row_of, row_at, same_kind, same_attribute, all_same, ListForm, non_empty, ports, first_only, read_as, is_kept, kept}
use Rattle.attribute_tables_grammar.specs.Tables.{typed, info_row, info_next, names_grammar}
use Rattle.attribute_tables_grammar.specs.Sameness.{kept_of, same_kept, same_rests, same_kind_by_first_row}
use Rattle.attribute_tables_grammar.specs.Laws.{KeptAttributesUnfold, SamenessUnfolds, AttributesAreCompared}
use Rattle.attribute_tables_grammar.proofs.Kept.{kept_more, kept_past, kept_none, bytes_not_empty, read_walked, read_none}

-- ---- the attributes that a list keeps

kept_first : (form : ListForm) (e : Attribute) → is_kept form e ≡ true → (o : Option (List Attribute)) → option_map (kept form) (option_map (λ es. e ∷ es) o) ≡ option_map (λ es. e ∷ es) (option_map (kept form) o)
kept_first form e k None = refl
kept_first form e k (Some es) = ap Some (kept_more form e es k)

dropped_first : (form : ListForm) (e : Attribute) → is_kept form e ≡ false → (o : Option (List Attribute)) → option_map (kept form) (option_map (λ es. e ∷ es) o) ≡ option_map (kept form) o
dropped_first form e k None = refl
dropped_first form e k (Some es) = ap Some (kept_past form e es k)

none_kept : (form : ListForm) (rest : List ℕ) → length rest ≡ 0 → kept_of form rest ≡ Some []
unfolding kept_of attributes_within
none_kept form [] l = ap Some (kept_none form)
none_kept form (b ∷ rest) l = absurd (omega arith)

pub kept_lists_unfold : KeptAttributesUnfold
unfolding kept_of
kept_lists_unfold = record {
  more = λ form rest e after f k. ap (option_map (kept form)) (attributes_step rest e after f) ∙ kept_first form e k (attributes_of after);
  past = λ form rest e after f k. ap (option_map (kept form)) (attributes_step rest e after f) ∙ dropped_first form e k (attributes_of after);
  ended = none_kept;
  stopped = λ form rest f l. ap (option_map (kept form)) (attributes_stop rest f l);
}

-- ---- two lists

module _ (g : Grammar) (c : Context) where
  first_attributes_equal : (e f : Attribute) → same_attribute (row_of g c e) (row_of g c f) e f ≡ true → g.next c e ≡ g.next c f → (o p : Option (List Attribute)) →
      same_kept g (g.next c e) (g.next c e) o p ≡ same_kept g c c (option_map (λ es. e ∷ es) o) (option_map (λ es. f ∷ es) p)
  unfolding same_kept all_same
  first_attributes_equal e f s n None p = refl
  first_attributes_equal e f s n (Some es) None = refl
  first_attributes_equal e f s n (Some es) (Some fs) = ap (λ d. all_same g (g.next c e) d es fs) n ∙ ap (λ b. b && all_same g (g.next c e) (g.next c f) es fs) (sym s)

  first_differs : (e f : Attribute) → same_attribute (row_of g c e) (row_of g c f) e f ≡ false → (o p : Option (List Attribute)) →
      false ≡ same_kept g c c (option_map (λ es. e ∷ es) o) (option_map (λ es. f ∷ es) p)
  unfolding same_kept all_same
  first_differs e f s None p = refl
  first_differs e f s (Some es) None = refl
  first_differs e f s (Some es) (Some fs) = ap (λ b. b && all_same g (g.next c e) (g.next c f) es fs) (sym s)

-- a test that fails for each list also fails for each with one more attribute at the start
never : (f : List Attribute → Bool) → ((es : List Attribute) → false ≡ f es) → (o : Option (List Attribute)) → false ≡ option_map_or f o false
never f h None = refl
never f h (Some es) = h es

never_following : (f : List Attribute → Bool) (e : Attribute) → ((es : List Attribute) → false ≡ f (e ∷ es)) → (o : Option (List Attribute)) → false ≡ option_map_or f (option_map (λ es. e ∷ es) o) false
never_following f e h None = refl
never_following f e h (Some es) = h es

-- ---- whole lists, by their list kind

same_read : Grammar → ListForm → Option (List Attribute) → Option (List Attribute) → Bool
same_read g form o p = option_map_or (λ es. option_map_or (λ fs. all_same g no_kind_in_force no_kind_in_force (kept form es) (kept form fs)) p false) o false

plain_whole : (form : ListForm) (g : Grammar) (o p : Option (List Attribute)) → same_kept g no_kind_in_force no_kind_in_force (option_map (kept form) o) (option_map (kept form) p) ≡ same_read g form o p
unfolding same_kept same_read
plain_whole form g None p = refl
plain_whole form g (Some es) None = refl
plain_whole form g (Some es) (Some fs) = refl

no_right_read : (g : Grammar) (form : ListForm) (o : Option (List Attribute)) → false ≡ same_read g form o None
unfolding same_read
no_right_read g form = never (λ es. false) (λ es. refl)

-- ---- the first attribute only

single : Option (Attribute × List ℕ) → Option (List Attribute)
single o = option_map (λ x. x.0 ∷ []) o

and_end : (b : Bool) → b ≡ (b && true)
and_end true = refl
and_end false = refl

pub sameness_unfolds : SamenessUnfolds
unfolding same_rests same_kept kept_of same_read single all_same
sameness_unfolds = record {
  whole = λ form g a b w v. plain_whole form g (attributes_of a) (attributes_of b) ∙ (λ i. same_read g form (sym (read_walked form a w) i) (sym (read_walked form b v) i));
  more = λ form g c a b e f x y h k s n. first_attributes_equal g c e f s n (kept_of form x) (kept_of form y) ∙ (λ i. same_kept g c c (sym h i) (sym k i));
  differs = λ form g c a b e f x y h k s. first_differs g c e f s (kept_of form x) (kept_of form y) ∙ (λ i. same_kept g c c (sym h i) (sym k i));
  ended = λ form g c a b h k. λ i. same_kept g c c (sym h i) (sym k i);
  left_ended = λ form g c a b f y h k. never_following (λ fs. all_same g c c [] fs) f (λ fs. refl) (kept_of form y) ∙ (λ i. same_kept g c c (sym h i) (sym k i));
  right_ended = λ form g c a b e x h k. never_following (λ es. all_same g c c es []) e (λ es. refl) (kept_of form x) ∙ (λ i. same_kept g c c (sym h i) (sym k i));
  left_stopped = λ form g c a b h. ap (λ o. same_kept g c c o (kept_of form b)) (sym h);
  right_stopped = λ form g c a b k. never (λ es. false) (λ es. refl) (kept_of form a) ∙ ap (same_kept g c c (kept_of form a)) (sym k);
  no_left = λ form g a b l w. ap (λ o. same_read g form o (read_as form b)) (sym (read_none form a l w));
  no_right = λ form g a b l w. no_right_read g form (read_as form a) ∙ ap (same_read g form (read_as form a)) (sym (read_none form b l w));
  first_both = λ g a b e f x y h k. and_end (same_attribute (row_of g no_kind_in_force e) (row_of g no_kind_in_force f) e f) ∙ (λ i. same_read g first_only (single (sym h i)) (single (sym k i)));
  no_first_left = λ g a b h. ap (λ o. same_read g first_only (single o) (single (first_attribute b))) (sym h);
  no_first_right = λ g a b k. no_right_read g first_only (single (first_attribute a)) ∙ ap (λ o. same_read g first_only (single (first_attribute a)) (single o)) (sym k);
  non_empty = λ g a b l m. λ i. same_read g non_empty (sym (bytes_not_empty a l) i) (sym (bytes_not_empty b m) i);
  ports = λ g a b l m. λ i. same_read g ports (sym (bytes_not_empty a l) i) (sym (bytes_not_empty b m) i);
}

-- ---- two attributes

of_one_row : (t k x : Bool) → ((k || (t && true)) && x) ≡ (cond (t && t) true k && (x && x))
of_one_row true true true = refl
of_one_row true true false = refl
of_one_row true false true = refl
of_one_row true false false = refl
of_one_row false true true = refl
of_one_row false true false = refl
of_one_row false false true = refl
of_one_row false false false = refl

of_two_rows : (t u x y : Bool) → ((false || (t && false)) && x) ≡ (cond (t && u) false false && (x && y))
of_two_rows true true x y = refl
of_two_rows true false x y = refl
of_two_rows false u x y = refl

by_kind : (f : ℕ → Row) (e h : Attribute) → (same_kind_by_first_row (row_at f e) e.kind h.kind && (row_at f e).rule.same e.payload h.payload) ≡ same_attribute (row_at f e) (row_at f h) e h
by_kind f e h =
    let k = proper_kind e.kind in
    let l = proper_kind h.kind in
    let r = f k in
    let x = r.rule.same e.payload h.payload in
    elim (eqb_tells k l) [
      | inl p ↦
          ap (λ b. ((e.kind == h.kind) || (r.is_typed && b)) && x) p.0
          ∙ of_one_row r.is_typed (e.kind == h.kind) x
          ∙ (λ i. cond (r.is_typed && (f (p.1 i)).is_typed) (sym p.0 i) (e.kind == h.kind) && (x && (f (p.1 i)).rule.same e.payload h.payload))
      | inr p ↦
          let n : (e.kind == h.kind) ≡ false = ne_eqb e.kind h.kind (λ z. p.1 (ap proper_kind z)) in
          (λ i. ((n i) || (r.is_typed && p.0 i)) && x)
          ∙ of_two_rows r.is_typed (f l).is_typed x ((f l).rule.same e.payload h.payload)
          ∙ (λ i. cond (r.is_typed && (f l).is_typed) (sym p.0 i) (sym n i) && (x && (f l).rule.same e.payload h.payload))
    ]

kinds_proper : (b : Bool) (k l : ℕ) → cond b (proper_kind k == proper_kind l) (k == l) ≡ true → proper_kind k ≡ proper_kind l
kinds_proper true k l h = eqb-true (proper_kind k) (proper_kind l) h
kinds_proper false k l h = ap proper_kind (eqb-true k l h)

pick_next : (is_kind is_port_kind : Bool) (r : Row) (c d : Context) (p p' : List ℕ) →
    (cond is_kind (typed (shape_rule text)) (cond is_port_kind (typed (shape_rule text)) r)).rule.same p p' ≡ true →
    cond is_kind (record { kind = Some (without_nul p); port_kind = c.port_kind }) (cond is_port_kind (record { kind = c.kind; port_kind = Some (without_nul p) }) d) ≡
    cond is_kind (record { kind = Some (without_nul p'); port_kind = c.port_kind }) (cond is_port_kind (record { kind = c.kind; port_kind = Some (without_nul p') }) d)
pick_next true b r c d p p' s = ap (λ (n : List ℕ). record { kind = Some n; port_kind = c.port_kind }) ((bytes_eq-Decides (without_nul p) (without_nul p')).0 s)
pick_next false true r c d p p' s = ap (λ (n : List ℕ). record { kind = c.kind; port_kind = Some n }) ((bytes_eq-Decides (without_nul p) (without_nul p')).0 s)
pick_next false false r c d p p' s = refl

next_at : (d q : List ℕ → Rule) (c : Context) (k : ℕ) (p p' : List ℕ) → (info_row d q c k).rule.same p p' ≡ true → info_next c k p ≡ info_next c k p'
next_at d q c k p p' s = pick_next (k == 1) (k == 4) _ c _ p p' s

one_context : (data' ports : List ℕ → Rule) (c : Context) (e h : Attribute) → same_attribute (row_of (names_grammar data' ports) c e) (row_of (names_grammar data' ports) c h) e h ≡ true → (names_grammar data' ports).next c e ≡ (names_grammar data' ports).next c h
one_context d q c e h s =
    let g = names_grammar d q in
    let a = and_parts (same_kind (row_of g c e) (row_of g c h) e.kind h.kind) ((row_of g c e).rule.same e.payload h.payload && (row_of g c h).rule.same e.payload h.payload) s in
    let b = and_parts ((row_of g c e).rule.same e.payload h.payload) ((row_of g c h).rule.same e.payload h.payload) a.1 in
    next_at d q c (proper_kind e.kind) e.payload h.payload b.0
    ∙ ap (λ k. info_next c k h.payload) (kinds_proper ((row_of g c e).is_typed && (row_of g c h).is_typed) e.kind h.kind a.0)

pub attributes_are_compared : AttributesAreCompared
attributes_are_compared = record { by_kind = by_kind; one_context = one_context }
