-- A list over lawful rows is a lawful rule.
use Rattle.std.proofs.Common.{◌≡◌, ℕ, ◌+◌, ◌*◌, ◌≤◌, Bool, true, false, cond, eqb, List, [], ◌∷◌, length, Option, Some, None, refl, sym, ap, subst, ◌∙◌, arith}
use Rattle.std.specs.Prelude.{◌||◌, filter, option_map}
use Rattle.std.proofs.lemmas.Bool.{or_parts, or_from}
use Rattle.std.specs.Option.{option_and_then, option_map_or}
use Rattle.netlink_packet_core_grammar.specs.Attributes.{Attribute, list_text, list_size, first_attribute, attributes_within, attributes_of}
use Rattle.netlink_packet_core_grammar.specs.Bytes.{AreBytes}
use Rattle.netlink_packet_core_grammar.proofs.Attributes.{attributes_of_text, attributes_cut, got_is, sized, first_attribute_text, option_and_then-got, option_map-got}
use Rattle.netlink_packet_core_grammar.proofs.Bytes.{AreBytes-first_attribute}
use Rattle.netlink_packet_core_grammar.proofs.Sizes.{length-list_text}
use Rattle.attribute_tables_grammar.specs.Rules.{Lawful, IsMigratedBy}
use Rattle.attribute_tables_grammar.specs.Lists.{Context, no_kind_in_force, Row, Grammar, row_of, all_accepted, some_empty_ports, canonical_form, canonical_forms, all_fit, attributes_inside, all_same, ListForm, any, non_empty, of_kind_one, ports, first_only, unless_empty, read_as, is_of_kind_one, kept, is_empty_ports, list_rule, LawfulGrammar}
use Rattle.attribute_tables_grammar.proofs.Attributes.{proper_kind-written, MigratesRow, row_migrates_reflexive, rewritten_idempotent, accepts_canonical, all_fit_canonical, same_rewritten, rewritten_same, one_list}
use Rattle.attribute_tables_grammar.proofs.Sizes.{weight, weight_within, weight-filter, weight-filter_le, AreAttributes, AreAttributes-cut, AreAttributes-filter, rewritten_small, counts, text_bytes}

pub read_true : (f : List Attribute → Bool) (o : Option (List Attribute)) → option_map_or f o false ≡ true → (es : List Attribute) × (o ≡ Some es) × (f es ≡ true)
read_true f None h = absurd cc
read_true f (Some es) h = (es, refl, h)

-- ---- the attributes that are read

not_empty_is : (es fs : List Attribute) → unless_empty es ≡ Some fs → es ≡ fs
not_empty_is [] fs h = absurd cc
not_empty_is (e ∷ es) fs h = got_is (e ∷ es) fs h

non_empty_attributes : (bytes : List ℕ) (es : List Attribute) → option_and_then unless_empty (attributes_of bytes) ≡ Some es → attributes_of bytes ≡ Some es
non_empty_attributes bytes es h =
    let s = option_and_then-got (attributes_of bytes) unless_empty es h in
    s.1 ∙ ap Some (not_empty_is s.0 es s.2)

first_only_attribute : (bytes : List ℕ) (es : List Attribute) → read_as first_only bytes ≡ Some es → (e : Attribute) × (rest : List ℕ) × (first_attribute bytes ≡ Some (e, rest)) × (es ≡ e ∷ [])
first_only_attribute bytes es h =
    let s = option_map-got (λ (x : Attribute × List ℕ). x.0 ∷ []) (first_attribute bytes) es h in
    (s.0.0, s.0.1, s.1, sym s.2)

-- the attributes that are read are no longer than the bytes, and hold bytes if these are bytes
record Shown (bytes : List ℕ) (es : List Attribute) : Type 0 where
  size : weight es ≤ length bytes
  are_attributes : AreBytes bytes → AreAttributes es

all_shown : (bytes : List ℕ) (es : List Attribute) → attributes_of bytes ≡ Some es → Shown bytes es
all_shown bytes es h = let k = attributes_cut bytes es h in record { size = weight_within bytes es k; are_attributes = AreAttributes-cut bytes es k }

shown : (form : ListForm) (bytes : List ℕ) (es : List Attribute) → read_as form bytes ≡ Some es → Shown bytes es
shown any bytes es h = all_shown bytes es h
shown of_kind_one bytes es h = all_shown bytes es h
shown non_empty bytes es h = all_shown bytes es (non_empty_attributes bytes es h)
shown ports bytes es h = all_shown bytes es (non_empty_attributes bytes es h)
shown first_only bytes es h =
    let l = first_only_attribute bytes es h in
    record {
      size = rw l.3 (omega (arith, (sized bytes l.0 l.1 l.2).within));
      are_attributes = λ b. let f = AreBytes-first_attribute bytes l.0 l.1 l.2 b in rw l.3 (f.0, f.1, tt);
    }

kept_bytes : (form : ListForm) (es : List Attribute) → AreAttributes es → AreAttributes (kept form es)
kept_bytes of_kind_one es h = AreAttributes-filter is_of_kind_one es h
kept_bytes ports es h = AreAttributes-filter is_of_kind_one es h
kept_bytes form es h = h

kept_weight : (form : ListForm) (es : List Attribute) → weight (kept form es) ≤ weight es
kept_weight of_kind_one es = weight-filter_le is_of_kind_one es
kept_weight ports es = weight-filter_le is_of_kind_one es
kept_weight form es = omega arith

kept_count : (form : ListForm) (es : List Attribute) → weight (kept form es) + 4 * length es ≤ weight es + 4 * length (kept form es)
kept_count of_kind_one es = weight-filter is_of_kind_one es
kept_count ports es = weight-filter is_of_kind_one es
kept_count form es = omega arith

-- ---- the encoding of the attributes that are kept

module _ (g : Grammar) where
  of_kind_one_canonical : (c : Context) (es : List Attribute) → filter is_of_kind_one (canonical_forms g c (filter is_of_kind_one es)) ≡ canonical_forms g c (filter is_of_kind_one es)
  unfolding canonical_forms
  of_kind_one_canonical c [] = refl
  of_kind_one_canonical c (e ∷ es) = go (is_of_kind_one e) refl (λ d. of_kind_one_canonical d es)
    where
      go : (t : Bool) → is_of_kind_one e ≡ t → ((d : Context) → filter is_of_kind_one (canonical_forms g d (filter is_of_kind_one es)) ≡ canonical_forms g d (filter is_of_kind_one es)) → filter is_of_kind_one (canonical_forms g c (cond t (e ∷ filter is_of_kind_one es) (filter is_of_kind_one es))) ≡ canonical_forms g c (cond t (e ∷ filter is_of_kind_one es) (filter is_of_kind_one es))
      go true is more =
          let e' = canonical_form (row_of g c e) e in
          let rest = canonical_forms g (g.next c e) (filter is_of_kind_one es) in
          let keeps : is_of_kind_one e' ≡ true = ap (λ k. eqb k 1) (proper_kind-written (row_of g c e) e.kind) ∙ is in
          ap (λ t. cond t (e' ∷ filter is_of_kind_one rest) (filter is_of_kind_one rest)) keeps ∙ ap (λ x. e' ∷ x) (more (g.next c e))
      go false is more = more c

  rewritten_non_empty : (c : Context) (es : List Attribute) → unless_empty es ≡ Some es → unless_empty (canonical_forms g c es) ≡ Some (canonical_forms g c es)
  unfolding canonical_forms
  rewritten_non_empty c [] h = absurd cc
  rewritten_non_empty c (e ∷ es) h = refl

  non_empty_from_attributes : (bytes : List ℕ) (es : List Attribute) → option_and_then unless_empty (attributes_of bytes) ≡ Some es → unless_empty es ≡ Some es
  non_empty_from_attributes bytes es h =
      let s = option_and_then-got (attributes_of bytes) unless_empty es h in
      ap unless_empty (sym (not_empty_is s.0 es s.2)) ∙ s.2

  non_empty_from_kept : (es : List Attribute) → is_empty_ports ports es ≡ false → unless_empty es ≡ Some es
  non_empty_from_kept [] h = absurd cc
  non_empty_from_kept (e ∷ es) h = refl

  read_non_empty : (rs : List Attribute) → unless_empty rs ≡ Some rs → option_and_then unless_empty (attributes_of (list_text rs)) ≡ Some rs
  read_non_empty rs h = ap (λ o. option_and_then unless_empty o) (attributes_of_text rs) ∙ h

  -- the canonical encoding is read as the kept attributes in their canonical form, and keeps them all
  pub read_canonical : (form : ListForm) (c : Context) (bytes : List ℕ) (es : List Attribute) → read_as form bytes ≡ Some es → is_empty_ports form (kept form es) ≡ false →
      (read_as form (list_text (canonical_forms g c (kept form es))) ≡ Some (canonical_forms g c (kept form es))) × (kept form (canonical_forms g c (kept form es)) ≡ canonical_forms g c (kept form es))
  unfolding list_text canonical_forms
  read_canonical any c bytes es h k = (attributes_of_text (canonical_forms g c es), refl)
  read_canonical non_empty c bytes es h k = (read_non_empty (canonical_forms g c es) (rewritten_non_empty c es (non_empty_from_attributes bytes es h)), refl)
  read_canonical of_kind_one c bytes es h k = (attributes_of_text (canonical_forms g c (filter is_of_kind_one es)), of_kind_one_canonical c es)
  read_canonical ports c bytes es h k = (read_non_empty (canonical_forms g c (filter is_of_kind_one es)) (rewritten_non_empty c (filter is_of_kind_one es) (non_empty_from_kept (filter is_of_kind_one es) k)), of_kind_one_canonical c es)
  read_canonical first_only c bytes es h k =
      let l = first_only_attribute bytes es h in
      let e' = canonical_form (row_of g c l.0) l.0 in
      let one : read_as first_only (list_text (e' ∷ [])) ≡ Some (e' ∷ []) = ap (λ o. option_map (λ (x : Attribute × List ℕ). x.0 ∷ []) o) (first_attribute_text e' []) in
      (subst (λ x. read_as first_only (list_text (canonical_forms g c x)) ≡ Some (canonical_forms g c x)) (sym l.3) one, refl)

  pub keeps_canonical : (form : ListForm) (c : Context) (es : List Attribute) → is_empty_ports form (canonical_forms g c es) ≡ is_empty_ports form es
  unfolding canonical_forms
  keeps_canonical ports c [] = refl
  keeps_canonical ports c (e ∷ es) = refl
  keeps_canonical form c es = refl

  -- a list that keeps nothing and may not be empty
  pub none_canonical : {A : Type 0} (d : A) (f : List Attribute → A) (form : ListForm) (c : Context) (es : List Attribute) → is_empty_ports form es ≡ true → (list_text (canonical_forms g c es) ≡ []) × (option_map_or f (read_as form []) d ≡ d)
  unfolding list_text canonical_forms attributes_within
  none_canonical d f ports c [] h = (refl, refl)
  none_canonical d f form c es h = absurd cc

-- the facts about accepted bytes
pub record AcceptedList (form : ListForm) (g : Grammar) (bytes : List ℕ) : Type 0 where
  pub es : List Attribute
  pub reads : read_as form bytes ≡ Some es
  pub accepted : all_accepted g no_kind_in_force (kept form es) ≡ true
  pub canonical : (list_rule form g).canonical bytes ≡ list_text (canonical_forms g no_kind_in_force (kept form es))

pub accepted_list : (form : ListForm) (g : Grammar) (bytes : List ℕ) → (list_rule form g).accepted bytes ≡ true → AcceptedList form g bytes
accepted_list form g bytes a =
    let s = read_true (λ es. all_accepted g no_kind_in_force (kept form es)) (read_as form bytes) a in
    record { es = s.0; reads = s.1; accepted = s.2; canonical = ap (λ o. option_map_or (λ es. list_text (canonical_forms g no_kind_in_force (kept form es))) o []) s.1 }

-- ---- a list under other rows than those that wrote it

module _ (form : ListForm) (g : Grammar) (lawful : LawfulGrammar g) (rows : Context → ℕ → Row) (migrates : (c : Context) (k : ℕ) → MigratesRow (g.row c k) (rows c k)) where
  -- g with the other rows
  abbrev h : Grammar
  h = record { row = rows; next = g.next }

  -- the facts about bytes that both rules accept
  accepted_too : (p : List ℕ) (k : AcceptedList form g p) → (list_rule form h).accepted p ≡ true → all_accepted h no_kind_in_force (kept form k.es) ≡ true
  accepted_too p k b = sym (ap (λ o. option_map_or (λ es. all_accepted h no_kind_in_force (kept form es)) o false) k.reads) ∙ b

  canonical_by : (p : List ℕ) (k : AcceptedList form g p) → all_accepted h no_kind_in_force (kept form k.es) ≡ true → (t : Bool) → is_empty_ports form (kept form k.es) ≡ t →
      (list_rule form h).canonical (list_text (canonical_forms g no_kind_in_force (kept form k.es))) ≡ list_text (canonical_forms h no_kind_in_force (kept form k.es))
  canonical_by p k b true t =
      let m = none_canonical g [] (λ es. list_text (canonical_forms h no_kind_in_force (kept form es))) form no_kind_in_force (kept form k.es) t in
      let n = none_canonical h [] (λ es. list_text (canonical_forms h no_kind_in_force (kept form es))) form no_kind_in_force (kept form k.es) t in
      ap (λ z. (list_rule form h).canonical z) m.0 ∙ n.1 ∙ sym n.0
  canonical_by p k b false t =
      let s = read_canonical g form no_kind_in_force p k.es k.reads t in
      ap (λ o. option_map_or (λ es. list_text (canonical_forms h no_kind_in_force (kept form es))) o []) s.0
      ∙ ap (λ x. list_text (canonical_forms h no_kind_in_force x)) s.1
      ∙ ap list_text (rewritten_idempotent g lawful rows migrates no_kind_in_force (kept form k.es) k.accepted b)

  fits_by : (p : List ℕ) (k : AcceptedList form g p) → all_accepted h no_kind_in_force (kept form k.es) ≡ true → (t : Bool) → all_fit h no_kind_in_force (kept form k.es) ≡ true → is_empty_ports form (kept form k.es) ≡ t →
      (list_rule form h).fits (list_text (canonical_forms g no_kind_in_force (kept form k.es))) ≡ true
  fits_by p k b true f is =
      let n = none_canonical g true (λ es. all_fit h no_kind_in_force (kept form es)) form no_kind_in_force (kept form k.es) is in
      ap (λ b. (list_rule form h).fits b) n.0 ∙ n.1
  fits_by p k b false f is =
      let s = read_canonical g form no_kind_in_force p k.es k.reads is in
      ap (λ o. option_map_or (λ es. all_fit h no_kind_in_force (kept form es)) o true) s.0 ∙ ap (all_fit h no_kind_in_force) s.1 ∙ all_fit_canonical g lawful rows migrates no_kind_in_force (kept form k.es) k.accepted b f

  list_canonical : (p : List ℕ) → (list_rule form g).accepted p ≡ true → (list_rule form h).accepted p ≡ true → (list_rule form g).empty_ports p ≡ false →
      ((list_rule form h).accepted ((list_rule form g).canonical p) ≡ true) × ((list_rule form h).empty_ports ((list_rule form g).canonical p) ≡ false)
  list_canonical p a b m =
      let k = accepted_list form g p a in
      let full : is_empty_ports form (kept form k.es) || some_empty_ports g no_kind_in_force (kept form k.es) ≡ false =
      sym (ap (λ o. option_map_or (λ es. is_empty_ports form (kept form es) || some_empty_ports g no_kind_in_force (kept form es)) o false) k.reads) ∙ m in
      let n = or_parts _ _ full in
      let s = read_canonical g form no_kind_in_force p k.es k.reads n.0 in
      let o = accepts_canonical g lawful rows migrates no_kind_in_force (kept form k.es) k.accepted (accepted_too p k b) n.1 in (
        ap (λ z. (list_rule form h).accepted z) k.canonical ∙ ap (λ o. option_map_or (λ es. all_accepted h no_kind_in_force (kept form es)) o false) s.0 ∙ ap (all_accepted h no_kind_in_force) s.1 ∙ o.0,
        ap (λ z. (list_rule form h).empty_ports z) k.canonical ∙ ap (λ o. option_map_or (λ es. is_empty_ports form (kept form es) || some_empty_ports h no_kind_in_force (kept form es)) o false) s.0
            ∙ ap (λ x. is_empty_ports form x || some_empty_ports h no_kind_in_force x) s.1 ∙ or_from _ _ (keeps_canonical g form no_kind_in_force (kept form k.es) ∙ n.0) o.1,
      )

  pub list_migrates : IsMigratedBy (list_rule form g) (list_rule form h)
  list_migrates = record {
    accepted = λ p a b m. (list_canonical p a b m).0;
    empty_ports = λ p a b m. (list_canonical p a b m).1;
    fits = λ p a b f.
        let k = accepted_list form g p a in
        let fit : all_fit h no_kind_in_force (kept form k.es) ≡ true = sym (ap (λ o. option_map_or (λ es. all_fit h no_kind_in_force (kept form es)) o true) k.reads) ∙ f in
        ap (λ z. (list_rule form h).fits z) k.canonical ∙ fits_by p k (accepted_too p k b) (is_empty_ports form (kept form k.es)) fit refl;
    canonical = λ p a b.
        let k = accepted_list form g p a in
        ap (λ z. (list_rule form h).canonical z) k.canonical ∙ canonical_by p k (accepted_too p k b) (is_empty_ports form (kept form k.es)) refl
        ∙ sym (ap (λ o. option_map_or (λ es. list_text (canonical_forms h no_kind_in_force (kept form es))) o []) k.reads);
  }

module _ (form : ListForm) (g : Grammar) (lawful : LawfulGrammar g) where
  canonical_idempotent : IsMigratedBy (list_rule form g) (list_rule form g)
  canonical_idempotent = list_migrates form g lawful g.row (λ c k. row_migrates_reflexive (g.row c k) (lawful.rows c k))

  -- a list's canonical encoding is at most 77 times as long
  pub list_small : (p : List ℕ) → (list_rule form g).accepted p ≡ true → length ((list_rule form g).canonical p) ≤ 77 * length p
  list_small p a =
      let k = accepted_list form g p a in
      let ks = kept form k.es in
      let l : length ((list_rule form g).canonical p) ≡ list_size (canonical_forms g no_kind_in_force ks) = ap length k.canonical ∙ length-list_text (canonical_forms g no_kind_in_force ks) in
      rw l (omega (arith, rewritten_small g lawful no_kind_in_force ks k.accepted, kept_weight form k.es, (shown form p k.es k.reads).size))

  pub list_lawful : Lawful (list_rule form g)
  list_lawful = record {
    canonical_accepted = λ p a m. (canonical_idempotent.accepted p a a m, canonical_idempotent.empty_ports p a a m);
    canonical_fits = λ p a f. canonical_idempotent.fits p a a f;
    canonical_idempotent = λ p a. canonical_idempotent.canonical p a a;
    same_implies_equal_text = λ p q a b same.
        let k = accepted_list form g p a in
        let l = accepted_list form g q b in
        let h : all_same g no_kind_in_force no_kind_in_force (kept form k.es) (kept form l.es) ≡ true =
        sym (ap (λ o. option_map_or (λ es. option_map_or (λ fs. all_same g no_kind_in_force no_kind_in_force (kept form es) (kept form fs)) (read_as form q) false) o false) k.reads ∙ ap (λ o. option_map_or (λ fs. all_same g no_kind_in_force no_kind_in_force (kept form k.es) (kept form fs)) o false) l.reads) ∙ same in
        k.canonical ∙ ap list_text (same_rewritten g lawful no_kind_in_force (kept form k.es) (kept form l.es) k.accepted l.accepted h) ∙ sym l.canonical;
    equal_text_implies_same = λ p q a b e.
        let k = accepted_list form g p a in
        let l = accepted_list form g q b in
        let lists = one_list (canonical_forms g no_kind_in_force (kept form k.es)) (canonical_forms g no_kind_in_force (kept form l.es)) (sym k.canonical ∙ e ∙ l.canonical) in
        ap (λ o. option_map_or (λ es. option_map_or (λ fs. all_same g no_kind_in_force no_kind_in_force (kept form es) (kept form fs)) (read_as form q) false) o false) k.reads ∙ ap (λ o. option_map_or (λ fs. all_same g no_kind_in_force no_kind_in_force (kept form k.es) (kept form fs)) o false) l.reads
        ∙ rewritten_same g lawful no_kind_in_force (kept form k.es) (kept form l.es) k.accepted l.accepted lists;
    bounded = λ p a. omega (arith, list_small p a);
    counted = λ p a.
        let k = accepted_list form g p a in
        let n : (list_rule form g).attributes p ≡ length k.es + attributes_inside g no_kind_in_force (kept form k.es) = ap (λ o. option_map_or (λ es. length es + attributes_inside g no_kind_in_force (kept form es)) o 0) k.reads in
        rw n (omega (arith, counts g lawful no_kind_in_force (kept form k.es) k.accepted, kept_count form k.es, (shown form p k.es k.reads).size));
    bytes = λ p a f h.
        let k = accepted_list form g p a in
        let fit : all_fit g no_kind_in_force (kept form k.es) ≡ true = sym (ap (λ o. option_map_or (λ es. all_fit g no_kind_in_force (kept form es)) o true) k.reads) ∙ f in
        rw k.canonical (text_bytes g lawful no_kind_in_force (kept form k.es) k.accepted fit (kept_bytes form k.es ((shown form p k.es k.reads).are_attributes h)));
  }
