-- A reading determines the results of a list's rule, and unfolds attribute by attribute; as laws, over the first
-- attribute as a view of the bytes shows it.
use Rattle.std.proofs.Common.{◌≡◌, ℕ, ◌+◌, ◌<◌, Bool, true, false, cond, List, [], ◌∷◌, ◌++◌, length, map, Option, Some, None, refl, sym, ap, ◌∙◌, arith, append_assoc, append-nil}
use Rattle.std.specs.Prelude.{◌==◌, ◌&&◌, ◌||◌, option_map}
use Rattle.std.proofs.lemmas.Bool.{ne_eqb}
use Rattle.std.specs.Option.{option_and_then, option_map_or}
use Rattle.netlink_packet_core_grammar.specs.Attributes.{Attribute, list_text, first_attribute, attributes_within, attributes_of}
use Rattle.netlink_packet_core_grammar.specs.Fits.{attribute_fits}
use Rattle.netlink_packet_core_grammar.specs.AttributeViews.{viewed_attribute, after_first}
use Rattle.netlink_packet_core_grammar.proofs.FirstAttribute.{first_attribute_is, first_attribute_none, attributes_step, attributes_stop}
use Rattle.netlink_packet_core_grammar.proofs.Sizes.{length-list_text}
use Rattle.attribute_tables_grammar.specs.Lists.{Context, no_kind_in_force, Grammar, without_context, row_of, canonical_forms, all_accepted, some_empty_ports, all_fit, attributes_inside, ListForm, any, non_empty, of_kind_one, ports, unless_empty, read_as, is_kept, kept, is_empty_ports, list_rule}
use Rattle.attribute_tables_grammar.specs.LookUps.{rows_rule}
use Rattle.attribute_tables_grammar.specs.Laws.{ReadingsUnfold, ReadingsDetermineRules, FirstOnlyIsRead, PortsAreEntries}
use Rattle.attribute_tables_grammar.specs.Walks.{RequiresAttribute}
use Rattle.attribute_tables_grammar.specs.Readings.{AttributeReading, attribute_reading, attribute_readings, reading, reading_as, all_readings_fit, followed_by, IsReading}
use Rattle.attribute_tables_grammar.proofs.Kept.{kept_more, kept_past, kept_none, bytes_not_empty, read_none}

-- ---- the steps

onto : (form : ListForm) (o : Option (List Attribute)) (g : Grammar) (c : Context) (e : Attribute) → is_kept form e ≡ true → (row_of g c e).rule.accepted e.payload ≡ true →
    option_and_then (λ es. attribute_readings g c (kept form es)) (option_map (λ es. e ∷ es) o) ≡ followed_by (attribute_reading (row_of g c e) e ∷ []) (option_and_then (λ es. attribute_readings g (g.next c e) (kept form es)) o)
unfolding attribute_readings
onto form None g c e k a = refl
onto form (Some es) g c e k a = ap (attribute_readings g c) (kept_more form e es k) ∙ ap (λ b. cond b (option_map (λ ws. attribute_reading (row_of g c e) e ∷ ws) (attribute_readings g (g.next c e) (kept form es))) None) a

against : (form : ListForm) (o : Option (List Attribute)) (g : Grammar) (c : Context) (e : Attribute) → is_kept form e ≡ true → (row_of g c e).rule.accepted e.payload ≡ false →
    option_and_then (λ es. attribute_readings g c (kept form es)) (option_map (λ es. e ∷ es) o) ≡ None
unfolding attribute_readings
against form None g c e k a = refl
against form (Some es) g c e k a = ap (attribute_readings g c) (kept_more form e es k) ∙ ap (λ b. cond b (option_map (λ ws. attribute_reading (row_of g c e) e ∷ ws) (attribute_readings g (g.next c e) (kept form es))) None) a

beside : (form : ListForm) (o : Option (List Attribute)) (g : Grammar) (c : Context) (e : Attribute) → is_kept form e ≡ false →
    option_and_then (λ es. attribute_readings g c (kept form es)) (option_map (λ es. e ∷ es) o) ≡ option_and_then (λ es. attribute_readings g c (kept form es)) o
beside form None g c e k = refl
beside form (Some es) g c e k = ap (attribute_readings g c) (kept_past form e es k)

module _ (form : ListForm) (g : Grammar) where
  reading_step : (c : Context) (bytes : List ℕ) (e : Attribute) (rest : List ℕ) → first_attribute bytes ≡ Some (e, rest) → is_kept form e ≡ true → (row_of g c e).rule.accepted e.payload ≡ true →
      reading form g c bytes ≡ followed_by (attribute_reading (row_of g c e) e ∷ []) (reading form g (g.next c e) rest)
  unfolding reading
  reading_step c bytes e rest f k a = ap (λ o. option_and_then (λ es. attribute_readings g c (kept form es)) o) (attributes_step bytes e rest f) ∙ onto form (attributes_of rest) g c e k a

  reading_refused : (c : Context) (bytes : List ℕ) (e : Attribute) (rest : List ℕ) → first_attribute bytes ≡ Some (e, rest) → is_kept form e ≡ true → (row_of g c e).rule.accepted e.payload ≡ false → reading form g c bytes ≡ None
  unfolding reading
  reading_refused c bytes e rest f k a = ap (λ o. option_and_then (λ es. attribute_readings g c (kept form es)) o) (attributes_step bytes e rest f) ∙ against form (attributes_of rest) g c e k a

  reading_past : (c : Context) (bytes : List ℕ) (e : Attribute) (rest : List ℕ) → first_attribute bytes ≡ Some (e, rest) → is_kept form e ≡ false → reading form g c bytes ≡ reading form g c rest
  unfolding reading
  reading_past c bytes e rest f k = ap (λ o. option_and_then (λ es. attribute_readings g c (kept form es)) o) (attributes_step bytes e rest f) ∙ beside form (attributes_of rest) g c e k

  reading_end : (c : Context) (bytes : List ℕ) → length bytes ≡ 0 → reading form g c bytes ≡ Some []
  unfolding reading attributes_within attribute_readings
  reading_end c [] h = ap (attribute_readings g c) (kept_none form)
  reading_end c (b ∷ bytes) h = absurd (omega arith)

  reading_stop : (c : Context) (bytes : List ℕ) → first_attribute bytes ≡ None → 0 < length bytes → reading form g c bytes ≡ None
  unfolding reading
  reading_stop c bytes f l = ap (λ o. option_and_then (λ es. attribute_readings g c (kept form es)) o) (attributes_stop bytes f l)

-- ---- the state of a loop: what was read, and the rest in its context

followed_nil : (o : Option (List AttributeReading)) → followed_by [] o ≡ o
followed_nil None = refl
followed_nil (Some ws) = refl

followed_twice : (us vs : List AttributeReading) (o : Option (List AttributeReading)) → followed_by us (followed_by vs o) ≡ followed_by (us ++ vs) o
followed_twice us vs None = refl
followed_twice us vs (Some ws) = ap Some (sym (append_assoc us vs ws))

pub readings_unfold : ReadingsUnfold
readings_unfold = record {
  start = λ form g bytes. record { whole = sym (followed_nil (reading form g no_kind_in_force bytes)) };
  more = λ form g bytes ws c rest w h k a is s.
      let e = viewed_attribute rest in
      record {
        whole = s.whole
            ∙ ap (followed_by ws) (reading_step form g c rest e (after_first rest) (first_attribute_is rest h) k a ∙ ap (λ x. followed_by (x ∷ []) (reading form g (g.next c e) (after_first rest))) (sym is))
            ∙ followed_twice ws (w ∷ []) (reading form g (g.next c e) (after_first rest));
      };
  past = λ form g bytes ws c rest h k s. record { whole = s.whole ∙ ap (followed_by ws) (reading_past form g c rest (viewed_attribute rest) (after_first rest) (first_attribute_is rest h) k) };
  refused = λ form g bytes ws c rest h k a s. s.whole ∙ ap (followed_by ws) (reading_refused form g c rest (viewed_attribute rest) (after_first rest) (first_attribute_is rest h) k a);
  stopped = λ form g bytes ws c rest h l s. s.whole ∙ ap (followed_by ws) (reading_stop form g c rest (first_attribute_none rest h) l);
  done = λ form g bytes ws c rest l s. s.whole ∙ ap (followed_by ws) (reading_end form g c rest l) ∙ ap Some (append-nil ws);
}

-- ---- the reading of whole bytes

-- a list kind that requires an attribute reads non-empty bytes as the one that doesn't
pub record AlikeOn (r s : ListForm) (g : Grammar) (bytes : List ℕ) : Type 0 where
  pub accepted : (list_rule r g).accepted bytes ≡ (list_rule s g).accepted bytes
  pub canonical : (list_rule r g).canonical bytes ≡ (list_rule s g).canonical bytes
  pub fits : (list_rule r g).fits bytes ≡ (list_rule s g).fits bytes
  pub attributes : (list_rule r g).attributes bytes ≡ (list_rule s g).attributes bytes
  pub read : reading_as r g bytes ≡ reading_as s g bytes

alike_at : {A : Type 0} (r s : ListForm) (bytes : List ℕ) (d : A) (f : List Attribute → A) → read_as r bytes ≡ read_as s bytes → ((es : List Attribute) → kept r es ≡ kept s es) → option_map_or (λ es. f (kept r es)) (read_as r bytes) d ≡ option_map_or (λ es. f (kept s es)) (read_as s bytes) d
alike_at r s bytes d f h k = ap (λ o. option_map_or (λ es. f (kept r es)) o d) h ∙ ap (λ (q : List Attribute → List Attribute). option_map_or (λ es. f (q es)) (read_as s bytes) d) (λ i es. k es i)

alike_by : (r s : ListForm) (g : Grammar) (bytes : List ℕ) → read_as r bytes ≡ read_as s bytes → ((es : List Attribute) → kept r es ≡ kept s es) → AlikeOn r s g bytes
unfolding reading_as
alike_by r s g bytes h k = record {
  accepted = alike_at r s bytes false (all_accepted g no_kind_in_force) h k;
  canonical = alike_at r s bytes [] (λ es. list_text (canonical_forms g no_kind_in_force es)) h k;
  fits = alike_at r s bytes true (all_fit g no_kind_in_force) h k;
  attributes = ap (λ o. option_map_or (λ es. length es + attributes_inside g no_kind_in_force (kept r es)) o 0) h ∙ ap (λ (q : List Attribute → List Attribute). option_map_or (λ es. length es + attributes_inside g no_kind_in_force (q es)) (read_as s bytes) 0) (λ i es. k es i);
  read = ap (λ o. option_and_then (λ es. attribute_readings g no_kind_in_force (kept r es)) o) h ∙ ap (λ (q : List Attribute → List Attribute). option_and_then (λ es. attribute_readings g no_kind_in_force (q es)) (read_as s bytes)) (λ i es. k es i);
}

pub non_empty_alike : (g : Grammar) (bytes : List ℕ) → 0 < length bytes → AlikeOn non_empty any g bytes
non_empty_alike g bytes l = alike_by non_empty any g bytes (bytes_not_empty bytes l) (λ es. refl)

ports_alike : (g : Grammar) (bytes : List ℕ) → 0 < length bytes → AlikeOn ports of_kind_one g bytes
ports_alike g bytes l = alike_by ports of_kind_one g bytes (bytes_not_empty bytes l) (λ es. refl)

-- a list kind that requires an attribute rejects the empty list
refuses : (form : ListForm) (g : Grammar) (bytes : List ℕ) → RequiresAttribute form → length bytes ≡ 0 → (list_rule form g).accepted bytes ≡ false
refuses form g bytes w l = ap (λ o. option_map_or (λ es. all_accepted g no_kind_in_force (kept form es)) o false) (read_none form bytes l w)

pub non_empty_refuses : (g : Grammar) (bytes : List ℕ) → length bytes ≡ 0 → (list_rule non_empty g).accepted bytes ≡ false
non_empty_refuses g bytes = refuses non_empty g bytes tt

-- nothing is kept if and only if the encoding is empty
no_text : (g : Grammar) (c : Context) (ks : List Attribute) → is_empty_ports ports ks ≡ (length (list_text (canonical_forms g c ks)) == 0)
unfolding list_text canonical_forms
no_text g c [] = refl
no_text g c (e ∷ es) = sym (ne_eqb (length (list_text (canonical_forms g c (e ∷ es)))) 0 (λ z. absurd (omega (arith, z, length-list_text (canonical_forms g c (e ∷ es))))))

-- legal ports are empty if and only if their encoding is, or a list of ports inside is
ports_empty : (g : Grammar) (o : Option (List Attribute)) → option_map_or (λ es. all_accepted g no_kind_in_force (kept ports es)) (option_and_then unless_empty o) false ≡ true →
    option_map_or (λ es. is_empty_ports ports (kept ports es) || some_empty_ports g no_kind_in_force (kept ports es)) (option_and_then unless_empty o) false
    ≡ ((length (option_map_or (λ es. list_text (canonical_forms g no_kind_in_force (kept of_kind_one es))) o []) == 0) || option_map_or (λ es. is_empty_ports of_kind_one (kept of_kind_one es) || some_empty_ports g no_kind_in_force (kept of_kind_one es)) o false)
ports_empty g None h = absurd cc
ports_empty g (Some []) h = absurd cc
ports_empty g (Some (e ∷ es)) h = let ks = kept ports (e ∷ es) in ap (λ b. b || some_empty_ports g no_kind_in_force ks) (no_text g no_kind_in_force ks)

-- ---- one attribute, followed by any bytes

pub single_first_attributes_are_read : FirstOnlyIsRead
unfolding reading_as attribute_readings
single_first_attributes_are_read = record {
  read = λ g bytes w h a is.
      let e = viewed_attribute bytes in
      single g (first_attribute_is bytes h) ∙ ap (λ b. cond b (Some (attribute_reading (row_of g no_kind_in_force e) e ∷ [])) None) a ∙ ap (λ x. Some (x ∷ [])) (sym is);
  refused = λ g bytes h a. let e = viewed_attribute bytes in single g (first_attribute_is bytes h) ∙ ap (λ b. cond b (Some (attribute_reading (row_of g no_kind_in_force e) e ∷ [])) None) a;
  missing = λ g bytes h. single g (first_attribute_none bytes h);
}
  where
    single : (g : Grammar) {o p : Option (Attribute × List ℕ)} → o ≡ p →
        option_and_then (λ es. attribute_readings g no_kind_in_force es) (option_map (λ (x : Attribute × List ℕ). x.0 ∷ []) o) ≡ option_and_then (λ es. attribute_readings g no_kind_in_force es) (option_map (λ (x : Attribute × List ℕ). x.0 ∷ []) p)
    single g = ap (λ o. option_and_then (λ es. attribute_readings g no_kind_in_force es) (option_map (λ (x : Attribute × List ℕ). x.0 ∷ []) o))

-- ---- how a reading determines the results of the rule

written_all : Grammar → Context → List Attribute → List AttributeReading
written_all g c [] = []
written_all g c (e ∷ es) = attribute_reading (row_of g c e) e ∷ written_all g (g.next c e) es

found_step : (a b : Bool) (w : AttributeReading) (ws : List AttributeReading) → cond a (option_map (λ vs. w ∷ vs) (cond b (Some ws) None)) None ≡ cond (a && b) (Some (w ∷ ws)) None
found_step true true w ws = refl
found_step true false w ws = refl
found_step false b w ws = refl

found : (g : Grammar) (c : Context) (es : List Attribute) → attribute_readings g c es ≡ cond (all_accepted g c es) (Some (written_all g c es)) None
unfolding attribute_readings all_accepted written_all
found g c [] = refl
found g c (e ∷ es) =
    let a = (row_of g c e).rule.accepted e.payload in
    let w = attribute_reading (row_of g c e) e in
    ap (λ o. cond a (option_map (λ vs. w ∷ vs) o) None) (found g (g.next c e) es) ∙ found_step a (all_accepted g (g.next c e) es) w (written_all g (g.next c e) es)

entries_of : (g : Grammar) (c : Context) (es : List Attribute) → map (λ (w : AttributeReading). w.entry) (written_all g c es) ≡ canonical_forms g c es
unfolding canonical_forms written_all
entries_of g c [] = refl
entries_of g c (e ∷ es) = ap (λ r. (attribute_reading (row_of g c e) e).entry ∷ r) (entries_of g (g.next c e) es)

fits_of : (g : Grammar) (c : Context) (es : List Attribute) → all_readings_fit (written_all g c es) ≡ all_fit g c es
unfolding all_fit written_all all_readings_fit
fits_of g c [] = refl
fits_of g c (e ∷ es) = ap (λ b. (attribute_fits (attribute_reading (row_of g c e) e).entry && (row_of g c e).rule.fits e.payload) && b) (fits_of g (g.next c e) es)

some_list : List AttributeReading → Option (List AttributeReading)
some_list ws = Some ws

list_or : Option (List AttributeReading) → List AttributeReading
list_or None = []
list_or (Some ws) = ws

determines_by : (g : Grammar) (es : List Attribute) (ws : List AttributeReading) (b : Bool) → all_accepted g no_kind_in_force es ≡ b → cond b (Some (written_all g no_kind_in_force es)) None ≡ some_list ws → (all_accepted g no_kind_in_force es ≡ true) × (written_all g no_kind_in_force es ≡ ws)
unfolding list_or some_list
determines_by g es ws true a h = (a, ap list_or h)
determines_by g es ws false a h = absurd cc

determines_in : (form : ListForm) (g : Grammar) (o : Option (List Attribute)) (ws : List AttributeReading) → option_and_then (λ es. attribute_readings g no_kind_in_force (kept form es)) o ≡ some_list ws →
    (option_map_or (λ es. all_accepted g no_kind_in_force (kept form es)) o false ≡ true) × (option_map_or (λ es. list_text (canonical_forms g no_kind_in_force (kept form es))) o [] ≡ list_text (map (λ (w : AttributeReading). w.entry) ws)) × (option_map_or (λ es. all_fit g no_kind_in_force (kept form es)) o true ≡ all_readings_fit ws)
unfolding some_list
determines_in form g None ws h = absurd cc
determines_in form g (Some es) ws h =
    let ks = kept form es in
    let t = determines_by g ks ws (all_accepted g no_kind_in_force ks) refl (sym (found g no_kind_in_force ks) ∙ h) in
    (t.0, ap list_text (sym (entries_of g no_kind_in_force ks) ∙ ap (map (λ (w : AttributeReading). w.entry)) t.1), sym (fits_of g no_kind_in_force ks) ∙ ap all_readings_fit t.1)

determines : (form : ListForm) (g : Grammar) (bytes : List ℕ) (ws : List AttributeReading) → reading_as form g bytes ≡ Some ws → IsReading (list_rule form g) bytes ws
unfolding reading_as some_list
determines form g bytes ws h =
    let t = determines_in form g (read_as form bytes) ws h in
    record { accepted = t.0; canonical = t.1; fits = t.2 }

rejects_by : (b : Bool) (ws : List AttributeReading) → cond b (some_list ws) None ≡ None → b ≡ false
unfolding some_list
rejects_by true ws h = absurd cc
rejects_by false ws h = refl

rejects_in : (form : ListForm) (g : Grammar) (o : Option (List Attribute)) → option_and_then (λ es. attribute_readings g no_kind_in_force (kept form es)) o ≡ None → option_map_or (λ es. all_accepted g no_kind_in_force (kept form es)) o false ≡ false
unfolding some_list
rejects_in form g None h = refl
rejects_in form g (Some es) h = let ks = kept form es in rejects_by (all_accepted g no_kind_in_force ks) (written_all g no_kind_in_force ks) (sym (found g no_kind_in_force ks) ∙ h)

rejects : (form : ListForm) (g : Grammar) (bytes : List ℕ) → reading_as form g bytes ≡ None → (list_rule form g).accepted bytes ≡ false
unfolding reading_as
rejects form g bytes h = rejects_in form g (read_as form bytes) h

-- ---- the laws

pub readings_determine_rules : ReadingsDetermineRules
unfolding reading_as reading rows_rule
readings_determine_rules = record {
  of_any = λ g bytes. refl;
  of_entries = λ g bytes. refl;
  determines = determines;
  rejects = rejects;
  determines_rows = λ form f bytes ws h. let t = determines form (without_context f) bytes ws h in record { accepted = t.accepted; canonical = t.canonical; fits = t.fits };
  rejects_rows = λ form f. rejects form (without_context f);
}

pub ports_are_entries : PortsAreEntries
unfolding rows_rule
ports_are_entries = record {
  accepted = λ f bytes l. (ports_alike (without_context f) bytes l).accepted;
  canonical = λ f bytes l. (ports_alike (without_context f) bytes l).canonical;
  fits = λ f bytes l. (ports_alike (without_context f) bytes l).fits;
  attributes = λ f bytes l. (ports_alike (without_context f) bytes l).attributes;
  read = λ f bytes l. (ports_alike (without_context f) bytes l).read;
  empty = λ f bytes. refuses ports (without_context f) bytes tt;
  empty_ports = λ f bytes. ports_empty (without_context f) (attributes_of bytes);
}
