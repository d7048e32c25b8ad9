-- A list has no refusal if and only if its rule accepts it.
use Rattle.std.proofs.Common.{◌≡◌, ℕ, zero, suc, ◌+◌, ◌≤◌, Bool, true, false, cond, List, [], ◌∷◌, length, drop, Option, Some, None, refl, sym, ap, ◌∙◌, arith, rules}
use Rattle.std.specs.Prelude.{◌&&◌, nat_le, nat_lt, is_none, option_map, slice_index}
use Rattle.netlink_packet_core_grammar.specs.Attributes.{Attribute, nla_align, attribute_length, first_attribute, proper_kind}
use Rattle.netlink_packet_core_grammar.specs.Laws.{FirstIsWithin}
use Rattle.attribute_tables_grammar.specs.Laws.{MeasuresUnfold, MeasuresDetermineRules}
use Rattle.attribute_tables_grammar.specs.Lists.{any, Context, no_kind_in_force, Grammar, first_only, is_kept, list_rule, ListForm, row_of}
use Rattle.attribute_tables_grammar.specs.Rules.{Rule}
use Rattle.attribute_tables_grammar.specs.Walks.{whole_measure, dropped, IsWalked, Measure, measure, MeasuredSoFar, none_yet, plus, with_header}
use Rattle.link_tables.specs.Rows.{form_of}
use Rattle.link_tables.specs.declared.rows.Form.{Form}
use Rattle.link_tables.specs.declared.rows.Form.TheVariants.{Any, OfKindOne, FirstOnly}
use Rattle.link_message_grammar.specs.Body.{body_rule, family, attributes_rule}
use Rattle.link_capture_lists.specs.declared.tables.Inside.{Inside}
use Rattle.link_capture_lists.specs.declared.tables.Inside.TheVariants as I
use Rattle.link_tables.specs.declared.table.Table.{Table}
use Rattle.link_capture_refusals.specs.declared.reason.Reason.TheVariants as R
use Rattle.link_capture_lists.specs.ListTables.{Listing, list_rest, list_table, row_in, whole}
use Rattle.link_tables.specs.Tables.{family_table}
use Rattle.link_capture_lists.specs.RowRules.{LinksAreTables, RowsAreTheTables, following, grammar_at, is_accepted, peer_of, row_rule}
use Rattle.link_capture_refusals.specs.Refusals.{Found, attribute_refusal, found_at, inside_refusal, link_refusal, list_refusal, named, next_refusal, or_else, row_refusal, whole_refusal}
use Rattle.link_capture_refusals.specs.RefusalLaws.{LinksAreAccepted, ListsAreAccepted, ListsUnfoldByAttributes}
use Rattle.std.proofs.lemmas.Bool.{ltb-true, ltb-false, le-leb, lt-leb}
use Rattle.link_capture_walks.proofs.Listings.{rest_shorter}

-- ---- refusals

none_else : (o : Option Found) (f : Found) → is_none (or_else o (Some f)) ≡ false
none_else None f = refl
none_else (Some g) f = refl

none_mapped : (n : List ℕ) (o : Option Found) → is_none (option_map (named n) o) ≡ is_none o
none_mapped n None = refl
none_mapped n (Some f) = refl

none_before : (o q : Option Found) → is_none o ≡ false → is_none (or_else o q) ≡ false
none_before None q h = absurd cc
none_before (Some f) q h = refl

-- ---- measures

measure_of : Rule → List ℕ → Measure
measure_of r p = record { size = length (r.canonical p); attributes = r.attributes p; fits = r.fits p; empty_ports = r.empty_ports p }

measured : (r : Rule) (p : List ℕ) → r.accepted p ≡ true → Some (measure_of r p) ≡ measure r p
unfolding measure_of
measured r p h = sym (ap (λ b. cond b (Some (measure_of r p)) None) h)

refused : (r : Rule) (p : List ℕ) → r.accepted p ≡ false → None ≡ measure r p
refused r p h = sym (ap (λ b. cond b (Some (record { size = length (r.canonical p); attributes = r.attributes p; fits = r.fits p; empty_ports = r.empty_ports p })) None) h)

module _ (law : ListsUnfoldByAttributes) (w : FirstIsWithin) (steps : MeasuresUnfold) (determines : MeasuresDetermineRules) (rows : RowsAreTheTables) where
  done : (form : ListForm) (g : Grammar) (bytes : List ℕ) (c : Context) (m : Measure) → IsWalked form bytes → MeasuredSoFar form g bytes m c [] → (list_rule form g).accepted bytes ≡ true
  done form g bytes c m k s = (determines.determines (list_rule form g) bytes (whole_measure form m) (steps.done form g bytes [] c m k refl s)).accepted

  ended : (judged : Bool) (f : Form) (t : Table) (c : Context) (offset : ℕ) (bytes : List ℕ) (m : Measure) → IsWalked (form_of f) bytes → MeasuredSoFar (form_of f) (grammar_at judged t) bytes m c [] →
      (list_rule (form_of f) (grammar_at judged t)).accepted bytes ≡ is_none (list_refusal (record { table = list_table f t; context = c; judged = judged }) offset [])
  ended judged f t c offset bytes m v x = done (form_of f) (grammar_at judged t) bytes c m v x ∙ sym (ap is_none (law.none (record { table = list_table f t; context = c; judged = judged }) offset))

  -- for at most n bytes, of the rest of a list, and of a list of which only the first attribute is kept
  record Known (n : ℕ) : Type 0 where
    walked : (judged : Bool) (f : Form) (t : Table) (c : Context) (offset : ℕ) (bytes rest : List ℕ) (m : Measure) → IsWalked (form_of f) bytes → length rest ≤ n →
        MeasuredSoFar (form_of f) (grammar_at judged t) bytes m c rest →
        (list_rule (form_of f) (grammar_at judged t)).accepted bytes ≡ is_none (list_refusal (record { table = list_table f t; context = c; judged = judged }) offset rest)
    first : (judged : Bool) (t : Table) (offset b : ℕ) (bytes : List ℕ) → length (b ∷ bytes) ≤ n →
        (list_rule first_only (grammar_at judged t)).accepted (b ∷ bytes) ≡ is_none (list_refusal (whole FirstOnly t judged) offset (b ∷ bytes))

  module _ (n : ℕ) (k : Known n) where
    listed : (judged : Bool) (f : Form) (t : Table) (attribute_offset : ℕ) (p : List ℕ) → length p ≤ n → (list_rule (form_of f) (grammar_at judged t)).accepted p ≡ is_none (whole_refusal list_refusal (whole f t judged) attribute_offset p)
    unfolding first_attribute
    listed judged Any t attribute_offset [] h = done any (grammar_at judged t) [] no_kind_in_force none_yet tt (steps.start any (grammar_at judged t) [])
    listed judged OfKindOne t attribute_offset [] h = done (form_of OfKindOne) (grammar_at judged t) [] no_kind_in_force none_yet tt (steps.start (form_of OfKindOne) (grammar_at judged t) [])
    listed judged FirstOnly t attribute_offset [] h = determines.rejects (list_rule first_only (grammar_at judged t)) [] (determines.first_none (grammar_at judged t) [] refl)
    listed judged f t attribute_offset [] h = determines.rejects (list_rule (form_of f) (grammar_at judged t)) [] (determines.no_bytes (form_of f) (grammar_at judged t) [] refl tt)
    listed judged FirstOnly t attribute_offset (b ∷ p) h = k.first judged t (attribute_offset + 4) b p h
    listed judged f t attribute_offset (b ∷ p) h = k.walked judged f t no_kind_in_force (attribute_offset + 4) (b ∷ p) (b ∷ p) none_yet (search (rules, arith)) h (steps.start (form_of f) (grammar_at judged t) (b ∷ p))

    inside_some : (judged : Bool) (i : Inside) (attribute_offset : ℕ) (p : List ℕ) → length p ≤ n → (row_rule judged (Some ([], i))).accepted p ≡ false → is_none (inside_refusal list_refusal judged i attribute_offset p) ≡ false
    inside_some judged (I.Value s) attribute_offset p l h = refl
    inside_some judged (I.List f t) attribute_offset p l h = sym (listed judged f t attribute_offset p l) ∙ h
    inside_some judged I.Peer attribute_offset p l h = none_else (link_refusal list_refusal false attribute_offset (attribute_offset + 4) p) _
    inside_some judged (I.Refused r) attribute_offset p l h = refl

    row_some : (judged : Bool) (o : Option (List ℕ × Inside)) (attribute_offset : ℕ) (p : List ℕ) → length p ≤ n → (row_rule judged o).accepted p ≡ false → is_none (row_refusal list_refusal judged o attribute_offset p) ≡ false
    row_some judged None attribute_offset p l h = absurd cc
    row_some judged (Some x) attribute_offset p l h = none_mapped x.0 (inside_refusal list_refusal judged x.1 attribute_offset p) ∙ inside_some judged x.1 attribute_offset p l h

    attribute_some : (l : Listing) (offset : ℕ) (e : Attribute) → length e.payload ≤ n → is_accepted l e ≡ false → is_none (attribute_refusal list_refusal l offset e) ≡ false
    attribute_some l offset e s h =
        ap (λ b. is_none (cond b None (row_refusal list_refusal l.judged (row_in l.table.rows l.context (proper_kind e.kind)) offset e.payload))) h
        ∙ row_some l.judged (row_in l.table.rows l.context (proper_kind e.kind)) offset e.payload s
        (sym (ap (λ r. r.accepted e.payload) (rows l.judged l.table.rows l.context (proper_kind e.kind))) ∙ by_kept (is_kept (form_of l.table.form) e) _ h)
      where
        by_kept : (b a : Bool) → cond b a true ≡ false → a ≡ false
        by_kept true a h = h
        by_kept false a h = absurd cc

    continues : (f : Form) (bytes after : List ℕ) → IsWalked (form_of f) bytes → list_rest f after ≡ after
    continues FirstOnly bytes after h = absurd h
    continues f bytes after h = refl

    module _ (judged : Bool) (t : Table) where
      abbrev g : Grammar
      g = grammar_at judged t

      abbrev at : Form → Context → Listing
      at f c = record { table = list_table f t; context = c; judged = judged }

      abbrev here : Context → Attribute → Rule
      here c e = (row_of g c e).rule

      nothing_here : (f : Form) (c : Context) (offset : ℕ) (e : Attribute) (after : Option Found) → is_accepted (at f c) e ≡ true → or_else (attribute_refusal list_refusal (at f c) offset e) after ≡ after
      nothing_here f c offset e after h = ap (λ b. or_else (cond b None (row_refusal list_refusal judged (row_in t c (proper_kind e.kind)) offset e.payload)) after) h

      -- one more attribute of a list
      walked_more : (f : Form) (c : Context) (offset : ℕ) (bytes rest : List ℕ) (m : Measure) (e : Attribute) (after : List ℕ) → IsWalked (form_of f) bytes → first_attribute rest ≡ Some (e, after) → length rest ≤ suc n →
          MeasuredSoFar (form_of f) g bytes m c rest → (kept a : Bool) → is_kept (form_of f) e ≡ kept → (here c e).accepted e.payload ≡ a →
          (list_rule (form_of f) g).accepted bytes ≡ is_none (or_else (attribute_refusal list_refusal (at f c) offset e) (list_refusal (following (at f c) e) (offset + nla_align (attribute_length e)) (list_rest f after)))
      walked_more f c offset bytes rest m e after v h l s true true i j =
          let next = offset + nla_align (attribute_length e) in
          let r = rest_shorter w rest e after h in
          k.walked judged f t (g.next c e) next bytes after (plus m (with_header (measure_of (here c e) e.payload))) v (omega (arith, r, l))
          (steps.more (form_of f) g bytes rest c e after m (measure_of (here c e) e.payload) h i (measured (here c e) e.payload j) s)
          ∙ ap (λ b. is_none (list_refusal (at f (cond b (g.next c e) c)) next after)) (sym i)
          ∙ ap (λ z. is_none (list_refusal (following (at f c) e) next z)) (sym (continues f bytes after v))
          ∙ ap is_none (sym (nothing_here f c offset e (list_refusal (following (at f c) e) next (list_rest f after)) (ap (λ b. cond b ((here c e).accepted e.payload) true) i ∙ j)))
      walked_more f c offset bytes rest m e after v h l s true false i j =
          let p = w.within rest e after h in
          determines.rejects (list_rule (form_of f) g) bytes (steps.refused (form_of f) g bytes rest c e after m v h i (refused (here c e) e.payload j) s)
          ∙ sym (none_before _ _ (attribute_some (at f c) offset e (omega (arith, p, l)) (ap (λ b. cond b ((here c e).accepted e.payload) true) i ∙ j)))
      walked_more f c offset bytes rest m e after v h l s false a i j =
          let next = offset + nla_align (attribute_length e) in
          let r = rest_shorter w rest e after h in
          k.walked judged f t c next bytes after (plus m dropped) v (omega (arith, r, l)) (steps.past (form_of f) g bytes rest c e after m h i s)
          ∙ ap (λ b. is_none (list_refusal (at f (cond b (g.next c e) c)) next after)) (sym i)
          ∙ ap (λ z. is_none (list_refusal (following (at f c) e) next z)) (sym (continues f bytes after v))
          ∙ ap is_none (sym (nothing_here f c offset e (list_refusal (following (at f c) e) next (list_rest f after)) (ap (λ b. cond b ((here c e).accepted e.payload) true) i)))

      walked_next : (f : Form) (c : Context) (offset : ℕ) (bytes : List ℕ) (b : ℕ) (rest : List ℕ) (m : Measure) → IsWalked (form_of f) bytes → length (b ∷ rest) ≤ suc n → MeasuredSoFar (form_of f) g bytes m c (b ∷ rest) →
          (o : Option (Attribute × List ℕ)) → first_attribute (b ∷ rest) ≡ o → (list_rule (form_of f) g).accepted bytes ≡ is_none (next_refusal list_refusal (at f c) offset (b ∷ rest) o)
      walked_next f c offset bytes b rest m v l s None h = determines.rejects (list_rule (form_of f) g) bytes (steps.stopped (form_of f) g bytes (b ∷ rest) c m v h (omega arith) s)
      walked_next f c offset bytes b rest m v l s (Some x) h = walked_more f c offset bytes (b ∷ rest) m x.0 x.1 v h l s (is_kept (form_of f) x.0) ((here c x.0).accepted x.0.payload) refl refl

      walked_suc : (f : Form) (c : Context) (offset : ℕ) (bytes rest : List ℕ) (m : Measure) → IsWalked (form_of f) bytes → length rest ≤ suc n → MeasuredSoFar (form_of f) g bytes m c rest →
          (list_rule (form_of f) g).accepted bytes ≡ is_none (list_refusal (at f c) offset rest)
      walked_suc f c offset bytes [] m v l x = ended judged f t c offset bytes m v x
      walked_suc f c offset bytes (b ∷ rest) m v l x = walked_next f c offset bytes b rest m v l x (first_attribute (b ∷ rest)) refl ∙ sym (ap is_none (law.next (at f c) offset b rest))

      -- a list of which only the first attribute is kept
      first_more : (offset : ℕ) (bytes : List ℕ) (e : Attribute) (after : List ℕ) → first_attribute bytes ≡ Some (e, after) → length bytes ≤ suc n → (a : Bool) → (here no_kind_in_force e).accepted e.payload ≡ a →
          (list_rule first_only g).accepted bytes ≡ is_none (or_else (attribute_refusal list_refusal (whole FirstOnly t judged) offset e) (list_refusal (following (whole FirstOnly t judged) e) (offset + nla_align (attribute_length e)) []))
      first_more offset bytes e after h l true j =
          let next = offset + nla_align (attribute_length e) in
          (determines.determines (list_rule first_only g) bytes (with_header (measure_of (here no_kind_in_force e) e.payload)) (determines.first_some g bytes e after (Some (measure_of (here no_kind_in_force e) e.payload)) h (measured (here no_kind_in_force e) e.payload j))).accepted
          ∙ ap is_none (sym (law.none (following (whole FirstOnly t judged) e) next))
          ∙ ap is_none (sym (nothing_here FirstOnly no_kind_in_force offset e (list_refusal (following (whole FirstOnly t judged) e) next []) j))
      first_more offset bytes e after h l false j =
          let p = w.within bytes e after h in
          determines.rejects (list_rule first_only g) bytes (determines.first_some g bytes e after None h (refused (here no_kind_in_force e) e.payload j))
          ∙ sym (none_before _ _ (attribute_some (whole FirstOnly t judged) offset e (omega (arith, p, l)) j))

      first_next : (offset b : ℕ) (bytes : List ℕ) → length (b ∷ bytes) ≤ suc n → (o : Option (Attribute × List ℕ)) → first_attribute (b ∷ bytes) ≡ o →
          (list_rule first_only g).accepted (b ∷ bytes) ≡ is_none (next_refusal list_refusal (whole FirstOnly t judged) offset (b ∷ bytes) o)
      first_next offset b bytes l None h = determines.rejects (list_rule first_only g) (b ∷ bytes) (determines.first_none g (b ∷ bytes) h)
      first_next offset b bytes l (Some x) h = first_more offset (b ∷ bytes) x.0 x.1 h l ((here no_kind_in_force x.0).accepted x.0.payload) refl

      first_suc : (offset b : ℕ) (bytes : List ℕ) → length (b ∷ bytes) ≤ suc n → (list_rule first_only g).accepted (b ∷ bytes) ≡ is_none (list_refusal (whole FirstOnly t judged) offset (b ∷ bytes))
      first_suc offset b bytes l = first_next offset b bytes l (first_attribute (b ∷ bytes)) refl ∙ sym (ap is_none (law.next (whole FirstOnly t judged) offset b bytes))

  walked_zero : (judged : Bool) (f : Form) (t : Table) (c : Context) (offset : ℕ) (bytes rest : List ℕ) (m : Measure) → IsWalked (form_of f) bytes → length rest ≤ 0 →
      MeasuredSoFar (form_of f) (grammar_at judged t) bytes m c rest →
      (list_rule (form_of f) (grammar_at judged t)).accepted bytes ≡ is_none (list_refusal (record { table = list_table f t; context = c; judged = judged }) offset rest)
  walked_zero judged f t c offset bytes [] m v l x = ended judged f t c offset bytes m v x
  walked_zero judged f t c offset bytes (b ∷ rest) m v l x = absurd (omega (arith, l))

  known : (n : ℕ) → Known n
  known zero = record { walked = walked_zero; first = λ judged t offset b bytes l. absurd (omega (arith, l)) }
  known (suc n) = let k = known n in record {
    walked = λ judged f t c offset bytes rest m v l s. walked_suc n k judged t f c offset bytes rest m v l s;
    first = λ judged t offset b bytes l. first_suc n k judged t offset b bytes l;
  }

  pub lists : ListsAreAccepted
  lists judged f t attribute_offset p = listed (length p) (known (length p)) judged f t attribute_offset p (omega arith)

  module _ (tables : LinksAreTables) where
    any_list : (judged : Bool) (t : Table) (offset : ℕ) (p : List ℕ) → (list_rule any (grammar_at judged t)).accepted p ≡ is_none (list_refusal (whole Any t judged) offset p)
    any_list judged t offset p = (known (length p)).walked judged Any t no_kind_in_force offset p p none_yet tt (omega arith) (steps.start any (grammar_at judged t) p)

    link_by : (judged : Bool) (attribute_offset offset : ℕ) (b : List ℕ) (short : Bool) → nat_lt (length b) 16 ≡ short →
        nat_le 16 (length b) && (attributes_rule (peer_of judged) (family b)).accepted (drop 16 b) ≡ is_none (link_refusal list_refusal judged attribute_offset offset b)
    link_by judged attribute_offset offset b true h =
        ap (λ x. x && (attributes_rule (peer_of judged) (family b)).accepted (drop 16 b)) (lt-leb 16 (length b) (ltb-true (length b) 16 h))
        ∙ ap (λ x. is_none (cond x (Some (found_at attribute_offset (R.CutLink (length b)))) (list_refusal (whole Any (family_table (slice_index b 0)) judged) (offset + 16) (drop 16 b)))) (sym h)
    link_by judged attribute_offset offset b false h =
        ap (λ x. x && (attributes_rule (peer_of judged) (family b)).accepted (drop 16 b)) (le-leb 16 (length b) (ltb-false (length b) 16 h))
        ∙ ap (λ r. r.accepted (drop 16 b)) (tables judged (slice_index b 0))
        ∙ any_list judged (family_table (slice_index b 0)) (offset + 16) (drop 16 b)
        ∙ ap (λ x. is_none (cond x (Some (found_at attribute_offset (R.CutLink (length b)))) (list_refusal (whole Any (family_table (slice_index b 0)) judged) (offset + 16) (drop 16 b)))) (sym h)

    pub links : LinksAreAccepted
    unfolding body_rule
    links judged attribute_offset offset b = link_by judged attribute_offset offset b (nat_lt (length b) 16) refl
