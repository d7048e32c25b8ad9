-- A payload that begins with one attribute, and holds any bytes after it.
use Rattle.std.proofs.Common.{◌≡◌, ℕ, Bool, true, false, List, [], ◌∷◌, refl, sym, ap, ◌∙◌, append-nil}
use Rattle.std.proofs.Math.Bool.{and-true}
use Rattle.std.proofs.lemmas.Bool.{and_parts}
use Rattle.std.specs.Prelude.{◌&&◌, Result, Ok, Err}
use Rattle.netlink_packet_core_grammar.specs.Attributes.{Attribute, attribute_text, list_text}
use Rattle.netlink_packet_core_grammar.specs.AttributeViews.{BeginsWithAttribute, viewed_attribute}
use Rattle.netlink_packet_core_grammar.specs.Fits.{attribute_fits}
use Rattle.netlink_packet_core_grammar.specs.Laws.{FirstIsViewed}
use Rattle.netlink_packet_core.specs.Errors.{is_memory}
use Rattle.netlink_packet_core.specs.Families.{family_row, may_allocate}
use Rattle.netlink_packet_core.specs.declared.DecodeError.{DecodeError}
use Rattle.attribute_tables_grammar.specs.Lists.{Row, first_only, without_context}
use Rattle.attribute_tables_grammar.specs.LookUps.{table_list_rule, rows_rule}
use Rattle.attribute_tables_grammar.specs.Peers.{bytes_peer}
use Rattle.attribute_tables_grammar.specs.Readings.{AttributeReading, attribute_reading, all_readings_fit}
use Rattle.attribute_tables_grammar.specs.Tables.{Table}
use Rattle.attribute_tables_grammar.specs.Laws.{ReadingsDetermineRules, FirstOnlyIsRead, RowsAreLookedUp}
use Rattle.attribute_tables.specs.Beginnings.{begins_accepted}
use Rattle.attribute_tables.specs.Outcomes.{IfMemory, IsRefusedUnless, SucceedsIf}
use Rattle.attribute_tables.specs.Views.{viewed_row, is_accepted_by}
use Rattle.attribute_tables.proofs.Beginnings.{accepted-begins}

pub record First (rows : ℕ → Row) (b : List ℕ) (w : AttributeReading) : Type 0 where
  pub accepted : (rows_rule first_only rows).accepted b ≡ true
  pub canonical : attribute_text w.entry ≡ (rows_rule first_only rows).canonical b
  pub fits : (attribute_fits w.entry && w.inside_fits) ≡ (rows_rule first_only rows).fits b

one_fits : (w : AttributeReading) → all_readings_fit (w ∷ []) ≡ (attribute_fits w.entry && w.inside_fits)
unfolding all_readings_fit
one_fits w = and-true (attribute_fits w.entry && w.inside_fits)

same_implies_equal_text : (e : Attribute) → list_text (e ∷ []) ≡ attribute_text e
unfolding list_text
same_implies_equal_text e = append-nil (attribute_text e)

module _ (single : FirstOnlyIsRead) (determine : ReadingsDetermineRules) (rows : ℕ → Row) (b : List ℕ) where
  pub first_of : (w : AttributeReading) → BeginsWithAttribute b → is_accepted_by rows b ≡ true → w ≡ attribute_reading (viewed_row rows b) (viewed_attribute b) → First rows b w
  first_of w h a is =
      let t = determine.determines_rows first_only rows b (w ∷ []) (single.read (without_context rows) b w h a is) in
      record {
        accepted = t.accepted;
        canonical = sym (t.canonical ∙ same_implies_equal_text w.entry);
        fits = sym (t.fits ∙ one_fits w);
      }

  pub first_not : BeginsWithAttribute b → is_accepted_by rows b ≡ false → (rows_rule first_only rows).accepted b ≡ false
  first_not h a = determine.rejects_rows first_only rows b (single.refused (without_context rows) b h a)

  pub first_none : (BeginsWithAttribute b → ⊥) → (rows_rule first_only rows).accepted b ≡ false
  first_none h = determine.rejects_rows first_only rows b (single.missing (without_context rows) b h)

-- ---- the same for a family

module _ (single : FirstOnlyIsRead) (determine : ReadingsDetermineRules) (looked_up : RowsAreLookedUp) (t : Table) (b : List ℕ) where
  -- an attribute of which reading may run out of memory is accepted
  if_allocating : (m : Bool) → (m ≡ false → (rows_rule first_only (family_row t)).accepted b ≡ false) → (m ≡ true → BeginsWithAttribute b) → (m ≡ true → may_allocate t b ≡ true) → (rows_rule first_only (family_row t)).accepted b ≡ m
  if_allocating true denied whole allocates = (first_of single determine (family_row t) b (attribute_reading (viewed_row (family_row t) b) (viewed_attribute b)) (whole refl) (and_parts _ _ (allocates refl)).1 refl).accepted
  if_allocating false denied whole allocates = denied refl

  pub family-first-judged : {V : Type 0} (r : Result V DecodeError) → SucceedsIf r ((rows_rule first_only (family_row t)).accepted b) → IfMemory r (BeginsWithAttribute b) →
      IfMemory r (may_allocate t b ≡ true) → IsRefusedUnless r ((table_list_rule bytes_peer first_only t).accepted b)
  family-first-judged (Ok v) judged whole allocates = ap (λ r. r.accepted b) (looked_up.named bytes_peer first_only t) ∙ judged
  family-first-judged (Err e) judged whole allocates = ap (λ r. r.accepted b) (looked_up.named bytes_peer first_only t) ∙ if_allocating (is_memory e) judged whole allocates

pub family-first-memory : FirstIsViewed → (t : Table) (b : List ℕ) {V : Type 0} (r : Result V DecodeError) → IfMemory r (BeginsWithAttribute b) → IfMemory r (may_allocate t b ≡ true) →
    IfMemory r (begins_accepted (family_row t) b ≡ true)
family-first-memory first t b (Ok v) whole allocates = tt
family-first-memory first t b (Err e) whole allocates = λ m. accepted-begins first (family_row t) b (whole m) (and_parts _ _ (allocates m)).1
