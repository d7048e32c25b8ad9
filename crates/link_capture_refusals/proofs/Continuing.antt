-- A walk continues after an attribute without a refusal.
use Rattle.std.proofs.Common.{◌≡◌, ℕ, ◌+◌, ◌<◌, true, false, List, [], ◌∷◌, length, Option, Some, None, sym, ap, ◌∙◌, arith}
use Rattle.std.specs.Prelude.{is_some}
use Rattle.netlink_packet_core_grammar.specs.Attributes.{Attribute, attribute_length, first_attribute, nla_align}
use Rattle.link_capture_lists.specs.ListTables.{Listing, list_rest}
use Rattle.link_capture_lists.specs.RowRules.{following}
use Rattle.link_capture_refusals.specs.declared.refusal.Refusal.{Refusal}
use Rattle.link_capture_refusals.specs.RefusalLaws.{ListsUnfoldByAttributes}
use Rattle.link_capture_refusals.specs.RefusalViews.{optional_found, found}
use Rattle.link_capture_refusals.specs.Refusals.{Found, attribute_refusal, found_at, list_refusal, next_refusal, no_attribute, or_else}
use Rattle.link_capture_walks.proofs.Choices.{none_taken, some_taken}

unfolds_next : ListsUnfoldByAttributes → (l : Listing) (offset : ℕ) (rest : List ℕ) → 0 < length rest → list_refusal l offset rest ≡ next_refusal list_refusal l offset rest (first_attribute rest)
unfolds_next s l offset [] h = absurd (omega (arith, h))
unfolds_next s l offset (b ∷ rest) h = s.next l offset b rest

-- no attribute follows
pub stopped : ListsUnfoldByAttributes → (l : Listing) (offset : ℕ) (rest : List ℕ) → 0 < length rest → first_attribute rest ≡ None → list_refusal l offset rest ≡ Some (found_at offset (no_attribute rest))
stopped s l offset rest h n = unfolds_next s l offset rest h ∙ ap (next_refusal list_refusal l offset rest) n

module _ (s : ListsUnfoldByAttributes) (l : Listing) (offset : ℕ) (rest : List ℕ) (e : Attribute) (after : List ℕ) (o : Option Refusal) (h : 0 < length rest) (f : first_attribute rest ≡ Some (e, after))
    (a : optional_found o ≡ attribute_refusal list_refusal l offset e) where
  abbrev more : Option Found
  more = list_refusal (following l e) (offset + nla_align (attribute_length e)) (list_rest l.table.form after)

  by_first : list_refusal l offset rest ≡ or_else (optional_found o) more
  by_first = unfolds_next s l offset rest h ∙ ap (next_refusal list_refusal l offset rest) f ∙ ap (λ z. or_else z more) (sym a)

  -- the attribute has a refusal, or none
  pub here : is_some o ≡ true → optional_found o ≡ list_refusal l offset rest
  here i = sym (some_taken found o more i) ∙ sym by_first

  pub passed : is_some o ≡ false → more ≡ list_refusal l offset rest
  passed i = sym (none_taken found o more i) ∙ sym by_first
