-- A walk up to an offset.
use Rattle.std.proofs.Common.{◌≡◌, ℕ, ◌+◌, Bool, true, false, cond, List, [], ◌∷◌, ◌++◌, Option, Some, None, refl, sym, ap, ◌∙◌}
use Rattle.std.specs.Prelude.{is_some, nat_le}
use Rattle.netlink_packet_core_grammar.specs.Attributes.{Attribute, attribute_length, first_attribute, nla_align}
use Rattle.link_capture_walks.specs.Walks.{collected_inside, or_else}
use Rattle.link_capture_walks.proofs.Choices.{none_taken, some_taken}
use Rattle.link_capture_attributes.specs.Attributes.{Found, Level, after, first_from, found_in, inside, list_attributes}
use Rattle.link_capture_attributes.specs.AttributeLaws.{ListsUnfoldByAttributes}
use Rattle.link_capture_attributes.specs.AttributeViews.{optional_found, found}
use Rattle.link_capture_lists.specs.ListTables.{list_rest}
use Rattle.link_capture_attributes.specs.declared.attribute_at.AttributeAt.{AttributeAt}

first_of_both : (n : ℕ) (fs gs : List Found) → first_from n (fs ++ gs) ≡ or_else (first_from n fs) (first_from n gs)
first_of_both n [] gs = refl
first_of_both n (f ∷ fs) gs = by (nat_le n f.offset) (first_of_both n fs gs)
  where
    by : (here : Bool) → first_from n (fs ++ gs) ≡ or_else (first_from n fs) (first_from n gs) → cond here (Some f) (first_from n (fs ++ gs)) ≡ or_else (cond here (Some f) (first_from n fs)) (first_from n gs)
    by true later = refl
    by false later = later

-- no attribute is left
pub ended : ListsUnfoldByAttributes → (position : ℕ) (l : Level) (offset : ℕ) (rest : List ℕ) → first_attribute rest ≡ None → first_from position (list_attributes l offset rest) ≡ None
ended s position l offset rest h = ap (first_from position) (s.none l offset rest h)

module _ (s : ListsUnfoldByAttributes) (position : ℕ) (l : Level) (offset : ℕ) (rest : List ℕ) (e : Attribute) (behind : List ℕ) (f : first_attribute rest ≡ Some (e, behind)) where
  abbrev within : List Found
  within = collected_inside list_attributes (offset + 4) (inside l e) e.payload

  abbrev more : List Found
  more = list_attributes (after l e) (offset + nla_align (attribute_length e)) (list_rest l.list.table.form behind)

  -- the first attribute is at the position or after it
  pub here : nat_le position offset ≡ true → first_from position (list_attributes l offset rest) ≡ Some (found_in l offset e)
  here h = ap (first_from position) (s.next l offset rest e behind f) ∙ ap (λ b. cond b (Some (found_in l offset e)) (first_from position (within ++ more))) h

  passed : nat_le position offset ≡ false → first_from position (list_attributes l offset rest) ≡ or_else (first_from position within) (first_from position more)
  passed h = ap (first_from position) (s.next l offset rest e behind f) ∙ ap (λ b. cond b (Some (found_in l offset e)) (first_from position (within ++ more))) h ∙ first_of_both position within more

  module _ (h : nat_le position offset ≡ false) (o : Option AttributeAt) (i : optional_found o ≡ first_from position within) where
    -- it is inside the first attribute
    pub found_inside : is_some o ≡ true → optional_found o ≡ first_from position (list_attributes l offset rest)
    found_inside t = sym (some_taken found o (first_from position more) t) ∙ ap (λ z. or_else z (first_from position more)) i ∙ sym (passed h)

    -- it isn't
    pub found_after : is_some o ≡ false → first_from position more ≡ first_from position (list_attributes l offset rest)
    found_after t = sym (none_taken found o (first_from position more) t) ∙ ap (λ z. or_else z (first_from position more)) i ∙ sym (passed h)

  -- the first attribute has no list inside
  pub plain_after : nat_le position offset ≡ false → inside l e ≡ None → first_from position more ≡ first_from position (list_attributes l offset rest)
  plain_after h n = ap (λ o. or_else (first_from position (collected_inside list_attributes (offset + 4) o e.payload)) (first_from position more)) (sym n) ∙ sym (passed h)
