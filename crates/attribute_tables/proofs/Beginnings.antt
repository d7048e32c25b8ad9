-- The first attribute of a list, from the facts that its reader has.
use Rattle.std.proofs.Common.{◌≡◌, ℕ, zero, suc, ◌≤◌, Bool, true, false, cond, List, [], ◌∷◌, length, Option, Some, None, refl, ap, ◌∙◌, arith}
use Rattle.std.specs.Prelude.{◌&&◌, ◌||◌, is_some}
use Rattle.std.specs.Option.{option_and_then}
use Rattle.netlink_packet_core_grammar.specs.Attributes.{Attribute, first_attribute}
use Rattle.netlink_packet_core_grammar.specs.AttributeViews.{BeginsWithAttribute, viewed_attribute, viewed_payload, after_first}
use Rattle.netlink_packet_core_grammar.specs.Laws.{FirstIsViewed, FirstIsWithin}
use Rattle.netlink_packet_core.specs.Families.{family_row, may_allocate, accepts}
use Rattle.attribute_tables_grammar.specs.Lists.{Row, is_of_kind_one}
use Rattle.attribute_tables_grammar.specs.Tables.{Table}
use Rattle.attribute_tables.specs.Views.{is_accepted_by}
use Rattle.attribute_tables.specs.Beginnings.{begins_with_attribute, begins_accepted, begins_readable, first_entry_within, first_entry, is_readable_entry, entries_begin_readable}

or_right : (a b : Bool) → b ≡ true → (a || b) ≡ true
or_right true b h = refl
or_right false b h = h

either_accepted : (w a h : Bool) → (w && (a || (h && a))) ≡ true → (w && a) ≡ true
either_accepted true true h e = refl
either_accepted true false true e = e
either_accepted true false false e = e
either_accepted false a h e = e

module _ (first : FirstIsViewed) where
  begun : (b : List ℕ) → BeginsWithAttribute b → begins_with_attribute b ≡ true
  begun b h = ap is_some (first.whole b h)

  -- the first attribute is accepted
  pub begins-accepted : (rows : ℕ → Row) (may : List ℕ → Bool) (b : List ℕ) → BeginsWithAttribute b → is_accepted_by rows b ≡ true → begins_readable rows may b ≡ true
  unfolding begins_readable
  begins-accepted rows may b h a = ap (λ w. w && (is_accepted_by rows b || may b)) (begun b h) ∙ ap (λ x. x || may b) a

  -- reading the first attribute may run out of memory
  pub begins-allocating : (rows : ℕ → Row) (may : List ℕ → Bool) (b : List ℕ) → BeginsWithAttribute b → may b ≡ true → begins_readable rows may b ≡ true
  unfolding begins_readable
  begins-allocating rows may b h m = ap (λ w. w && (is_accepted_by rows b || may b)) (begun b h) ∙ or_right (is_accepted_by rows b) (may b) m

  -- either the attribute is accepted, or reading it may run out of memory
  pub accepted-begins : (rows : ℕ → Row) (b : List ℕ) → BeginsWithAttribute b → is_accepted_by rows b ≡ true → begins_accepted rows b ≡ true
  unfolding begins_accepted
  accepted-begins rows b h a = ap (λ w. w && is_accepted_by rows b) (begun b h) ∙ a

-- reading a family's attribute runs out of memory only if the attribute is accepted
pub family-begins : (t : Table) (b : List ℕ) → begins_readable (family_row t) (may_allocate t) b ≡ true → begins_accepted (family_row t) b ≡ true
unfolding begins_readable begins_accepted
family-begins t b e = either_accepted (begins_with_attribute b) (accepts t b) _ e

-- ---- lists of which the attributes of kind 1 are kept

-- the first attribute is cut off
after_cut : (m n : ℕ) (o : Option (Attribute × List ℕ)) → ((x : Attribute × List ℕ) → o ≡ Some x → first_entry_within m x.1 ≡ first_entry_within n x.1) →
    option_and_then (λ x. cond (is_of_kind_one x.0) (Some x.0) (first_entry_within m x.1)) o ≡ option_and_then (λ x. cond (is_of_kind_one x.0) (Some x.0) (first_entry_within n x.1)) o
after_cut m n None h = refl
after_cut m n (Some x) h = ap (λ r. cond (is_of_kind_one x.0) (Some x.0) r) (h x refl)

module _ (within : FirstIsWithin) where
  -- as many steps as there are bytes are enough
  enough : (m n : ℕ) (b : List ℕ) → length b ≤ m → length b ≤ n → first_entry_within m b ≡ first_entry_within n b
  unfolding first_entry_within first_attribute
  enough zero (suc n) (a ∷ b) k l = absurd (omega arith)
  enough (suc m) zero (a ∷ b) k l = absurd (omega arith)
  enough (suc m) (suc n) b k l =
      after_cut m n (first_attribute b) (λ x e.
      let r = within.rest_length b x.0 x.1 e in
      enough m n x.1 (omega (arith, r, k)) (omega (arith, r, l)))
  enough x y b k l = refl

  module _ (first : FirstIsViewed) where
    entry_step : (b : List ℕ) → BeginsWithAttribute b → first_entry b ≡ cond (is_of_kind_one (viewed_attribute b)) (Some (viewed_attribute b)) (first_entry (after_first b))
    unfolding first_entry_within
    entry_step b h =
        let f = first.whole b h in
        let r = within.rest_length b (viewed_attribute b) (after_first b) f in
        enough (length b) (suc (length b)) b (omega arith) (omega arith)
        ∙ ap (λ o. option_and_then (λ x. cond (is_of_kind_one x.0) (Some x.0) (first_entry_within (length b) x.1)) o) f
        ∙ ap (λ r. cond (is_of_kind_one (viewed_attribute b)) (Some (viewed_attribute b)) r) (enough (length b) (length (after_first b)) (after_first b) (omega (arith, r)) (omega arith))

    -- the first attribute is an entry
    pub entries-here : (r : Row) (may : List ℕ → Bool) (b : List ℕ) → BeginsWithAttribute b → is_of_kind_one (viewed_attribute b) ≡ true → (r.rule.accepted (viewed_payload b) || may (viewed_payload b)) ≡ true → entries_begin_readable r may b ≡ true
    unfolding entries_begin_readable
    entries-here r may b h one e = ap (is_readable_entry r may) (entry_step b h ∙ ap (λ t. cond t (Some (viewed_attribute b)) (first_entry (after_first b))) one) ∙ e

    pub entries-accepted : (r : Row) (may : List ℕ → Bool) (b : List ℕ) → BeginsWithAttribute b → is_of_kind_one (viewed_attribute b) ≡ true → r.rule.accepted (viewed_payload b) ≡ true → entries_begin_readable r may b ≡ true
    entries-accepted r may b h one a = entries-here r may b h one (ap (λ x. x || may (viewed_payload b)) a)

    pub entries-allocating : (r : Row) (may : List ℕ → Bool) (b : List ℕ) → BeginsWithAttribute b → is_of_kind_one (viewed_attribute b) ≡ true → may (viewed_payload b) ≡ true → entries_begin_readable r may b ≡ true
    entries-allocating r may b h one m = entries-here r may b h one (or_right (r.rule.accepted (viewed_payload b)) (may (viewed_payload b)) m)

    -- the first attribute is of another kind
    pub entries-past : (r : Row) (may : List ℕ → Bool) (b : List ℕ) → BeginsWithAttribute b → is_of_kind_one (viewed_attribute b) ≡ false → entries_begin_readable r may (after_first b) ≡ true → entries_begin_readable r may b ≡ true
    unfolding entries_begin_readable
    entries-past r may b h other e = ap (is_readable_entry r may) (entry_step b h ∙ ap (λ t. cond t (Some (viewed_attribute b)) (first_entry (after_first b))) other) ∙ e
