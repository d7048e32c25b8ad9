-- The lists inside attributes, and lists that have no quirk.
use Rattle.std.proofs.Common.{◌≡◌, ℕ, zero, suc, ◌+◌, Bool, true, false, cond, eqb, leb, List, [], ◌++◌, length, Option, Some, None, refl, sym, ap, subst, ◌∙◌}
use Rattle.std.specs.Prelude.{◌&&◌, ◌||◌, slice_index}
use Rattle.std.proofs.Math.Bool.{and-false}
use Rattle.std.proofs.lemmas.Bool.{eqb-true, and_right, cond_both}
use Rattle.netlink_packet_core_grammar.specs.Attributes.{Attribute, proper_kind, nla_align, attribute_length, first_attribute}
use Rattle.attribute_tables_grammar.specs.Rules.{Rule}
use Rattle.attribute_tables_grammar.specs.Lists.{Row, canonical_form}
use Rattle.attribute_tables_grammar.proofs.Attributes.{proper_kind-written}
use Rattle.link_capture_quirks.specs.declared.quirk_at.Quirk.{Quirk}
use Rattle.link_capture_quirks.specs.declared.quirk_at.QuirkAt.{QuirkAt}
use Rattle.link_capture_quirks.specs.declared.tables.Table.{Table}
use Rattle.link_capture_quirks.specs.QuirkRows.{nested_bit_quirk, payload_quirk}
use Rattle.link_capture_walks.specs.Listings.{whole}
use Rattle.link_capture_quirks.specs.QuirkTables.{Listing, family_table, inside, inside_table, at_payload_start, has_peer}
use Rattle.link_capture_walks.specs.Walks.{OfLists, collected, collected_inside, collected_next, collected_within}
use Rattle.link_capture_quirks.specs.QuirkLists.{quirks_at, direct_quirks, inside_of, rest_after, list_quirks, quirk_walk}
use Rattle.link_capture_quirks.proofs.Lists.{HasNone, NoneInside}

-- ---- choices

pub at_kind : (P : ℕ → Type 0) (k n : ℕ) → eqb k n ≡ true → P n → P k
at_kind P k n e h = subst P (sym (eqb-true k n e)) h

pub either : {P : Type 0} (a b : Bool) → (a || b) ≡ true → (a ≡ true → P) → (b ≡ true → P) → P
either true b h f g = f refl
either false b h f g = g h

pub split : {A : Type 0} (P : A → Type 0) (b : Bool) (x y : A) → (b ≡ true → P x) → P y → P (cond b x y)
split P b x y f h = cond_both b x y P f (λ _. h)

pub nothing-inside : (l : Listing) (q : List ℕ) (o : Option Table) → o ≡ None → NoneInside (at_payload_start l o) q
nothing-inside l q o h = subst (λ x. NoneInside (at_payload_start l x) q) (sym h) (λ offset. refl)

-- a list that is the whole payload
pub whole-list : (t : Table) (j : Bool) (r : Rule) (b : List ℕ) → HasNone (whole t j) r → r.accepted b ≡ true → (l : Listing) → l.judged ≡ j → NoneInside (at_payload_start l (Some t)) (r.canonical b)
whole-list t j r b h a l e offset = ap (λ x. list_quirks (whole t x) (offset + 0) (r.canonical b)) e ∙ h (offset + 0) b a

-- ---- lists in which no peer is judged

unjudged : (a b c : Bool) → (a && (b && (c && false))) ≡ false
unjudged a b c = and_right a _ (and_right b _ (and-false c))

pub without-peer : (l : Listing) (k : ℕ) (q : List ℕ) → has_peer l.table ≡ false → inside l k q ≡ at_payload_start l (inside_table l.table l.context k)
unfolding inside
without-peer l k q h =
    let peer : Option (Listing × ℕ) = Some (whole (family_table (slice_index q 0)) false, 16) in
    ap (λ b. cond (eqb k 1 && (l.judged && (leb 16 (length q) && b))) peer (at_payload_start l (inside_table l.table l.context k))) h
    ∙ ap (λ b. cond b peer (at_payload_start l (inside_table l.table l.context k))) (unjudged (eqb k 1) l.judged (leb 16 (length q)))

-- the list inside an attribute, as its row writes it
pub written-inside : (l : Listing) (r : Row) (e : Attribute) → has_peer l.table ≡ false → NoneInside (at_payload_start l (inside_table l.table l.context (proper_kind e.kind))) (r.rule.canonical e.payload) → NoneInside (inside_of l (canonical_form r e)) (r.rule.canonical e.payload)
written-inside l r e h s =
    let q = r.rule.canonical e.payload in
    subst (λ o. NoneInside o q) (sym (ap (λ k. inside l k q) (proper_kind-written r e.kind) ∙ without-peer l (proper_kind e.kind) q h)) s

-- ---- lists whose attributes have no quirk themselves

pub record HasNoQuirks (t : Table) : Type 0 where
  pub bit : (k : ℕ) → nested_bit_quirk t k ≡ None
  pub payload : (k : ℕ) (p : List ℕ) → payload_quirk t k p ≡ None

both-none : (b : Bool) (o : Option Quirk) → o ≡ None → cond b o None ≡ None
both-none true o h = h
both-none false o h = refl

pub no-quirks-direct : (t : Table) (offset : ℕ) (e : Attribute) → HasNoQuirks t → direct_quirks t offset e ≡ []
unfolding direct_quirks
no-quirks-direct t offset e d =
    ap (λ z. quirks_at offset z ++ quirks_at offset (payload_quirk t (proper_kind e.kind) e.payload)) (both-none (leb 0x8000 e.kind) (nested_bit_quirk t (proper_kind e.kind)) (d.bit (proper_kind e.kind)))
    ∙ ap (quirks_at offset) (d.payload (proper_kind e.kind) e.payload)

-- if no attribute has a list inside, and the list kind stays the same
module _ (l : Listing) (d : HasNoQuirks l.table) (inner : (e : Attribute) → inside_of l e ≡ None) (same : (e : Attribute) → rest_after l e ≡ l) where
  next-none : (list : OfLists Listing (List QuirkAt)) → ((offset : ℕ) (b : List ℕ) → list l offset b ≡ []) → (offset : ℕ) (o : Option (Attribute × List ℕ)) → collected_next quirk_walk list l offset o ≡ []
  next-none list h offset None = refl
  next-none list h offset (Some x) =
      let following = offset + nla_align (attribute_length x.0) in
      ap (λ z. z ++ (collected_inside list (offset + 4) (inside_of l x.0) x.0.payload ++ list (rest_after l x.0) following x.1)) (no-quirks-direct l.table offset x.0 d)
      ∙ ap (λ o. collected_inside list (offset + 4) o x.0.payload ++ list (rest_after l x.0) following x.1) (inner x.0)
      ∙ ap (λ m. list m following x.1) (same x.0)
      ∙ h following x.1

  within-none : (n offset : ℕ) (b : List ℕ) → collected_within quirk_walk n l offset b ≡ []
  unfolding collected_within
  within-none zero offset b = refl
  within-none (suc n) offset b = next-none (collected_within quirk_walk n) (within-none n) offset (first_attribute b)

  pub none-at-all : (offset : ℕ) (b : List ℕ) → list_quirks l offset b ≡ []
  unfolding list_quirks collected
  none-at-all offset b = within-none (length b) offset b
