-- The offset of a list's refusal is between the list's start and its end.
use Rattle.std.proofs.Common.{◌≡◌, ℕ, zero, suc, ◌+◌, ◌<◌, ◌≤◌, Bool, true, false, cond, List, [], ◌∷◌, drop, length, Option, Some, None, refl, sym, subst, arith, length-drop}
use Rattle.std.specs.Prelude.{nat_lt, option_map, slice_index}
use Rattle.std.proofs.lemmas.Bool.{ltb-false}
use Rattle.netlink_packet_core_grammar.specs.Attributes.{Attribute, nla_align, attribute_length, first_attribute, proper_kind}
use Rattle.netlink_packet_core_grammar.specs.Laws.{FirstIsWithin}
use Rattle.link_tables.specs.declared.rows.Form.{Form}
use Rattle.link_tables.specs.declared.rows.Form.TheVariants.{Any, OfKindOne}
use Rattle.link_capture_lists.specs.declared.tables.Inside.{Inside}
use Rattle.link_capture_lists.specs.declared.tables.Inside.TheVariants as I
use Rattle.link_capture_refusals.specs.declared.reason.Reason.TheVariants as R
use Rattle.link_capture_lists.specs.ListTables.{Listing, list_rest, list_table, row_in, whole}
use Rattle.link_tables.specs.Tables.{family_table}
use Rattle.link_capture_lists.specs.RowRules.{following, is_accepted}
use Rattle.link_capture_refusals.specs.RefusalLaws.{IsBetween, ListsUnfoldByAttributes}
use Rattle.link_capture_refusals.specs.Refusals.{Found, attribute_refusal, found_at, inside_refusal, link_refusal, list_refusal, named, next_refusal, or_else, row_refusal, whole_refusal}
use Rattle.link_capture_lists.proofs.Lookups.{shorter_rest}
use Rattle.link_capture_walks.proofs.Listings.{rest_shorter}

-- the offset of a refusal, if there is one, is between two offsets
abbrev pub IsPlacedBetween : ℕ → ℕ → Option Found → Type 0
IsPlacedBetween low high None = Unit {0}
IsPlacedBetween low high (Some f) = IsBetween low high f.offset

between_wider : (a b low high : ℕ) (o : Option ℕ) → low ≤ a → b ≤ high → IsBetween a b o → IsBetween low high o
between_wider a b low high None p q h = h
between_wider a b low high (Some x) p q h = (omega (arith, p, h.0), omega (arith, q, h.1))

wider : (a b low high : ℕ) (o : Option Found) → low ≤ a → b ≤ high → IsPlacedBetween a b o → IsPlacedBetween low high o
wider a b low high None p q h = tt
wider a b low high (Some f) p q h = between_wider a b low high f.offset p q h

between_else : (low high : ℕ) (o q : Option Found) → IsPlacedBetween low high o → IsPlacedBetween low high q → IsPlacedBetween low high (or_else o q)
between_else low high None q h i = i
between_else low high (Some f) q h i = h

between_named : (low high : ℕ) (n : List ℕ) (o : Option Found) → IsPlacedBetween low high o → IsPlacedBetween low high (option_map (named n) o)
between_named low high n None h = tt
between_named low high n (Some f) h = h

between_if : (low high : ℕ) (b : Bool) (o : Option Found) → IsPlacedBetween low high o → IsPlacedBetween low high (cond b None o)
between_if low high true o h = tt
between_if low high false o h = h

-- for lists of at most k bytes
abbrev Within : ℕ → Type 0
Within k = (l : Listing) (offset : ℕ) (bytes : List ℕ) → length bytes ≤ k → IsPlacedBetween offset (offset + length bytes) (list_refusal l offset bytes)

module _ (k : ℕ) (i : Within k) where
  between_whole : (l : Listing) (attribute_offset : ℕ) (p : List ℕ) → length p ≤ k → IsPlacedBetween attribute_offset (attribute_offset + 4 + length p) (whole_refusal list_refusal l attribute_offset p)
  between_whole l attribute_offset [] h = by_form l.table.form
    where
      by_form : (form : Form) → IsPlacedBetween attribute_offset (attribute_offset + 4 + 0) (whole_refusal list_refusal (record l { table = list_table form l.table.rows }) attribute_offset [])
      by_form Any = tt
      by_form OfKindOne = tt
      by_form form = (omega arith, omega arith)
  between_whole l attribute_offset (b ∷ p) h = wider (attribute_offset + 4) (attribute_offset + 4 + length (b ∷ p)) attribute_offset (attribute_offset + 4 + length (b ∷ p)) (list_refusal l (attribute_offset + 4) (b ∷ p)) (omega arith) (omega arith) (i l (attribute_offset + 4) (b ∷ p) h)

  between_link : (judged : Bool) (attribute_offset offset : ℕ) (b : List ℕ) → attribute_offset ≤ offset → length b ≤ k → IsPlacedBetween attribute_offset (offset + length b) (link_refusal list_refusal judged attribute_offset offset b)
  between_link judged attribute_offset offset b w h = by_size (nat_lt (length b) 16) refl
    where
      by_size : (short : Bool) → nat_lt (length b) 16 ≡ short → IsPlacedBetween attribute_offset (offset + length b) (cond short (Some (found_at attribute_offset (R.CutLink (length b)))) (list_refusal (whole Any (family_table (slice_index b 0)) judged) (offset + 16) (drop 16 b)))
      by_size true e = (omega arith, omega (arith, w))
      by_size false e =
          let d = length-drop 16 b in
          let s = ltb-false (length b) 16 e in
          wider (offset + 16) (offset + 16 + length (drop 16 b)) attribute_offset (offset + length b) (list_refusal (whole Any (family_table (slice_index b 0)) judged) (offset + 16) (drop 16 b)) (omega (arith, w)) (omega (arith, d, s))
          (i (whole Any (family_table (slice_index b 0)) judged) (offset + 16) (drop 16 b) (omega (arith, d, h)))

  between_inside : (judged : Bool) (inside : Inside) (attribute_offset : ℕ) (p : List ℕ) → length p ≤ k → IsPlacedBetween attribute_offset (attribute_offset + 4 + length p) (inside_refusal list_refusal judged inside attribute_offset p)
  between_inside judged (I.Value s) attribute_offset p h = (omega arith, omega arith)
  between_inside judged (I.List form t) attribute_offset p h = between_whole (whole form t judged) attribute_offset p h
  between_inside judged I.Peer attribute_offset p h = between_else attribute_offset (attribute_offset + 4 + length p) (link_refusal list_refusal false attribute_offset (attribute_offset + 4) p) _ (between_link false attribute_offset (attribute_offset + 4) p (omega arith) h) (omega arith, omega arith)
  between_inside judged (I.Refused r) attribute_offset p h = (omega arith, omega arith)

  between_row : (judged : Bool) (o : Option (List ℕ × Inside)) (attribute_offset : ℕ) (p : List ℕ) → length p ≤ k → IsPlacedBetween attribute_offset (attribute_offset + 4 + length p) (row_refusal list_refusal judged o attribute_offset p)
  between_row judged None attribute_offset p h = tt
  between_row judged (Some x) attribute_offset p h = between_named attribute_offset (attribute_offset + 4 + length p) x.0 (inside_refusal list_refusal judged x.1 attribute_offset p) (between_inside judged x.1 attribute_offset p h)

  between_attribute : (l : Listing) (offset : ℕ) (e : Attribute) → length e.payload ≤ k → IsPlacedBetween offset (offset + 4 + length e.payload) (attribute_refusal list_refusal l offset e)
  between_attribute l offset e h =
      let o = row_refusal list_refusal l.judged (row_in l.table.rows l.context (proper_kind e.kind)) offset e.payload in
      between_if offset (offset + 4 + length e.payload) (is_accepted l e) o (between_row l.judged (row_in l.table.rows l.context (proper_kind e.kind)) offset e.payload h)

  module _ (s : ListsUnfoldByAttributes) (w : FirstIsWithin) where
    -- no bytes have no refusal
    between_rest : (l : Listing) (offset size high : ℕ) (rest : List ℕ) → length rest ≤ k → (0 < length rest → offset + size + length rest ≤ high) → IsPlacedBetween offset high (list_refusal l (offset + size) rest)
    between_rest l offset size high [] h n = subst (IsPlacedBetween offset high) (sym (s.none l (offset + size))) tt
    between_rest l offset size high (b ∷ rest) h n =
        wider (offset + size) (offset + size + length (b ∷ rest)) offset high (list_refusal l (offset + size) (b ∷ rest)) (omega arith) (n (omega arith)) (i l (offset + size) (b ∷ rest) h)

    between_next : (l : Listing) (offset : ℕ) (bytes : List ℕ) → length bytes ≤ suc k → (o : Option (Attribute × List ℕ)) → first_attribute bytes ≡ o → IsPlacedBetween offset (offset + length bytes) (next_refusal list_refusal l offset bytes o)
    between_next l offset bytes p None h = (omega arith, omega arith)
    between_next l offset bytes p (Some x) h =
        let a = w.within bytes x.0 x.1 h in
        let r = rest_shorter w bytes x.0 x.1 h in
        let d = w.rest_length bytes x.0 x.1 h in
        let g = shorter_rest l.table.form x.1 in
        between_else offset (offset + length bytes) (attribute_refusal list_refusal l offset x.0) (list_refusal (following l x.0) (offset + nla_align (attribute_length x.0)) (list_rest l.table.form x.1))
        (wider offset (offset + 4 + length x.0.payload) offset (offset + length bytes) (attribute_refusal list_refusal l offset x.0) (omega arith) (omega (arith, a)) (between_attribute l offset x.0 (omega (arith, a, p))))
        (between_rest (following l x.0) offset (nla_align (attribute_length x.0)) (offset + length bytes) (list_rest l.table.form x.1) (omega (arith, g, r, p)) (λ n. omega (arith, n, g, d)))

module _ (s : ListsUnfoldByAttributes) (w : FirstIsWithin) where
  between : (k : ℕ) → Within k
  between k l offset [] h = subst (IsPlacedBetween offset (offset + 0)) (sym (s.none l offset)) tt
  between zero l offset (b ∷ bytes) h = absurd (omega (arith, h))
  between (suc k) l offset (b ∷ bytes) h =
      subst (IsPlacedBetween offset (offset + length (b ∷ bytes))) (sym (s.next l offset b bytes)) (between_next k (between k) s w l offset (b ∷ bytes) h (first_attribute (b ∷ bytes)) refl)

  -- the refusal of a link
  pub link_between : (judged : Bool) (offset : ℕ) (b : List ℕ) → IsPlacedBetween offset (offset + length b) (link_refusal list_refusal judged offset offset b)
  link_between judged offset b = between_link (length b) (between (length b)) judged offset offset b (omega arith) (omega arith)
