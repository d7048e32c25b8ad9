-- The refusal of a list, attribute by attribute: a larger number of steps yields the same refusal.
use Rattle.std.proofs.Common.{◌≡◌, ℕ, suc, ◌+◌, ◌≤◌, Bool, false, cond, List, [], ◌∷◌, drop, length, Option, Some, None, refl, ap, ◌∙◌, arith, length-drop}
use Rattle.std.specs.Prelude.{nat_lt, option_map, slice_index}
use Rattle.netlink_packet_core_grammar.specs.Attributes.{Attribute, nla_align, attribute_length, first_attribute, proper_kind}
use Rattle.netlink_packet_core_grammar.specs.Laws.{FirstIsWithin}
use Rattle.link_tables.specs.declared.rows.Form.TheVariants.{Any}
use Rattle.attribute_tables_grammar.specs.Peers.{bytes_peer}
use Rattle.link_message_grammar.specs.Body.{body_rule}
use Rattle.link_capture_lists.specs.declared.tables.Inside.{Inside}
use Rattle.link_capture_lists.specs.declared.tables.Inside.TheVariants as I
use Rattle.link_capture_refusals.specs.declared.reason.Reason.TheVariants as R
use Rattle.link_capture_walks.proofs.Listings.{rest_shorter}
use Rattle.link_capture_walks.proofs.Steps.{GoesInward, Same, Steps, by_step}
use Rattle.link_capture_lists.specs.ListTables.{Listing, list_rest, row_in, whole}
use Rattle.link_tables.specs.Tables.{family_table}
use Rattle.link_capture_lists.specs.RowRules.{following, is_accepted}
use Rattle.link_capture_refusals.specs.Refusals.{ListRefusal, attribute_refusal, found_at, inside_refusal, link_refusal, list_refusal, named, next_refusal, or_else, refusal_within, row_refusal, whole_refusal}
use Rattle.link_capture_refusals.specs.RefusalLaws.{ListsUnfoldByAttributes}
use Rattle.link_capture_lists.proofs.Lookups.{shorter_rest}

module _ (f g : ListRefusal) (k : ℕ) (i : Same f g k) where
  same_whole : (l : Listing) (attribute_offset : ℕ) (p : List ℕ) → length p ≤ k → whole_refusal f l attribute_offset p ≡ whole_refusal g l attribute_offset p
  same_whole l attribute_offset [] h = refl
  same_whole l attribute_offset (b ∷ p) h = i l (attribute_offset + 4) (b ∷ p) h

  same_link : (judged : Bool) (attribute_offset offset : ℕ) (b : List ℕ) → length b ≤ k → link_refusal f judged attribute_offset offset b ≡ link_refusal g judged attribute_offset offset b
  same_link judged attribute_offset offset b h =
      let d = length-drop 16 b in
      ap (cond (nat_lt (length b) 16) (Some (found_at attribute_offset (R.CutLink (length b))))) (i (whole Any (family_table (slice_index b 0)) judged) (offset + 16) (drop 16 b) (omega (arith, d, h)))

  same_inside : (judged : Bool) (inside : Inside) (attribute_offset : ℕ) (p : List ℕ) → length p ≤ k → inside_refusal f judged inside attribute_offset p ≡ inside_refusal g judged inside attribute_offset p
  same_inside judged (I.Value s) attribute_offset p h = refl
  same_inside judged (I.List form t) attribute_offset p h = same_whole (whole form t judged) attribute_offset p h
  same_inside judged I.Peer attribute_offset p h = ap (λ o. or_else o (Some (found_at attribute_offset (cond ((body_rule bytes_peer).empty_ports p) R.EmptyPorts R.Unfit)))) (same_link false attribute_offset (attribute_offset + 4) p h)
  same_inside judged (I.Refused r) attribute_offset p h = refl

  same_row : (judged : Bool) (o : Option (List ℕ × Inside)) (attribute_offset : ℕ) (p : List ℕ) → length p ≤ k → row_refusal f judged o attribute_offset p ≡ row_refusal g judged o attribute_offset p
  same_row judged None attribute_offset p h = refl
  same_row judged (Some x) attribute_offset p h = ap (option_map (named x.0)) (same_inside judged x.1 attribute_offset p h)

  same_attribute : (l : Listing) (offset : ℕ) (e : Attribute) → length e.payload ≤ k → attribute_refusal f l offset e ≡ attribute_refusal g l offset e
  same_attribute l offset e h = ap (cond (is_accepted l e) None) (same_row l.judged (row_in l.table.rows l.context (proper_kind e.kind)) offset e.payload h)

module _ (w : FirstIsWithin) where
  same_next : (f g : ListRefusal) (k : ℕ) → Same f g k → (l : Listing) (offset : ℕ) (bytes : List ℕ) → length bytes ≤ suc k → (o : Option (Attribute × List ℕ)) → first_attribute bytes ≡ o →
      next_refusal f l offset bytes o ≡ next_refusal g l offset bytes o
  same_next f g k i l offset bytes p None h = refl
  same_next f g k i l offset bytes p (Some x) h =
      let a = w.within bytes x.0 x.1 h in
      let r = rest_shorter w bytes x.0 x.1 h in
      let after_it = offset + nla_align (attribute_length x.0) in
      ap (λ o. or_else o (f (following l x.0) after_it (list_rest l.table.form x.1))) (same_attribute f g k i l offset x.0 (omega (arith, a, p)))
      ∙ ap (or_else (attribute_refusal g l offset x.0)) (i (following l x.0) after_it (list_rest l.table.form x.1) (omega (arith, shorter_rest l.table.form x.1, r, p)))

  abbrev step : ListRefusal → ListRefusal
  step f l offset [] = None
  step f l offset (b ∷ bytes) = next_refusal f l offset (b ∷ bytes) (first_attribute (b ∷ bytes))

  inward : GoesInward step
  inward f g k i l offset [] h = refl
  inward f g k i l offset (b ∷ bytes) h = same_next f g k i l offset (b ∷ bytes) h (first_attribute (b ∷ bytes)) refl

  by_steps : Steps step refusal_within
  unfolding refusal_within
  by_steps = record { next = each; none = λ n l offset. refl }
    where
      each : (n : ℕ) (l : Listing) (offset : ℕ) (bytes : List ℕ) → refusal_within (suc n) l offset bytes ≡ step (refusal_within n) l offset bytes
      each n l offset [] = refl
      each n l offset (b ∷ bytes) = refl

  pub next : (l : Listing) (offset b : ℕ) (bytes : List ℕ) → list_refusal l offset (b ∷ bytes) ≡ next_refusal list_refusal l offset (b ∷ bytes) (first_attribute (b ∷ bytes))
  unfolding list_refusal
  next l offset b bytes = by_step step refusal_within by_steps inward l offset (b ∷ bytes)

pub none : (l : Listing) (offset : ℕ) → list_refusal l offset [] ≡ None
unfolding list_refusal refusal_within
none l offset = refl

pub steps : FirstIsWithin → ListsUnfoldByAttributes
steps w = record { next = next w; none = none }
