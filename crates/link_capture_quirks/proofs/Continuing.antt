-- A walk passes an attribute of its innermost list.
use Rattle.std.proofs.Common.{◌≡◌, ℕ, ◌+◌, ◌-◌, ◌^◌, ◌≤◌, ◌<◌, List, [], ◌∷◌, ◌++◌, length, Option, Some, None, sym, ap, ◌∙◌, append_assoc, length-append, arith}
use Rattle.netlink_packet_core_grammar.specs.Attributes.{Attribute, nla_align, attribute_length, proper_kind, first_attribute}
use Rattle.link_capture_quirks.specs.declared.quirk_at.QuirkAt.{QuirkAt}
use Rattle.link_capture_quirks.specs.declared.walk.Level.{Level}
use Rattle.link_capture_walks.specs.Listings.{listing}
use Rattle.link_capture_quirks.specs.QuirkTables.{depth}
use Rattle.link_capture_quirks.specs.QuirkRows.{bit_quirk, payload_quirk}
use Rattle.link_capture_walks.specs.Walks.{collected_inside}
use Rattle.link_capture_quirks.specs.QuirkLists.{quirks_at, direct_quirks, inside_of, rest_after, list_quirks}
use Rattle.link_capture_quirks.specs.QuirkWalks.{optional_quirk, level_quirks, levels_quirks, walk_quirks, FitsInside, AreWithin, weight}
use Rattle.link_capture_quirks.specs.QuirkLaws.{ListsUnfoldByAttributes}
use Rattle.link_capture_quirks.proofs.Stacks.{quirks-push, weight-push, within-push, within-leading, within-last}

glue : (a b i n t : List QuirkAt) → ((a ++ b) ++ (i ++ n)) ++ t ≡ a ++ (b ++ (i ++ (n ++ t)))
glue a b i n t = append_assoc (a ++ b) (i ++ n) t ∙ append_assoc a b ((i ++ n) ++ t) ∙ ap (λ z. a ++ (b ++ z)) (append_assoc i n t)

-- an attribute of l, the innermost list; the list continues after it as m
pub record Next (l m : Level) (e : Attribute) : Type 0 where
  pub first : first_attribute l.rest.now ≡ Some (e, m.rest.now)
  pub within : 4 + length e.payload ≤ length l.rest.now
  pub left : length m.rest.now ≡ length l.rest.now - nla_align (4 + length e.payload)
  pub list : listing m.list ≡ rest_after (listing l.list) e
  pub deep : depth (listing m.list) ≡ depth (listing l.list)
  pub offset : m.offset ≡ l.offset + nla_align (attribute_length e)

-- and the list k is inside it
pub record Inner (l k : Level) (e : Attribute) (header_size : ℕ) : Type 0 where
  pub list : inside_of (listing l.list) e ≡ Some (listing k.list, header_size)
  pub deep : depth (listing k.list) < depth (listing l.list)
  pub offset : k.offset ≡ l.offset + 4 + header_size
  pub inside : header_size ≤ length e.payload
  pub size : length k.rest.now ≡ length e.payload - header_size
  pub quirks_left : level_quirks k ≡ collected_inside list_quirks (l.offset + 4) (Some (listing k.list, header_size)) e.payload

pub record Found (l : Level) (e : Attribute) (first second : Option QuirkAt) : Type 0 where
  pub bit : optional_quirk first ≡ quirks_at l.offset (bit_quirk l.list.table e.kind)
  pub payload : optional_quirk second ≡ quirks_at l.offset (payload_quirk l.list.table (proper_kind e.kind) e.payload)

module _ (ls : List Level) (l m : Level) (e : Attribute) (h : AreWithin 0 (ls ++ l ∷ [])) (n : Next l m e) where
  last : FitsInside (0 + length ls) l
  last = within-last 0 ls l h

  fits : l.offset + length l.rest.now < 2 ^ 63
  fits = last.near (omega arith)

  pub within-next : AreWithin 0 (ls ++ m ∷ [])
  within-next = within-push 0 ls m (within-leading 0 ls l h) (record { depth_fits = omega (arith, last.depth_fits); near = λ some. omega (arith, fits) })

  pub less-next : weight (ls ++ m ∷ []) < weight (ls ++ l ∷ [])
  less-next = omega (arith, weight-push ls l, weight-push ls m)

  module _ (k : Level) (header_size : ℕ) (i : Inner l k e header_size) where
    pub within-inside : AreWithin 0 ((ls ++ m ∷ []) ++ k ∷ [])
    within-inside = within-push 0 (ls ++ m ∷ []) k within-next (record { depth_fits = omega (arith, last.depth_fits, length-append ls (m ∷ [])); near = λ some. omega (arith, fits) })

    pub less-inside : weight ((ls ++ m ∷ []) ++ k ∷ []) < weight (ls ++ l ∷ [])
    less-inside = omega (arith, weight-push ls l, weight-push ls m, weight-push (ls ++ m ∷ []) k)

module _ (s : ListsUnfoldByAttributes) (ls : List Level) (l m : Level) (e : Attribute) (n : Next l m e) (first second : Option QuirkAt) (f : Found l e first second) where
  direct : direct_quirks l.list.table l.offset e ≡ optional_quirk first ++ optional_quirk second
  unfolding direct_quirks
  direct = ap (λ z. z ++ quirks_at l.offset (payload_quirk l.list.table (proper_kind e.kind) e.payload)) (sym f.bit) ∙ ap (λ z. optional_quirk first ++ z) (sym f.payload)

  following : level_quirks m ≡ list_quirks (rest_after (listing l.list) e) (l.offset + nla_align (attribute_length e)) m.rest.now
  following = ap (λ z. list_quirks z m.offset m.rest.now) n.list ∙ ap (λ z. list_quirks (rest_after (listing l.list) e) z m.rest.now) n.offset

  whole : levels_quirks (ls ++ l ∷ []) ≡ ((optional_quirk first ++ optional_quirk second) ++ (collected_inside list_quirks (l.offset + 4) (inside_of (listing l.list) e) e.payload ++ level_quirks m)) ++ levels_quirks ls
  whole =
      quirks-push ls l
      ∙ ap (λ z. z ++ levels_quirks ls) (s.next (listing l.list) l.offset l.rest.now e m.rest.now n.first)
      ∙ ap (λ z. (z ++ (collected_inside list_quirks (l.offset + 4) (inside_of (listing l.list) e) e.payload ++ list_quirks (rest_after (listing l.list) e) (l.offset + nla_align (attribute_length e)) m.rest.now)) ++ levels_quirks ls) direct
      ∙ ap (λ z. ((optional_quirk first ++ optional_quirk second) ++ (collected_inside list_quirks (l.offset + 4) (inside_of (listing l.list) e) e.payload ++ z)) ++ levels_quirks ls) (sym following)

  pub quirks-next : inside_of (listing l.list) e ≡ None → walk_quirks first second (ls ++ m ∷ []) ≡ levels_quirks (ls ++ l ∷ [])
  quirks-next none =
      ap (λ z. optional_quirk first ++ (optional_quirk second ++ z)) (quirks-push ls m)
      ∙ sym (glue (optional_quirk first) (optional_quirk second) [] (level_quirks m) (levels_quirks ls))
      ∙ ap (λ o. ((optional_quirk first ++ optional_quirk second) ++ (collected_inside list_quirks (l.offset + 4) o e.payload ++ level_quirks m)) ++ levels_quirks ls) (sym none)
      ∙ sym whole

  pub quirks-inside : (k : Level) (header_size : ℕ) → Inner l k e header_size → walk_quirks first second ((ls ++ m ∷ []) ++ k ∷ []) ≡ levels_quirks (ls ++ l ∷ [])
  quirks-inside k header_size i =
      ap (λ z. optional_quirk first ++ (optional_quirk second ++ z)) (quirks-push (ls ++ m ∷ []) k ∙ ap (λ z. level_quirks k ++ z) (quirks-push ls m))
      ∙ sym (glue (optional_quirk first) (optional_quirk second) (level_quirks k) (level_quirks m) (levels_quirks ls))
      ∙ ap (λ z. ((optional_quirk first ++ optional_quirk second) ++ (z ++ level_quirks m)) ++ levels_quirks ls) (i.quirks_left ∙ ap (λ o. collected_inside list_quirks (l.offset + 4) o e.payload) (sym i.list))
      ∙ sym whole

-- if no whole attribute follows, the rest of the list has no quirk
pub quirks-end : ListsUnfoldByAttributes → (ls : List Level) (l : Level) → first_attribute l.rest.now ≡ None → levels_quirks ls ≡ levels_quirks (ls ++ l ∷ [])
quirks-end s ls l none = ap (λ z. z ++ levels_quirks ls) (sym (s.none (listing l.list) l.offset l.rest.now none)) ∙ sym (quirks-push ls l)

pub less-end : (ls : List Level) (l : Level) → weight ls < weight (ls ++ l ∷ [])
less-end ls l = omega (arith, weight-push ls l)
