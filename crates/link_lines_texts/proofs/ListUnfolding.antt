-- The lines of a list are determined attribute by attribute, however many steps are allowed.
use Rattle.std.proofs.Common.{◌≡◌, ℕ, zero, suc, ◌+◌, ◌≤◌, Bool, true, false, cond, List, [], ◌∷◌, ◌++◌, length, drop, Option, Some, None, refl, ap, subst, ◌∙◌, arith}
use Rattle.std.specs.Prelude.{⊤, nat_le}
use Rattle.std.proofs.lemmas.Bool.{cond_both, leb-true}
use Rattle.std.proofs.lemmas.List.{length-drop}
use Rattle.netlink_packet_core_grammar.specs.Attributes.{Attribute, nla_align, attribute_length, first_attribute, proper_kind}
use Rattle.netlink_packet_core_grammar.proofs.Attributes.{sized}
use Rattle.attribute_tables_grammar.specs.Lists.{Context, no_kind_in_force}
use Rattle.link_lines_parts.specs.Levels.{deepest_level}
use Rattle.link_lines_texts.specs.Format.{Inside, Inside.Peer, Inside.Nested, if_reached, known_inside}
use Rattle.link_lines_texts.specs.declared.attributes.ListTable.{ListTable}
use Rattle.link_lines_texts.specs.declared.format.Scope.{Scope}
use Rattle.link_lines_texts.specs.Lists.{in_peer, inside_lines, inside_list, inside_under, lines_within, list_inside, list_lines, nested_lines, next_in, next_lines, of_link, attribute_lines, rest_lines, named_attribute_list}
use Rattle.link_lines_texts.specs.AttributeNames.{Name, attribute_name_of}
use Rattle.link_lines_texts.specs.Laws.{ListsUnfoldByAttributes}

aligned : (n : ℕ) → n ≤ nla_align n
aligned n = omega arith

-- Any two numbers of steps that suffice yield the same lines.
abbrev Agree : ℕ → ℕ → Type 0
Agree m n = (level : ℕ) (list_table : ListTable) (c : Context) (bytes : List ℕ) → length bytes ≤ m → length bytes ≤ n → lines_within m level list_table c bytes ≡ lines_within n level list_table c bytes

-- A nested list is no longer than the attribute that holds it.
abbrev pub Within : ℕ → Option (ListTable × List ℕ) → Type 0
Within n None = ⊤
Within n (Some x) = length x.1 ≤ n

peer_by : (scope : Scope) (b : Bool) (p : List ℕ) → Within (length p) (cond b (Some (of_link (in_peer scope) p, drop 16 p)) None)
peer_by scope true p = omega (arith, length-drop 16 p)
peer_by scope false p = record {}

inside_within : (scope : Scope) (i : Inside) (p : List ℕ) → Within (length p) (inside_list scope i p)
inside_within scope (Nested t) p = omega arith
inside_within scope Peer p = peer_by scope (nat_le 16 (length p)) p
inside_within scope i p = record {}

named_attribute_within : (level : ℕ) (list_table : ListTable) (c : Context) (o : Option Name) (e : Attribute) → Within (length e.payload) (named_attribute_list level list_table c o e)
named_attribute_within level list_table c None e = record {}
named_attribute_within level list_table c (Some t) e = inside_within list_table.scope (inside_under level list_table c t e.payload) e.payload

pub list_within : (level : ℕ) (list_table : ListTable) (c : Context) (e : Attribute) → Within (length e.payload) (list_inside level list_table c e)
unfolding list_inside
list_within level list_table c e = named_attribute_within (level + 1) list_table c (attribute_name_of list_table.table.0 (proper_kind e.kind)) e

pub rest_shorter : (bytes : List ℕ) (e : Attribute) (rest : List ℕ) → first_attribute bytes ≡ Some (e, rest) → 4 + length rest ≤ length bytes
rest_shorter bytes e rest h =
    let a = aligned (attribute_length e) in
    let b = sized bytes e rest h in
    omega (arith, a, b.within, b.rest_length)

-- A list in the first attribute is shorter than the bytes.
pub list_shorter : (level : ℕ) (list_table : ListTable) (c : Context) (bytes : List ℕ) (e : Attribute) (x : ListTable × List ℕ) → 4 + length e.payload ≤ length bytes → list_inside level list_table c e ≡ Some x → 4 + length x.1 ≤ length bytes
list_shorter level list_table c bytes e x h i = let b : Within (length e.payload) (Some x) = subst (Within (length e.payload)) i (list_within level list_table c e) in omega (arith, b)

same_inside : (m n level size : ℕ) (o : Option (ListTable × List ℕ)) → Agree m n → Within size o → size ≤ m → size ≤ n → inside_lines (λ l t d b. lines_within m l t d b) level o ≡ inside_lines (λ l t d b. lines_within n l t d b) level o
same_inside m n level size None i w h k = refl
same_inside m n level size (Some x) i w h k = i level x.0 no_kind_in_force x.1 (omega (arith, w, h)) (omega (arith, w, k))

same_next : (m n level : ℕ) (list_table : ListTable) (c : Context) (bytes : List ℕ) → Agree m n → length bytes ≤ suc m → length bytes ≤ suc n → (o : Option (Attribute × List ℕ)) → first_attribute bytes ≡ o → next_lines (λ l t d b. lines_within m l t d b) level list_table c o ≡ next_lines (λ l t d b. lines_within n l t d b) level list_table c o
same_next m n level list_table c bytes i p q None h = refl
same_next m n level list_table c bytes i p q (Some x) h =
    let a = (sized bytes x.0 x.1 h).within in
    let r = rest_shorter bytes x.0 x.1 h in
    let size = length x.0.payload in
    ap (λ z. attribute_lines level list_table c x.0 ++ (z ++ lines_within m level list_table (next_in list_table.table c x.0) x.1))
    (same_inside m n (level + 1) size (list_inside level list_table c x.0) i (list_within level list_table c x.0) (omega (arith, a, p)) (omega (arith, a, q)))
    ∙ ap (λ z. attribute_lines level list_table c x.0 ++ (inside_lines (λ l t d b. lines_within n l t d b) (level + 1) (list_inside level list_table c x.0) ++ z)) (i level list_table (next_in list_table.table c x.0) x.1 (omega (arith, r, p)) (omega (arith, r, q)))

pub enough : (m n : ℕ) → Agree m n
unfolding lines_within first_attribute
enough zero zero level list_table c bytes p q = refl
enough zero (suc n) level list_table c [] p q = refl
enough zero (suc n) level list_table c (b ∷ bytes) p q = absurd (omega (arith, p))
enough (suc m) zero level list_table c [] p q = refl
enough (suc m) zero level list_table c (b ∷ bytes) p q = absurd (omega (arith, q))
enough (suc m) (suc n) level list_table c bytes p q = same_next m n level list_table c bytes (enough m n) p q (first_attribute bytes) refl

inside_is : (n level size : ℕ) (o : Option (ListTable × List ℕ)) → Within size o → size ≤ n → inside_lines (λ l t d b. lines_within n l t d b) level o ≡ nested_lines level o
unfolding list_lines
inside_is n level size None w h = refl
inside_is n level size (Some x) w h = enough n (length x.1) level x.0 no_kind_in_force x.1 (omega (arith, w, h)) (omega arith)

pub next : (level : ℕ) (list_table : ListTable) (c : Context) (bytes : List ℕ) (e : Attribute) (after : List ℕ) → first_attribute bytes ≡ Some (e, after) → rest_lines level list_table c bytes ≡ attribute_lines level list_table c e ++ (nested_lines (level + 1) (list_inside level list_table c e) ++ rest_lines level list_table (next_in list_table.table c e) after)
unfolding rest_lines lines_within
next level list_table c [] e after h = absurd (let a = (sized [] e after h).within in omega (arith, a))
next level list_table c (b ∷ bytes) e after h =
    let a = (sized (b ∷ bytes) e after h).within in
    let r = rest_shorter (b ∷ bytes) e after h in
    ap (λ o. next_lines (λ l t d z. lines_within (length bytes) l t d z) level list_table c o) h
    ∙ ap (λ z. attribute_lines level list_table c e ++ (z ++ lines_within (length bytes) level list_table (next_in list_table.table c e) after))
    (inside_is (length bytes) (level + 1) (length e.payload) (list_inside level list_table c e) (list_within level list_table c e) (omega (arith, a)))
    ∙ ap (λ z. attribute_lines level list_table c e ++ (nested_lines (level + 1) (list_inside level list_table c e) ++ z)) (enough (length bytes) (length after) level list_table (next_in list_table.table c e) after (omega (arith, r)) (omega arith))

pub none : (level : ℕ) (list_table : ListTable) (c : Context) (bytes : List ℕ) → first_attribute bytes ≡ None → rest_lines level list_table c bytes ≡ []
unfolding rest_lines lines_within
none level list_table c [] h = refl
none level list_table c (b ∷ bytes) h = ap (λ o. next_lines (λ l t d z. lines_within (length bytes) l t d z) level list_table c o) h

pub steps : ListsUnfoldByAttributes
unfolding list_lines rest_lines
steps = record {
  start = λ level list_table bytes. refl;
  next = next;
  none = none;
}

-- The lines of an attribute without a list, and those of the rest.
pub next_bare : (level : ℕ) (list_table : ListTable) (c : Context) (bytes : List ℕ) (e : Attribute) (after : List ℕ) → first_attribute bytes ≡ Some (e, after) → list_inside level list_table c e ≡ None →
    rest_lines level list_table c bytes ≡ attribute_lines level list_table c e ++ rest_lines level list_table (next_in list_table.table c e) after
next_bare level list_table c bytes e after h n =
    next level list_table c bytes e after h ∙ ap (λ o. attribute_lines level list_table c e ++ (nested_lines (level + 1) o ++ rest_lines level list_table (next_in list_table.table c e) after)) n

-- ---- lists in attributes aren't too deep

-- A list that is shown at this level, if there is one, isn't too deep.
abbrev InReach : ℕ → Option (ListTable × List ℕ) → Type 0
InReach level None = ⊤
InReach level (Some x) = level ≤ deepest_level

reach_by : (level : ℕ) (scope : Scope) (i : Inside) (p : List ℕ) (b : Bool) → nat_le level deepest_level ≡ b → InReach level (inside_list scope (if_reached b i) p)
reach_by level scope (Nested t) p true h = leb-true level deepest_level h
reach_by level scope (Nested t) p false h = record {}
reach_by level scope Peer p true h = cond_both (nat_le 16 (length p)) (Some (of_link (in_peer scope) p, drop 16 p)) None (InReach level) (λ e. leb-true level deepest_level h) (λ e. record {})
reach_by level scope Peer p false h = record {}
reach_by level scope i p b h = record {}

named_attribute_in_reach : (level : ℕ) (list_table : ListTable) (c : Context) (o : Option Name) (e : Attribute) → InReach level (named_attribute_list level list_table c o e)
named_attribute_in_reach level list_table c None e = record {}
named_attribute_in_reach level list_table c (Some t) e = reach_by level list_table.scope (known_inside list_table.scope c t.1 e.payload) e.payload (nat_le level deepest_level) refl

pub list_in_reach : (level : ℕ) (list_table : ListTable) (c : Context) (e : Attribute) (x : ListTable × List ℕ) → list_inside level list_table c e ≡ Some x → level + 1 ≤ deepest_level
unfolding list_inside
list_in_reach level list_table c e x h = subst (InReach (level + 1)) h (named_attribute_in_reach (level + 1) list_table c (attribute_name_of list_table.table.0 (proper_kind e.kind)) e)
