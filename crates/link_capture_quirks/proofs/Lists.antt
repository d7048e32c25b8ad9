-- The text of a list has no quirk if no attribute in it has one.
use Rattle.std.proofs.Common.{◌≡◌, ℕ, ◌+◌, Bool, true, false, cond, List, [], ◌∷◌, ◌++◌, Option, refl, sym, ap, subst, ◌∙◌}
use Rattle.std.specs.Prelude.{filter}
use Rattle.std.proofs.lemmas.Bool.{and_parts}
use Rattle.netlink_packet_core_grammar.specs.Attributes.{Attribute, nla_align, attribute_length, attribute_text, list_text, first_attribute}
use Rattle.netlink_packet_core_grammar.proofs.Attributes.{first_attribute_text}
use Rattle.attribute_tables_grammar.specs.Rules.{Rule}
use Rattle.attribute_tables_grammar.specs.Lists.{Context, no_kind_in_force, Grammar, row_of, all_accepted, canonical_form, canonical_forms, ListForm, of_kind_one, ports, is_of_kind_one, is_kept, kept, list_rule, without_context}
use Rattle.attribute_tables_grammar.specs.LookUps.{table_list_rule, table_row, rows_rule}
use Rattle.attribute_tables_grammar.specs.Peers.{RuleOfPeers}
use Rattle.attribute_tables_grammar.specs.Tables.{Table}
use Rattle.attribute_tables_grammar.proofs.LookUps.{list-rows}
use Rattle.attribute_tables_grammar.proofs.Lists.{accepted_list}
use Rattle.link_capture_quirks.specs.QuirkTables.{Listing}
use Rattle.link_capture_walks.specs.Walks.{collected_inside}
use Rattle.link_capture_quirks.specs.QuirkLists.{direct_quirks, inside_of, rest_after, list_quirks}
use Rattle.link_capture_quirks.specs.QuirkLaws.{ListsUnfoldByAttributes}

-- what a list's rule writes has no quirk as a list of this kind
abbrev pub HasNone : Listing → Rule → Type 0
HasNone l r = (offset : ℕ) (b : List ℕ) → r.accepted b ≡ true → list_quirks l offset (r.canonical b) ≡ []

-- the list inside an attribute with this payload has no quirk, if there is one
abbrev pub NoneInside : Option (Listing × ℕ) → List ℕ → Type 0
NoneInside o q = (offset : ℕ) → collected_inside list_quirks offset o q ≡ []

-- An attribute, as its row writes it, has no quirk, neither itself nor inside, and the context determines the kind of
-- list after it.
pub record WritesNoQuirks (g : Grammar) (form : ListForm) (listed : Context → Listing) : Type 0 where
  pub direct : (c : Context) (e : Attribute) (offset : ℕ) → is_kept form e ≡ true → (row_of g c e).rule.accepted e.payload ≡ true → direct_quirks (listed c).table offset (canonical_form (row_of g c e) e) ≡ []
  pub inner : (c : Context) (e : Attribute) → (row_of g c e).rule.accepted e.payload ≡ true → NoneInside (inside_of (listed c) (canonical_form (row_of g c e) e)) ((row_of g c e).rule.canonical e.payload)
  pub following : (c : Context) (e : Attribute) → rest_after (listed c) (canonical_form (row_of g c e) e) ≡ listed (g.next c e)

abbrev AllKept : ListForm → List Attribute → Type 0
AllKept form [] = Unit {0}
AllKept form (e ∷ es) = (is_kept form e ≡ true) × AllKept form es

every : (form : ListForm) → ((e : Attribute) → is_kept form e ≡ true) → (es : List Attribute) → AllKept form es
every form h [] = tt
every form h (e ∷ es) = (h e, every form h es)

filtered : (form : ListForm) → ((e : Attribute) → is_of_kind_one e ≡ true → is_kept form e ≡ true) → (es : List Attribute) → AllKept form (filter is_of_kind_one es)
filtered form h [] = tt
filtered form h (e ∷ es) = go (is_of_kind_one e) refl (filtered form h es)
  where
    go : (b : Bool) → is_of_kind_one e ≡ b → AllKept form (filter is_of_kind_one es) → AllKept form (cond b (e ∷ filter is_of_kind_one es) (filter is_of_kind_one es))
    go true is more = (h e is, more)
    go false is more = more

all-kept : (form : ListForm) (es : List Attribute) → AllKept form (kept form es)
all-kept of_kind_one es = filtered of_kind_one (λ e h. h) es
all-kept ports es = filtered ports (λ e h. h) es
all-kept form es = every form (λ e. refl) es

module _ (s : ListsUnfoldByAttributes) where
  module _ (g : Grammar) (form : ListForm) (listed : Context → Listing) (q : WritesNoQuirks g form listed) where
    text-none : (c : Context) (offset : ℕ) (es : List Attribute) → AllKept form es → all_accepted g c es ≡ true → list_quirks (listed c) offset (list_text (canonical_forms g c es)) ≡ []
    unfolding canonical_forms all_accepted list_text first_attribute
    text-none c offset [] k a = s.none (listed c) offset [] refl
    text-none c offset (e ∷ es) k a =
        let r = row_of g c e in
        let x = canonical_form r e in
        let rest = list_text (canonical_forms g (g.next c e) es) in
        let following = offset + nla_align (attribute_length x) in
        let h = and_parts (r.rule.accepted e.payload) _ a in
        s.next (listed c) offset (attribute_text x ++ rest) x rest (first_attribute_text x rest)
        ∙ ap (λ z. z ++ (collected_inside list_quirks (offset + 4) (inside_of (listed c) x) x.payload ++ list_quirks (rest_after (listed c) x) following rest)) (q.direct c e offset k.0 h.0)
        ∙ ap (λ z. z ++ list_quirks (rest_after (listed c) x) following rest) (q.inner c e h.0 (offset + 4))
        ∙ ap (λ l. list_quirks l following rest) (q.following c e)
        ∙ text-none (g.next c e) following es k.1 h.1

    pub list-none : HasNone (listed no_kind_in_force) (list_rule form g)
    list-none offset b a =
        let k = accepted_list form g b a in
        ap (λ t. list_quirks (listed no_kind_in_force) offset t) k.canonical ∙ text-none no_kind_in_force offset (kept form k.es) (all-kept form k.es) k.accepted

  -- a list whose rows are the same for every position
  pub rows-none : (p : RuleOfPeers) (form : ListForm) (t : Table) (l : Listing) → WritesNoQuirks (without_context (table_row p t)) form (λ c. l) → HasNone l (table_list_rule p form t)
  unfolding rows_rule
  rows-none p form t l q = subst (HasNone l) (sym (list-rows p form t)) (list-none (without_context (table_row p t)) form (λ c. l) q)
